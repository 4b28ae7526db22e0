-- A create with its token read.
-- Assumes nothing.
use Rattle.machine.specs.Requests as request
use Rattle.rulings.specs.declared.request.Create.{Create}
use Rattle.tokens.specs.declared.read.Token.{Token}

abbrev pub create_with : (token : Token) → Create → request.Request
create_with x q = request.create x.word q.task q.length q.user q.permissions q.encoding
