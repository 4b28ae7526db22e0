-- The two requests of paging, with their tokens read.
-- Assumes nothing.
use Rattle.machine.specs.Requests as request
use Rattle.rulings.specs.declared.request.PageIn.{PageIn}
use Rattle.rulings.specs.declared.request.PageOut.{PageOut}
use Rattle.tokens.specs.declared.read.Token.{Token}

abbrev pub page_out_with : (token : Token) → PageOut → request.Request
page_out_with x q = request.page_out x.word q.task q.page q.encoding

abbrev pub page_in_with : (token donor : Token) → PageIn → request.Request
page_in_with x y q = request.page_in x.word y.word q.task q.encoding
