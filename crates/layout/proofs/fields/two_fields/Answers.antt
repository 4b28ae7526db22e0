-- `two_fields` meets its contract: no bit is lost.
use Rattle.std.proofs.Common.{arith}
use Rattle.layout.proofs.FieldBounds.{two_lt, two_packed}
use Rattle.layout.proofs.fields.two_fields.Goals as goal

pub overflow_add-result : goal.overflow_add-result
overflow_add-result g c = omega (arith, two_lt _ _ _ c.requires.widths c.requires.fit.0 c.requires.fit.1)

pub returns : goal.returns
returns g c = two_packed _ _ _ c.requires.widths c.requires.fit.0 c.requires.fit.1
