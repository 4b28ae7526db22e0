-- `three_fields` meets its contract: no bit is lost.
use Rattle.std.proofs.Common.{arith}
use Rattle.layout.proofs.FieldBounds.{three_lt, three_packed}
use Rattle.layout.proofs.fields.three_fields.Goals as goal

pub overflow_add-result-2 : goal.overflow_add-result-2
overflow_add-result-2 g c = omega (arith, three_lt _ _ _ _ _ c.requires.widths c.requires.fit.0 c.requires.fit.1.0 c.requires.fit.1.1)

pub overflow_add-result-3 : goal.overflow_add-result-3
overflow_add-result-3 g c = omega (arith, three_lt _ _ _ _ _ c.requires.widths c.requires.fit.0 c.requires.fit.1.0 c.requires.fit.1.1)

pub returns : goal.returns
returns g c = three_packed _ _ _ _ _ c.requires.widths c.requires.fit.0 c.requires.fit.1.0 c.requires.fit.1.1
