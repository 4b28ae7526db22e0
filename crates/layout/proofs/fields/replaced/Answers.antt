-- `replaced` meets its contract: the fields above and below are the word's own.
use Rattle.std.proofs.Common.{rules}
use Rattle.layout.proofs.FieldBounds.{high_lt}
use Rattle.layout.proofs.fields.replaced.Goals as goal

pub three_fields-requires-clause-fit : goal.three_fields-requires-clause-fit
three_fields-requires-clause-fit g c = (high_lt _ _ c.requires.widths (search rules), (c.requires.fit, c.low.ensures.upper_bound))
