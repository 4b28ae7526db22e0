-- The widths are those of 01's table.
use Rattle.std.proofs.Common.{rules}
use Rattle.tokens.proofs.token.TokenEncoding.unpacked.Goals as goal

pub returns : goal.returns
returns g c = let e = g.Self.TokenEncoding in search (rules, e.number_is, e.offset_is)
