-- It is one of 01's four, with the widths that it has there.
use Rattle.std.proofs.Common.{rules}
use Rattle.tokens.proofs.token.TokenEncoding.fits.Goals as goal

pub returns : goal.returns
returns g c = let e = g.Self.TokenEncoding in search (rules, e.known, e.number_is, e.offset_is)
