-- `accesses::access::check_token` meets its contract: what the leases come to picks the arm.
use Rattle.std.proofs.Common.{sym, ◌∙◌}
use Rattle.rulings.proofs.RulingLaws.{token-stops}
use Rattle.accesses.proofs.AccessLaws.{access-closed, access-unsound}
use Rattle.accesses.proofs.access.check_token.Goals as goal

pub returns-in-Unsound : goal.returns-in-Unsound
returns-in-Unsound c s φ b long j ok = token-stops _ s _ _ b ok (access-unsound _ _ _ _ _ _ _ _ (sym c.in-Unsound.is ∙ j))

pub returns-in-Closed : goal.returns-in-Closed
returns-in-Closed c s φ b long j ok = token-stops _ s _ _ b ok (access-closed _ _ _ _ _ _ _ _ (sym c.in-Closed.is ∙ j) (sym c.check_closed.ensures))
