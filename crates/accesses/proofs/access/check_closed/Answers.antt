-- `accesses::access::check_closed` meets its contract: a law for each way out.
use Rattle.std.proofs.Common.{sym}
use Rattle.checks.proofs.ShiftLaws.{closed-pass, closed-stop}
use Rattle.accesses.proofs.access.check_closed.Goals as goal

pub returns-in-Err : goal.returns-in-Err
returns-in-Err c = sym (closed-stop _ _ _ _ c.in-Err.ensures)

pub returns-in-Ok : goal.returns-in-Ok
returns-in-Ok c = sym (closed-pass _ _ _ _ c.in-Ok.ensures.0)
