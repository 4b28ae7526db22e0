-- `accesses::access::check_far` meets its contract: a law for each way out.
use Rattle.std.proofs.lemmas.Result.{err_from_is_err_and}
use Rattle.checks.proofs.ReachLaws.{reach_in}
use Rattle.rulings.proofs.RulingLaws.{token-stops}
use Rattle.accesses.proofs.AccessLaws.{access-rest, access-token}
use Rattle.accesses.proofs.access.check_far.Goals as goal

pub check_transfer-requires : goal.check_transfer-requires
check_transfer-requires c = reach_in _ _ _ _ c.in_ok-reach.ensures.0

pub returns-in_err-reach : goal.returns-in_err-reach
returns-in_err-reach c s φ b long j ok =
    let p = err_from_is_err_and c.from_residual.result c.from_residual.ensures.1 in
    rw (p.1, p.2) (token-stops _ s _ _ b ok (access-token _ _ _ _ _ _ _ _ j c.in_err-reach.ensures))

pub returns : goal.returns
returns c s φ b long j ok =
    rw (access-rest _ _ _ _ _ _ _ _ j ok c.in_ok-reach.ensures.0) (c.check_transfer.ensures c.args.memory c.args.task s φ b long)
