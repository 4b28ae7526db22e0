-- `accesses::access::check_near` meets its contract: a direct, well-formed entry is its own owner.
use Rattle.checks.proofs.ReachLaws.{near_reaches, reach-locked, reach_open}
use Rattle.rulings.proofs.RulingLaws.{token-stops}
use Rattle.accesses.proofs.AccessLaws.{access-rest, access-token}
use Rattle.accesses.proofs.access.check_near.Goals as goal

pub returns-then-e-task : goal.returns-then-e-task
returns-then-e-task c s φ b long j ok =
    let k = near_reaches _ _ _ _ c.args.token.reads c.requires in
    token-stops _ s _ _ b ok (access-token _ _ _ _ _ _ _ _ j (reach-locked _ _ _ _ _ c.entry_at-e.result k.0 k.1.0 c.entry_at-e.ensures c.if-e-task.true))

pub returns : goal.returns
returns c s φ b long j ok =
    let k = near_reaches _ _ _ _ c.args.token.reads c.requires in
    rw (access-rest _ _ _ _ _ _ _ _ j ok (reach_open _ _ _ _ _ c.entry_at-e.result k.0 k.1.0 c.entry_at-e.ensures c.if-e-task.false)) (c.check_transfer.ensures c.args.memory c.args.task s φ b long)
