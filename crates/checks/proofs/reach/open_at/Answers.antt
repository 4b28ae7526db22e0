-- `open_at` meets its contract: one law for each way out.
use Rattle.checks.proofs.ReachLaws.{reach-locked, reach_open}
use Rattle.checks.proofs.reach.open_at.Goals as goal

pub returns-then-e-task : goal.returns-then-e-task
returns-then-e-task c =
    let k = c.requires in
    reach-locked _ _ _ _ _ c.entry_at-e.result k.0 k.1.0 c.entry_at-e.ensures c.if-e-task.true

pub returns : goal.returns
returns c =
    let k = c.requires in
    (reach_open _ _ _ _ _ c.entry_at-e.result k.0 k.1.0 c.entry_at-e.ensures c.if-e-task.false, k.1)
