-- `reach_near` meets its contract: a direct, well-formed entry is its own owner.
use Rattle.checks.proofs.ReachLaws.{near_reaches}
use Rattle.checks.proofs.reach.reach_near.Goals as goal

pub returns-then-near : goal.returns-then-near
returns-then-near c = near_reaches _ _ _ _ c.args.token.reads (c.near.ensures c.if-near.true)
