-- `climbs::climb::climb_on` meets its contract: a turn goes on to the number that the word tells.
use Rattle.climbs.proofs.ClimbLaws.{ahead_on, long_on}
use Rattle.climbs.proofs.climb.climb_on.Goals as goal

pub loop-next-preserved : goal.loop-next-preserved
loop-next-preserved c =
    let i = c.loop-next.invariant in
    let h = c.climb-come.ensures in (
      long_on _ _ _ _ h _ i.0,
      rw c.next-next.ensures (ahead_on _ _ _ _ h _ _ _ _ _ _ c.most_free-top.ensures i.0 (rw c.in-Some.is at i.1) (rw c.freed.ensures at c.raise-kept.ensures)),
    )
