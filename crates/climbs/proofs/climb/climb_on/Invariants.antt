-- The loop's invariant of `climbs::climb::climb_on`: so far the climb has come. The nonce falls with each turn.
use Rattle.std.proofs.Common.{◌≡◌, length}
use Rattle.climbs.specs.Climbs.{Ahead, word_of, yet}
use Rattle.climbs.proofs.climb.climb_on.Given as goal

abbrev pub invariant-loop-next : goal.invariant-loop-next
invariant-loop-next l = (length l.table ≡ length l.initial.table) × Ahead l.fn.total l.initial.table l.n l.kept l.table (word_of l.next)

abbrev pub decreases-loop-next : goal.decreases-loop-next
decreases-loop-next l = yet l.table (word_of l.next)
