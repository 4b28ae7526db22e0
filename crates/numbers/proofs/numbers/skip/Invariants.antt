-- The loop's invariant of `numbers::numbers::skip`: the first free number is that from n on.
use Rattle.std.proofs.Common.{◌-◌}
use Rattle.numbers.specs.Searches.{Sought}
use Rattle.numbers.proofs.numbers.skip.Given as goal

abbrev pub invariant-loop-n : goal.invariant-loop-n
invariant-loop-n l = Sought l.table l.start l.end l.n

abbrev pub decreases-loop-n : goal.decreases-loop-n
decreases-loop-n l = l.end - l.n
