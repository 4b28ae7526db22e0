-- The loop's invariant of `numbers::numbers::free_in`: the first free number is that from n on.
use Rattle.numbers.specs.Searches.{Sought}
use Rattle.numbers.proofs.numbers.free_in.Given as goal

abbrev pub invariant-loop-n : goal.invariant-loop-n
invariant-loop-n l = Sought l.table l.start l.end l.n
