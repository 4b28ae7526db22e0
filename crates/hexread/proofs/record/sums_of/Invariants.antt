-- The loop's invariant: the pairs before i are summed.
use Rattle.hexread.proofs.ValueLaws.{Summing}
use Rattle.hexread.proofs.record.sums_of.Given as goal

abbrev pub invariant-loop-i : goal.invariant-loop-i
invariant-loop-i l = Summing l.chars l.i l.high l.low
