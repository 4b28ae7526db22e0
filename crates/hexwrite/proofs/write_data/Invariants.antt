-- The loop's invariant: what the iterator has left is still to be written.
use Rattle.std.proofs.Common.{◌≡◌}
use Rattle.hexwrite.proofs.WriteLaws.{Writing}
use Rattle.hexwrite.proofs.write_data.Given as goal

abbrev pub invariant-loop-i : goal.invariant-loop-i
invariant-loop-i l = Writing l.initial.out l.bytes l.i-iterator.iter.rest.now l.out l.start l.i-iterator.count × (l.i-iterator.iter.size ≡ 16)
