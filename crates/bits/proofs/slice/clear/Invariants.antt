-- `bits::slice::clear` meets its contract. The loop's invariant: the first i bytes are zeros, and the others as they were.
use mathlib.Core.Path.{◌≡◌}
use mathlib.Core.List.{◌++◌}
use lib.ListN.{drop, length, replicate}
use Rattle.bits.proofs.slice.clear.Given as goal

abbrev pub invariant-loop-i : goal.invariant-loop-i
invariant-loop-i l = (l.part ≡ replicate l.i 0 ++ drop l.i l.initial.part) × (length l.part ≡ length l.initial.part)
