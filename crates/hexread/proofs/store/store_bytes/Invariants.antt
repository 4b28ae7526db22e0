-- The loop's invariant: the first i bytes are stored.
use Rattle.hexread.proofs.StoreLaws.{Copied}
use Rattle.hexread.proofs.store.store_bytes.Given as goal

abbrev pub invariant-loop-i : goal.invariant-loop-i
invariant-loop-i l = Copied l.initial.to l.chars l.to l.i
