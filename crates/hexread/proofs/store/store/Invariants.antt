-- The loop's invariant: what the rest says is still to be stored.
use Rattle.hexread.proofs.StoreLaws.{Storing}
use Rattle.std.proofs.Common.{length}
use Rattle.hexread.proofs.store.store.Given as goal

abbrev pub invariant-loop-address : goal.invariant-loop-address
invariant-loop-address l = Storing l.text l.initial.segment l.rest l.segment l.page

abbrev pub decreases-loop-address : goal.decreases-loop-address
decreases-loop-address l = length l.rest
