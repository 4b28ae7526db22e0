-- `bits::siphash::absorb` meets its contract. The loop's invariant: the words before the next are in.
use mathlib.Core.Path.{◌≡◌}
use Rattle.bits.specs.SipHash.{absorb}
use Rattle.bits.proofs.siphash.absorb.Given as goal

abbrev pub invariant-loop-word : goal.invariant-loop-word
invariant-loop-word l = l.lanes ≡ absorb l.word-index l.message l.initial.lanes
