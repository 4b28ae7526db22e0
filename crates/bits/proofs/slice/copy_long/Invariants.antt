-- `bits::slice::copy_long` meets its contract. The loop's invariant: so many times 4,096 bytes are copied.
use mathlib.Core.Path.{◌≡◌}
use Prim.Native.Nat.{◌*◌}
use lib.ListN.{take}
use Rattle.bits.proofs.slice.copy_long.Given as goal

abbrev pub invariant-loop-i : goal.invariant-loop-i
invariant-loop-i l = take (4096 * l.i) l.to ≡ take (4096 * l.i) l.from
