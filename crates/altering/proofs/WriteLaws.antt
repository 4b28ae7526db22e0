-- What the code stores is what a reset's write leaves.
-- Assumes nothing.
use mathlib.Core.Path.{◌≡◌}
use mathlib.Core.Bool.{true}
use mathlib.Core.List.{List, []}
use Prim.Native.Nat.{ℕ}
use lib.ListN.{length, replicate}
use Rattle.layout.specs.Entry.{direct}
use Rattle.machine.specs.Parts.{begun, cleared, most_free, put, State, totalled}
use Rattle.machine.specs.Writes.{begin, opened, write}
use Rattle.table.specs.Left.{left_by}

pub begin_left : (s : State) (t : List ℕ) (m k0 k1 ν k : ℕ) (z t' : List ℕ)
    → k ≡ most_free t → z ≡ replicate (length t) 0 → t' ≡ put z 0 (direct 0 m 0 7 true 0 0)
    → record { state = totalled (begun t k0 k1 ν) k; table = t'; tokens = [] } ≡ left_by (write 0 (opened s t) (begin m k0 k1 ν))
unfolding cleared
begin_left s t m k0 k1 ν k z t' more a b = rw (more, b, a)
