-- Settings: a bound that is told in two ways.
-- Assumes nothing.
use mathlib.Core.Path.{◌≡◌, refl}
use mathlib.Core.Bool.{Bool, true, false, ◌&&◌}
use mathlib.Core.List.{List}
use Prim.Native.Nat.{ℕ, ◌-◌, ◌/◌, ◌<◌}
use native.Mathlib.Omega.{arith}
use native.Mathlib.Decide.{dec_lt}
use lib.Dec.{leb, ltb}
use lib.ListN.{length}
use borrow.Author.Tests.{le-leb, le-ltb, lt-leb, lt-ltb, ltb-true}
use Rattle.bits.proofs.TestLaws.{both}
use Rattle.machine.specs.Parts.{size, spent, State}
use Rattle.checks.specs.Holds.{settings_hold, sizes_hold}

-- below z, and at most z - 1, where there are numbers below z
below_top_lem : (k z : ℕ) → 0 < z → ltb k z ≡ leb k (z - 1)
below_top_lem k z some = go (dec_lt k z)
  where
    go : Dec (k < z) → ltb k z ≡ leb k (z - 1)
    go (yes h) = rw (lt-ltb k z h, le-leb k (z - 1) (omega arith))
    go (no h) = rw (le-ltb k z (omega arith), lt-leb k (z - 1) (omega arith))

-- the settings, with the free total below the number of entries: the last number is, so that there are some
pub settings_test : (m : ℕ) (s : State) (t : List ℕ)
    → (sizes_hold m t && ltb s.last (length t / 32) && leb 1 s.next && leb s.next spent && ltb s.total (length t / 32)) ≡ settings_hold m s t
unfolding sizes_hold settings_hold size
settings_test m s t = go (sizes_hold m t && ltb s.last z && leb 1 s.next && leb s.next spent) (λ h. (both a (ltb s.last z) (both (a && ltb s.last z) (leb 1 s.next) (both (a && ltb s.last z && leb 1 s.next) (leb s.next spent) h).0).0).1)
  where
    z : ℕ
    z = length t / 32

    a : Bool
    a = sizes_hold m t

    go : (x : Bool) → (x ≡ true → ltb s.last z ≡ true) → (x && ltb s.total z) ≡ (x && leb s.total (z - 1))
    go true h = below_top_lem s.total z (omega (arith, ltb-true s.last z (h refl)))
    go false h = refl
