-- The free total beside the count of free numbers: what each write does to both.
-- Assumes nothing.
use mathlib.Core.Path.{◌≡◌, refl}
use mathlib.Core.Logic.{◌≢◌}
use mathlib.Core.List.{List}
use Prim.Native.Nat.{ℕ, ◌+◌, ◌≤◌, ◌<◌}
use native.Mathlib.Omega.{arith}
use lib.Dec.{eqb, ltb}
use borrow.Author.Tests.{eqb-false, eqb-true, ltb-false}
use Rattle.layout.specs.Entry.{freed, Storable}
use Rattle.layout.specs.declared.entry.Entry.{Entry}
use Rattle.machine.specs.FreeTotal.{free_in_all, vacant}
use Rattle.machine.specs.Parts.{at, most_free, put, size}
use Rattle.machine.specs.Writes.{one_less, one_more}
use Rattle.machine.proofs.Choices.{by_cond}
use Rattle.machine.proofs.Sums.{free-most, sum-put, vacant-free, vacant-full}
use Rattle.machine.proofs.TableLaws.{in_table, size-put}

-- a total at or below the count of free numbers stays so, and one at or above it
pub record Tally (t : List ℕ) (k : ℕ) (t' : List ℕ) (k' : ℕ) : Type 0 where
  pub low : k ≤ free_in_all t → k' ≤ free_in_all t'
  pub high : free_in_all t ≤ k → free_in_all t' ≤ k'

pub tally_same : (t t' : List ℕ) {k k' : ℕ} → free_in_all t' ≡ free_in_all t → k' ≡ k → Tally t k t' k'
tally_same t t' c e = record { low = λ h. omega arith; high = λ h. omega arith }

pub tally_then : {t u v : List ℕ} {k l m : ℕ} → Tally t k u l → Tally u l v m → Tally t k v m
tally_then a b = record { low = λ h. b.low (a.low h); high = λ h. b.high (a.high h) }

-- a free number is given
pub tally_give : (t : List ℕ) (n : ℕ) (e : Entry) (k : ℕ) → Storable e → e.kind ≢ 0 → n ≢ 0 → n < size t → (at t n).kind ≡ 0 → Tally t k (put t n e) (one_less k)
tally_give t n e k f full z i vac =
    let c = sum-put vacant t n e f i in
    let one = vacant-free n (at t n) z vac in
    let none = vacant-full n e full in
    record { low = λ h. omega arith; high = λ h. omega arith }

-- an entry becomes another, neither of them free
pub tally_keep : (t : List ℕ) (n : ℕ) (e : Entry) (k : ℕ) → Storable e → e.kind ≢ 0 → (at t n).kind ≢ 0 → Tally t k (put t n e) k
tally_keep t n e k f full full' =
    let c = sum-put vacant t n e f (in_table t n full') in
    let none = vacant-full n e full in
    let none' = vacant-full n (at t n) full' in
    record { low = λ h. omega arith; high = λ h. omega arith }

-- an entry is freed
pub tally_free : (t : List ℕ) (n g k : ℕ) → Storable (freed g) → (at t n).kind ≢ 0 → Tally t k (put t n (freed g)) (one_more (most_free t) n k)
tally_free t n g k st full =
    by_cond (λ x. Tally t k (put t n (freed g)) x) (eqb n 0)
    (λ z. same (omega (arith, c, none, zero_free (eqb-true n 0 z))))
    (λ z.
    let one = vacant-free n (freed g) (eqb-false n 0 z) refl in
    by_cond (λ x. Tally t k (put t n (freed g)) x) (ltb k (most_free t))
    (λ j. record { low = λ h. omega (arith, c, none); high = λ h. omega (arith, c, none) })
    (λ j. record { low = λ h. omega (arith, c, none); high = λ h. omega (arith, ltb-false k (most_free t) j, most) }))
  where
    c : free_in_all (put t n (freed g)) + vacant n (at t n) ≡ free_in_all t + vacant n (freed g)
    c = sum-put vacant t n (freed g) st (in_table t n full)

    none : vacant n (at t n) ≡ 0
    none = vacant-full n (at t n) full

    most : free_in_all (put t n (freed g)) ≤ most_free t
    most = omega (arith, free-most (put t n (freed g)), size-put t n (freed g))

    zero_free : n ≡ 0 → vacant n (freed g) ≡ 0
    zero_free z = rw z refl

    same : free_in_all (put t n (freed g)) ≡ free_in_all t → Tally t k (put t n (freed g)) k
    same e = tally_same t (put t n (freed g)) e refl
