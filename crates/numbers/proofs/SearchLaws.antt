-- The search for a number, a step at a time.
-- Assumes nothing.
use mathlib.Core.Path.{◌≡◌, refl, sym, ap, ◌∙◌}
use mathlib.Core.Bool.{Bool, true, false, cond}
use mathlib.Core.List.{List}
use Rattle.std.specs.Prelude.{Some, None}
use Prim.Native.Nat.{ℕ, zero, suc, ◌+◌, ◌-◌, ◌/◌, ◌≤◌, ◌<◌}
use native.Mathlib.Omega.{arith}
use lib.Dec.{eqb}
use lib.ListN.{length}
use borrow.Author.Tests.{le-ltb, lt-ltb, ne_eqb, not-true}
use Rattle.machine.specs.Issuing.{after, seek}
use Rattle.machine.specs.Parts.{at, size}
use Rattle.bits.proofs.TestLaws.{both}
use Rattle.numbers.specs.Searches.{first_free, four_taken, given, taken}

-- ---- a search in a row of numbers, before the end

module _ (t : List ℕ) (end n : ℕ) where
  pub first_none : end ≤ n → None ≡ given (first_free (end - n) t n)
  unfolding first_free
  first_none h = let z : end - n ≡ 0 = omega arith in rw z

  step : n < end → first_free (end - n) t n ≡ cond (eqb (at t n).kind 0) n (first_free (end - (n + 1)) t (n + 1))
  unfolding first_free
  step h = let z : end - n ≡ suc (end - (n + 1)) = omega arith in rw z

  pub first_here : 0 < n → n < end → eqb (at t n).kind 0 ≡ true → Some n ≡ given (first_free (end - n) t n)
  first_here z h q = rw (step h, q, ne_eqb n 0 (λ e. omega (arith, e))) refl

  pub first_on : n < end → taken t n ≡ true → first_free (end - (n + 1)) t (n + 1) ≡ first_free (end - n) t n
  first_on h q = sym (step h ∙ rw (not-true (eqb (at t n).kind 0) q))

pub first_on-four : (t : List ℕ) (end n : ℕ) → n + 4 ≤ end → four_taken t n ≡ true → first_free (end - (n + 4)) t (n + 4) ≡ first_free (end - n) t n
unfolding four_taken
first_on-four t end n h q =
    let abc = both _ _ q in
    let ab = both _ _ abc.0 in
    let a = both _ _ ab.0 in
    let one : first_free (end - (n + 1)) t (n + 1) ≡ first_free (end - n) t n = first_on t end n (omega arith) a.0 in
    let two : first_free (end - (n + 2)) t (n + 2) ≡ first_free (end - (n + 1)) t (n + 1) = after_one (n + 1) (n + 2) (omega arith) (omega arith) a.1 in
    let three : first_free (end - (n + 3)) t (n + 3) ≡ first_free (end - (n + 2)) t (n + 2) = after_one (n + 2) (n + 3) (omega arith) (omega arith) ab.1 in
    after_one (n + 3) (n + 4) (omega arith) (omega arith) abc.1 ∙ three ∙ two ∙ one
  where
    after_one : (i j : ℕ) → j ≡ i + 1 → i < end → taken t i ≡ true → first_free (end - j) t j ≡ first_free (end - i) t i
    after_one i j e l q = rw e (first_on t end i l q)

-- ---- the search for a new number: those after the last one given, then those from 1 on

abbrev or_else : ℕ → ℕ → ℕ
or_else a b = cond (eqb a 0) b a

seek_step : (tries : ℕ) (t : List ℕ) (k j : ℕ) → 0 < tries → after t k ≡ j → seek tries t k ≡ cond (eqb (at t j).kind 0) j (seek (tries - 1) t j)
unfolding seek
seek_step zero t k j h e = absurd (omega arith)
seek_step (suc tries) t k j h e = let z : suc tries - 1 ≡ tries = omega arith in rw (z, e)

-- n numbers after k, which end before the table does, and then more
seek-row : (t : List ℕ) (n k more tries : ℕ) → tries ≡ n + more → k + n < size t → seek tries t k ≡ or_else (first_free n t (k + 1)) (seek more t (k + n))
unfolding first_free
seek-row t zero k more tries e h = let y : tries ≡ more = omega arith in let z : k + 0 ≡ k = omega arith in rw (y, z)
seek-row t (suc n) k more tries e h =
    let z : k + 1 + n ≡ k + suc n = omega arith in
    seek_step tries t k (k + 1) (omega arith) (rw (lt-ltb (k + 1) (size t) (omega arith)))
    ∙ go (eqb (at t (k + 1)).kind 0) (rw z at (seek-row t n (k + 1) more (tries - 1) (omega arith) (omega arith)))
  where
    go : (b : Bool) → seek (tries - 1) t (k + 1) ≡ or_else (first_free n t (k + 1 + 1)) (seek more t (k + suc n))
        → cond b (k + 1) (seek (tries - 1) t (k + 1)) ≡ or_else (cond b (k + 1) (first_free n t (k + 1 + 1))) (seek more t (k + suc n))
    go true l = rw (ne_eqb (k + 1) 0 (λ e. omega (arith, e)))
    go false l = l

-- from the table's end the search goes on as from number 0
round : (t : List ℕ) (tries : ℕ) → 1 < size t → seek tries t (size t - 1) ≡ seek tries t 0
unfolding seek
round t zero h = refl
round t (suc tries) h =
    let z : size t - 1 + 1 ≡ size t = omega arith in
    let last : after t (size t - 1) ≡ 1 = rw (z, le-ltb (size t) (size t) (omega arith)) in
    let first : after t 0 ≡ 1 = rw (lt-ltb 1 (size t) h) in
    rw (last, first)

seek-both : (t : List ℕ) (last : ℕ) → 1 < size t → last < size t
    → seek (size t - 1) t last ≡ or_else (first_free (size t - (last + 1)) t (last + 1)) (first_free (last + 1 - 1) t 1)
unfolding seek
seek-both t last b h =
    let y : last + (size t - (last + 1)) ≡ size t - 1 = omega arith in
    let x : last + 1 - 1 ≡ last = omega arith in
    let upper : seek (size t - 1) t last ≡ or_else (first_free (size t - (last + 1)) t (last + 1)) (seek last t (size t - 1)) =
    rw y at (seek-row t (size t - (last + 1)) last last (size t - 1) (omega arith) (omega arith)) in
    let lower : seek last t (size t - 1) ≡ first_free last t 1 = round t last b ∙ seek-row t last 0 0 last (omega arith) (omega arith) ∙ or_none (first_free last t 1) in
    upper ∙ rw (x, lower)
  where
    or_none : (a : ℕ) → or_else a 0 ≡ a
    or_none zero = refl
    or_none (suc a) = rw (ne_eqb (suc a) 0 (λ e. omega (arith, e)))

-- the ways out, by what the search after the last one given came to
module _ (t : List ℕ) (last : ℕ) (full : 64 ≤ length t) (inside : last < length t / 32) where
  abbrev later : ℕ
  later = first_free (length t / 32 - (last + 1)) t (last + 1)

  abbrev first : ℕ
  first = first_free (last + 1 - 1) t 1

  both_ways : seek (size t - 1) t last ≡ or_else later first
  unfolding size
  both_ways = seek-both t last (omega arith) inside

  -- one is found after the last
  pub seek-later : (n : ℕ) → Some n ≡ given later → Some n ≡ given (seek (size t - 1) t last)
  seek-later n h = rw both_ways (go (eqb later 0) refl)
    where
      go : (b : Bool) → eqb later 0 ≡ b → Some n ≡ given (or_else later first)
      go true q = let none : Some n ≡ None = h ∙ rw q refl in let z : ◌≡◌ {A = ℕ} 0 1 = cc in absurd (omega arith)
      go false q = h ∙ ap given (sym (rw q refl))

  -- or the search goes round
  pub seek-round : None ≡ given later → given first ≡ given (seek (size t - 1) t last)
  seek-round h = rw both_ways (go (eqb later 0) refl)
    where
      go : (b : Bool) → eqb later 0 ≡ b → given first ≡ given (or_else later first)
      go true q = ap given (sym (rw q refl))
      go false q = let some : None ≡ Some later = h ∙ rw q refl in let z : ◌≡◌ {A = ℕ} 0 1 = cc in absurd (omega arith)

-- a step of the search in a row
pub ruleset row_steps = (first_here, first_none, first_on, first_on-four)

-- the ways out of the search for a new number
pub ruleset seek_ends = (seek-later, seek-round)
