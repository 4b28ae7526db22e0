-- A number for each entry, added up: the bytes that it owns, and whether its number is free.
-- Assumes nothing.
use mathlib.Core.Path.{◌≡◌, refl, sym, ap, ◌∙◌}
use mathlib.Core.Logic.{◌≢◌}
use mathlib.Core.List.{List}
use Prim.Native.Nat.{ℕ, zero, suc, ◌+◌, ◌-◌, ◌≤◌, ◌<◌}
use native.Mathlib.Omega.{arith}
use native.Mathlib.Decide.{dec_lt}
use lib.Dec.{eqb}
use borrow.Author.Tests.{eqb-false, eqb-true, ne_eqb}
use Rattle.layout.specs.Entry.{free, Storable}
use Rattle.layout.specs.declared.entry.Entry.{Entry}
use Rattle.machine.specs.FreeTotal.{free_in_all, vacant}
use Rattle.machine.specs.FromReset.{added, added_below, owned, owned_in_all}
use Rattle.machine.specs.Parts.{at, cleared, most_free, put, size}
use Rattle.machine.proofs.Choices.{by_cond}
use Rattle.machine.proofs.TableLaws.{at_cleared, at_other, at_same, size-cleared, size-put}

pub owned-direct : (e : Entry) → e.kind ≡ 1 → owned e ≡ e.length
owned-direct e k = by_cond (λ n. n ≡ e.length) (eqb e.kind 1) (λ i. refl) (λ i. absurd (eqb-false e.kind 1 i k))

pub owned-other : (e : Entry) → e.kind ≢ 1 → owned e ≡ 0
owned-other e k = by_cond (λ n. n ≡ 0) (eqb e.kind 1) (λ i. absurd (k (eqb-true e.kind 1 i))) (λ i. refl)

-- one law for all that is added up
module _ (f : ℕ → Entry → ℕ) where
  below_same : (t t' : List ℕ) → ((n : ℕ) → f n (at t' n) ≡ f n (at t n)) → (k : ℕ) → added_below f t' k ≡ added_below f t k
  unfolding added_below
  below_same t t' h zero = refl
  below_same t t' h (suc k) = omega (arith, below_same t t' h k, h k)

  pub sum_same : (t t' : List ℕ) → size t' ≡ size t → ((n : ℕ) → f n (at t' n) ≡ f n (at t n)) → added f t' ≡ added f t
  sum_same t t' s h = rw s (below_same t t' h (size t))

  -- a store past the end of the sum, and one before it
  below_past : (t : List ℕ) (n : ℕ) (e : Entry) (k : ℕ) → k ≤ n → added_below f (put t n e) k ≡ added_below f t k
  unfolding added_below
  below_past t n e zero h = refl
  below_past t n e (suc k) h = omega (arith, below_past t n e k (omega arith), ap (f k) (at_other t n k e (omega arith)))

  below_put : (t : List ℕ) (n : ℕ) (e : Entry) → Storable e → n < size t → (k : ℕ) → n < k → added_below f (put t n e) k + f n (at t n) ≡ added_below f t k + f n e
  unfolding added_below
  below_put t n e g s zero h = absurd (omega arith)
  below_put t n e g s (suc k) h = go (below_put t n e g s k) (dec_lt n k)
    where
      go : (n < k → added_below f (put t n e) k + f n (at t n) ≡ added_below f t k + f n e) → Dec (n < k)
          → added_below f (put t n e) k + f k (at (put t n e) k) + f n (at t n) ≡ added_below f t k + f k (at t k) + f n e
      go ih (yes i) = omega (arith, ih i, ap (f k) (at_other t n k e (omega arith)))
      go ih (no i) =
          let same : n ≡ k = omega arith in
          rw (← same) (omega (arith, below_past t n e n (omega arith), ap (f n) (at_same t n e g s)))

  pub sum-put : (t : List ℕ) (n : ℕ) (e : Entry) → Storable e → n < size t → added f (put t n e) + f n (at t n) ≡ added f t + f n e
  sum-put t n e g h = rw size-put (below_put t n e g h (size t) h)

  pub sum_put2 : (t : List ℕ) (p n : ℕ) (a b : Entry) → Storable a → Storable b → p < size t → n < size t → p ≢ n
      → added f (put (put t p a) n b) + (f p (at t p) + f n (at t n)) ≡ added f t + (f p a + f n b)
  sum_put2 t p n a b fa fb hp hn d =
      omega (arith, sum-put t p a fa hp, sum-put (put t p a) n b fb (rw size-put hn), ap (f n) (at_other t p n a (λ i. d (sym i))))

  -- one entry in a cleared table
  pub sum_first : (t : List ℕ) (e : Entry) → Storable e → 0 < size t → added f (put (cleared t) 0 e) + f 0 free ≡ added f (cleared t) + f 0 e
  sum_first t e g h = omega (arith, sum-put (cleared t) 0 e g (omega (arith, size-cleared t)), ap (f 0) (at_cleared t 0))

-- ---- bytes

owned_below : (t : List ℕ) (k : ℕ) → added_below (λ n e. owned e) (cleared t) k ≡ 0
unfolding added_below
owned_below t zero = refl
owned_below t (suc k) = omega (arith, owned_below t k, ap owned (at_cleared t k))

pub owned-cleared : (t : List ℕ) → owned_in_all (cleared t) ≡ 0
owned-cleared t = owned_below t (size (cleared t))

-- ---- free numbers

pub vacant-full : (n : ℕ) (e : Entry) → e.kind ≢ 0 → vacant n e ≡ 0
vacant-full n e k = rw (ne_eqb e.kind 0 k) (by_cond (λ v. v ≡ 0) (eqb n 0) (λ i. refl) (λ i. refl))

pub vacant_zero : (e : Entry) → vacant 0 e ≡ 0
vacant_zero e = refl

pub vacant-free : (n : ℕ) (e : Entry) → n ≢ 0 → e.kind ≡ 0 → vacant n e ≡ 1
vacant-free n e h k = rw (ne_eqb n 0 h, k) refl

vacant-below : (t : List ℕ) (k : ℕ) → added_below vacant (cleared t) k ≡ k - 1
unfolding added_below
vacant-below t zero = refl
vacant-below t (suc zero) = refl
vacant-below t (suc (suc k)) = omega (arith, vacant-below t (suc k), vacant-free (suc k) (at (cleared t) (suc k)) (omega arith) (ap (λ (e : Entry). e.kind) (at_cleared t (suc k))))

pub vacant-cleared : (t : List ℕ) → free_in_all (cleared t) ≡ most_free t
vacant-cleared t = vacant-below t (size (cleared t)) ∙ ap (λ (n : ℕ). n - 1) (size-cleared t)

-- a count is in range
vacant-least : (n : ℕ) (e : Entry) → vacant n e ≤ 1
vacant-least n e = by_cond (λ v. v ≤ 1) (eqb n 0) (λ i. omega arith) (λ i. by_cond (λ v. v ≤ 1) (eqb e.kind 0) (λ j. omega arith) (λ j. omega arith))

below-most : (t : List ℕ) (k : ℕ) → added_below vacant t k ≤ k - 1
unfolding added_below
below-most t zero = omega arith
below-most t (suc zero) = omega (arith, vacant_zero (at t 0))
below-most t (suc (suc k)) = omega (arith, below-most t (suc k), vacant-least (suc k) (at t (suc k)))

pub free-most : (t : List ℕ) → free_in_all t ≤ most_free t
free-most t = below-most t (size t)
