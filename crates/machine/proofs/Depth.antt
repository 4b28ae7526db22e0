-- A walk and a climb meet no more entries than the table has: at each link the nonce falls, so that fewer entries have a smaller one.
-- Assumes nothing.
use mathlib.Core.Path.{◌≡◌, refl, ap, ◌∙◌}
use mathlib.Core.Logic.{◌≢◌}
use mathlib.Core.Bool.{Bool, true, false, false≢true, not, ◌&&◌}
use mathlib.Core.List.{List, ◌∷◌}
use Prim.Native.Nat.{ℕ, zero, suc, ◌+◌, ◌≤◌, ◌<◌}
use native.Mathlib.Omega.{arith}
use native.Mathlib.Decide.{ℕ_discrete}
use lib.Dec.{eqb, leb, ltb}
use lib.ListN.{length}
use borrow.Author.Tests.{le-ltb, lt-ltb, ltb-true, ne_eqb}
use Rattle.bits.proofs.TestLaws.{both}
use Rattle.layout.specs.Form.{ill_formed}
use Rattle.layout.specs.declared.entry.Entry.{Entry}
use Rattle.machine.specs.Depth.{climb_meets, Depth, last_of, walk_meets}
use Rattle.machine.specs.Line.{end_of, is_paged, Line, linked, parent_number, walk}
use Rattle.machine.specs.Operations.{climb}
use Rattle.machine.specs.Parts.{at, size}
use Rattle.machine.specs.Writes.{vacate, vacated, Write}
use Rattle.machine.proofs.Basics.{link, Link, neqb_true, parent}
use Rattle.machine.proofs.Choices.{by_both, by_cond}
use Rattle.machine.proofs.TableLaws.{in_table, size-put, vacated-other, vacated_same}

-- ---- how many numbers below k pass a test

one_if : Bool → ℕ
one_if true = 1
one_if false = 0

count : (ℕ → Bool) → ℕ → ℕ
count f zero = 0
count f (suc k) = count f k + one_if (f k)

one_le : (a b : Bool) → (a ≡ true → b ≡ true) → one_if a ≤ one_if b
unfolding one_if
one_le true true h = omega arith
one_le true false h = absurd (false≢true (h refl))
one_le false true h = omega arith
one_le false false h = omega arith

module _ (f g : ℕ → Bool) (sub : (i : ℕ) → f i ≡ true → g i ≡ true) where
  count_le : (k : ℕ) → count f k ≤ count g k
  unfolding count
  count_le zero = omega arith
  count_le (suc k) = omega (arith, count_le k, one_le (f k) (g k) (sub k))

  -- one that only the second test takes
  count_lt : (k i : ℕ) → i < k → f i ≡ false → g i ≡ true → count f k < count g k
  unfolding count one_if
  count_lt zero i h a b = absurd (omega arith)
  count_lt (suc k) i h a b = go (ℕ_discrete i k) (λ j. count_lt k i j a b)
    where
      go : Dec (i ≡ k) → (i < k → count f k < count g k) → count f k + one_if (f k) < count g k + one_if (g k)
      go (yes e) r =
          let x : f k ≡ false = rw e at a in
          let y : g k ≡ true = rw e at b in
          rw (x, y) (omega (arith, count_le k))
      go (no e) r = omega (arith, r (omega arith), one_le (f k) (g k) (sub k))

count_all : (k : ℕ) → count (λ i. true) k ≡ k
unfolding count one_if
count_all zero = refl
count_all (suc k) = omega (arith, count_all k)

-- ---- entries with a smaller nonce

older : List ℕ → ℕ → ℕ → Bool
older t ν i = not (eqb (at t i).kind 0) && ltb (at t i).nonce ν

is_older : (t : List ℕ) (ν i : ℕ) → (at t i).kind ≢ 0 → (at t i).nonce < ν → older t ν i ≡ true
unfolding older
is_older t ν i k h = rw (ne_eqb (at t i).kind 0 k, lt-ltb (at t i).nonce ν h)

older-has : (t : List ℕ) (ν i : ℕ) → older t ν i ≡ true → ((at t i).kind ≢ 0) × ((at t i).nonce < ν)
unfolding older
older-has t ν i h =
    let r = both (not (eqb (at t i).kind 0)) (ltb (at t i).nonce ν) h in
    (neqb_true (at t i).kind 0 r.0, ltb-true (at t i).nonce ν r.1)

-- none is older than itself
not_itself : (t : List ℕ) (i : ℕ) → older t (at t i).nonce i ≡ false
unfolding older
not_itself t i = rw (le-ltb (at t i).nonce (at t i).nonce (omega arith)) (no_and (not (eqb (at t i).kind 0)))
  where
    no_and : (b : Bool) → (b && false) ≡ false
    no_and true = refl
    no_and false = refl

-- so many entries are older than entry n
below : List ℕ → ℕ → ℕ
below t n = count (older t (at t n).nonce) (size t)

below-size : (t : List ℕ) (n : ℕ) → n < size t → below t n < size t
unfolding below
below-size t n h = rw (count_all (size t)) at (count_lt (older t (at t n).nonce) (λ i. true) (λ i e. refl) (size t) n h (not_itself t n) refl)

-- fewer than parent p, in a table u with the same entries but for those that were freed
fewer : (t u : List ℕ) (n p : ℕ) → size u ≡ size t → ((i : ℕ) → (at u i).kind ≢ 0 → at u i ≡ at t i) → at u p ≡ at t p → Link (at t n) (at t p) → below u p < below t n
unfolding below
fewer t u n p z same q l =
    rw z (count_lt (older u (at u p).nonce) (older t (at t n).nonce) sub (size t) p (in_table t p l.present.full) (not_itself u p) (is_older t (at t n).nonce p l.present.full l.older))
  where
    sub : (i : ℕ) → older u (at u p).nonce i ≡ true → older t (at t n).nonce i ≡ true
    sub i h =
        let r = older-has u (at u p).nonce i h in
        let e : at u i ≡ at t i = same i r.0 in
        is_older t (at t n).nonce i (rw e at r.0) (omega (arith, l.older, r.1, ap (λ (x : Entry). x.nonce) e, ap (λ (x : Entry). x.nonce) q))

-- ---- the walk

walk-most : (f m : ℕ) (t : List ℕ) (n : ℕ) → length (walk_meets f m t n) ≤ suc (below t n)
unfolding walk_meets
walk-most zero m t n = omega arith
walk-most (suc f) m t n =
    by_cond P (ill_formed m (at t n)) (λ w. omega arith)
    (λ w. by_cond P (eqb (at t n).kind 1) (λ d. omega arith)
    (λ d. by_cond P (is_paged (at t n)) (λ g. omega arith)
    (λ g. by_cond P (linked t (at t n))
    (λ l. let p : ℕ = parent_number (at t n) in
    omega (arith, walk-most f m t p, fewer t t n p refl (λ i k. refl) refl (link (at t n) (parent t n) l)))
    (λ l. omega arith))))
  where
    P : List ℕ → Type 0
    P ks = length (n ∷ ks) ≤ suc (below t n)

-- what a walk meets begins with an entry, so that the last does not depend on what came before
last_same : (f m : ℕ) (t : List ℕ) (n a b : ℕ) → last_of a (walk_meets f m t n) ≡ last_of b (walk_meets f m t n)
unfolding walk_meets
last_same zero m t n a b = refl
last_same (suc f) m t n a b = refl

walk_ends : (f m : ℕ) (t : List ℕ) (n : ℕ) → end_of (walk f m t n) ≡ last_of n (walk_meets f m t n)
unfolding walk walk_meets
walk_ends zero m t n = refl
walk_ends (suc f) m t n =
    by_both P (ill_formed m (at t n)) (λ w. refl)
    (λ w. by_both P (eqb (at t n).kind 1) (λ d. refl)
    (λ d. by_both P (is_paged (at t n)) (λ g. refl)
    (λ g. by_both P (linked t (at t n))
    (λ l. let p : ℕ = parent_number (at t n) in walk_ends f m t p ∙ last_same f m t p p n)
    (λ l. refl))))
  where
    P : Line → List ℕ → Type 0
    P x ks = end_of x ≡ last_of n ks

-- ---- the climb

-- what is freed is gone, and all else stays
freed : (t : List ℕ) (n i : ℕ) → n < size t → (at (vacated t n) i).kind ≢ 0 → at (vacated t n) i ≡ at t i
freed t n i h k = go (ℕ_discrete i n)
  where
    go : Dec (i ≡ n) → at (vacated t n) i ≡ at t i
    go (yes e) = absurd (k (rw e (ap (λ (x : Entry). x.kind) (vacated_same t n h))))
    go (no e) = vacated-other t n i e

climb-most : (f : ℕ) (t : List ℕ) (n : ℕ) → n < size t → length (climb_meets f t n) ≤ suc (below t n)
unfolding climb_meets
climb-most zero t n h = omega arith
climb-most (suc f) t n h =
    by_cond P (leb 2 (at t n).count) (λ c. omega arith)
    (λ c. by_cond P (eqb (at t n).count 0) (λ z. omega arith)
    (λ z. by_cond P (eqb (at t n).kind 1) (λ d. omega arith)
    (λ d. by_cond P (linked t (at t n))
    (λ l. let p : ℕ = parent_number (at t n) in
    let k : Link (at t n) (at t p) = link (at t n) (parent t n) l in
    let z : size (vacated t n) ≡ size t = size-put t n _ in
    -- the parent is another entry, so that it is still there when the child is freed
    let apart : p ≢ n = λ e. omega (arith, ap (λ (i : ℕ). (at t i).nonce) e) in
    omega (arith, climb-most f (vacated t n) p (rw z (in_table t p k.present.full)), fewer t (vacated t n) n p z (λ i j. freed t n i h j) (vacated-other t n p apart) k))
    (λ l. omega arith))))
  where
    P : List ℕ → Type 0
    P ks = length (n ∷ ks) ≤ suc (below t n)

climb-writes : (f : ℕ) (t : List ℕ) (n : ℕ) → length (climb f t n) ≤ length (climb_meets f t n)
unfolding climb climb_meets
climb-writes zero t n = omega arith
climb-writes (suc f) t n =
    by_both P (leb 2 (at t n).count) (λ c. omega arith)
    (λ c. by_both P (eqb (at t n).count 0) (λ z. omega arith)
    (λ z. by_both P (eqb (at t n).kind 1) (λ d. omega arith)
    (λ d. by_both (λ ws ks. P (vacate n ∷ ws) ks) (linked t (at t n)) (λ l. omega (arith, climb-writes f (vacated t n) (parent_number (at t n)))) (λ l. omega arith))))
  where
    P : List Write → List ℕ → Type 0
    P ws ks = length ws ≤ length (n ∷ ks)

-- ---- both

pub depth : Depth
unfolding Depth
depth m t n h =
    record {
      walking = omega (arith, walk-most (suc (at t n).nonce) m t n, below-size t n h);
      ends = walk_ends (suc (at t n).nonce) m t n;
      climbing = omega (arith, climb-most (suc (at t n).nonce) t n h, below-size t n h);
      writes = climb-writes (suc (at t n).nonce) t n;
    }
