-- Pieces of data that are placed in a segment: its bytes are those that the pieces make of it.
-- Assumes nothing.
use mathlib.Core.Path.{◌≡◌, refl, ap, ◌∙◌}
use mathlib.Core.Logic.{inl, inr}
use mathlib.Core.List.{List, [], ◌∷◌, ◌++◌}
use Prim.Native.Nat.{ℕ, zero, suc, ◌+◌, ◌≤◌, ◌<◌}
use native.Mathlib.Omega.{arith}
use lib.ListN.{drop, length, length-drop, length-set, length-take, set, take, take-append-drop}
use lib.Seq.{drop_at, length-sets, sets, take_at}
use Rattle.hexfile.specs.Text.{apply, farthest, Piece}
use Rattle.machine.specs.Operations.{placed}
use Rattle.machine.specs.Steps.{stored}
use Rattle.machine.proofs.Fates.{Stored}

-- they lie before the end of what ends last
pub placed_touches : (a : ℕ) (ps : List Piece) (x : ℕ) → Stored (placed a ps) x → (a ≤ x) × (x < a + farthest ps)
placed_touches a [] x x3 = elim x3 [ ]
placed_touches a (p ∷ ps) x (inl h) = omega arith
placed_touches a (p ∷ ps) x (inr h) = omega (arith, placed_touches a ps x h)

-- ---- a store in the middle of a list

set_front : (b c : List ℕ) (i v : ℕ) → i < length b → set (b ++ c) i v ≡ set b i v ++ c
set_front [] c i v h = absurd (omega arith)
set_front (x ∷ b) c zero v h = refl
set_front (x ∷ b) c (suc i) v h = ap (λ (l : List ℕ). x ∷ l) (set_front b c i v (omega arith))

set_mid : (a b c : List ℕ) (i v : ℕ) → i < length b → set (a ++ (b ++ c)) (length a + i) v ≡ a ++ (set b i v ++ c)
set_mid [] b c i v h = let e : 0 + i ≡ i = omega arith in rw e (set_front b c i v h)
set_mid (y ∷ a) b c i v h =
    let e : suc (length a) + i ≡ suc (length a + i) = omega arith in
    rw e (ap (λ (l : List ℕ). y ∷ l) (set_mid a b c i v h))

sets_mid : (a b c : List ℕ) (i : ℕ) (vs : List ℕ) → i + length vs ≤ length b → sets (a ++ (b ++ c)) (length a + i) vs ≡ a ++ (sets b i vs ++ c)
sets_mid a b c i [] h = refl
sets_mid a b c i (v ∷ vs) h =
    let next : suc (length a + i) ≡ length a + suc i = omega arith in
    let l = length-set b i v in
    rw (set_mid a b c i v (omega arith), next) (sets_mid a (set b i v) c (suc i) vs (omega arith))

stored_mid : (a b c : List ℕ) (ps : List Piece) → farthest ps ≤ length b → stored (placed (length a) ps) (a ++ (b ++ c)) ≡ a ++ (apply ps b ++ c)
stored_mid a b c [] h = refl
stored_mid a b c (p ∷ ps) h =
    let l = length-sets b p.at p.bytes in
    ap (stored (placed (length a) ps)) (sets_mid a b c p.at p.bytes (omega arith)) ∙ stored_mid a (sets b p.at p.bytes) c ps (omega arith)

pub apply-long : (ps : List Piece) (b : List ℕ) → length (apply ps b) ≡ length b
apply-long [] b = refl
apply-long (p ∷ ps) b = apply-long ps (sets b p.at p.bytes) ∙ length-sets b p.at p.bytes

-- ---- the segment of n bytes at a

module _ (a n : ℕ) (ps : List Piece) (m : List ℕ) (in_memory : a + n ≤ length m) (in-segment : farthest ps ≤ n) where
  front : length (take a m) ≡ a
  front = length-take a m ∙ omega arith

  part : length (take n (drop a m)) ≡ n
  part = simp (length-take, length-drop) (omega arith)

  whole : take a m ++ (take n (drop a m) ++ drop n (drop a m)) ≡ m
  whole = ap (λ (l : List ℕ). take a m ++ l) (take-append-drop n (drop a m)) ∙ take-append-drop a m

  pub stored-part : stored (placed a ps) m ≡ take a m ++ (apply ps (take n (drop a m)) ++ drop n (drop a m))
  stored-part =
      let e = stored_mid (take a m) (take n (drop a m)) (drop n (drop a m)) ps (omega (arith, part)) in
      rw (front, whole) at e

  pub segment_after : take n (drop a (stored (placed a ps) m)) ≡ apply ps (take n (drop a m))
  segment_after =
      rw (stored-part, drop_at (take a m) (apply ps (take n (drop a m)) ++ drop n (drop a m)) a front)
      (take_at (apply ps (take n (drop a m))) (drop n (drop a m)) n (apply-long ps (take n (drop a m)) ∙ part))
