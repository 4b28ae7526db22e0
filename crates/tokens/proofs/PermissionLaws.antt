-- Verdicts on permissions, shown at all 64 pairs by one test that antt computes.
-- Assumes nothing.
use mathlib.Core.Path.{◌≡◌, refl, sym, ◌∙◌, subst}
use mathlib.Core.Bool.{Bool, true, false, ◌&&◌, beq}
use Prim.Native.Nat.{ℕ, zero, suc, ◌-◌, ◌/◌, ◌%◌, ◌<◌}
use native.Mathlib.Nat.{mod-lt}
use native.Mathlib.Omega.{arith}
use lib.Bits.{and_mask, and_mod, bit_and}
use lib.Dec.{T, eqb}
use borrow.Author.Tests.{eqb-true, eqb-false}
use Rattle.tokens.specs.Permissions.{within}

-- the test f holds at every number below n
abbrev pub every : ℕ → (ℕ → Bool) → Bool
every zero f = true
every (suc n) f = f n && every n f

left : (a b : Bool) → T (a && b) → T a
left true b t = tt
left false b t = t

right : (a b : Bool) → T (a && b) → T b
right true b t = t
right false b t = absurd t

pub below : (n : ℕ) (f : ℕ → Bool) → T (every n f) → (k : ℕ) → k < n → T (f k)
below zero f t k h = absurd (omega arith)
below (suc n) f t k h = go (eqb k n) refl (below n f (right (f n) (every n f) t) k)
  where
    go : (b : Bool) → eqb k n ≡ b → (k < n → T (f k)) → T (f k)
    go true q r = subst (λ (m : ℕ). T (f m)) (sym (eqb-true k n q)) (left (f n) (every n f) t)
    go false q r = let d = eqb-false k n q in r (omega arith)

same : (a b : Bool) → T (beq a b) → a ≡ b
same true true t = refl
same false false t = refl
same true false t = absurd t
same false true t = absurd t

-- only the low three bits of each are looked at
within_low : (wanted held : ℕ) → within (wanted % 8) (held % 8) ≡ within wanted held
unfolding within
within_low p q =
    let r : (x : ℕ) → x % 8 / 4 % 2 ≡ x / 4 % 2 = λ x. omega arith in
    let w : (x : ℕ) → x % 8 / 2 % 2 ≡ x / 2 % 2 = λ x. omega arith in
    let x : (x : ℕ) → x % 8 / 1 % 2 ≡ x / 1 % 2 = λ x. omega arith in
    simp (r, w, x)

-- a verdict that is that of `within` at all 64 pairs, which is one test that antt computes, is so at any two numbers, by their low three bits
pub rule : (verdict : ℕ → ℕ → Bool) → T (every 8 (λ p. every 8 (λ q. beq (verdict p q) (within p q)))) → (wanted held : ℕ) → verdict (wanted % 8) (held % 8) ≡ within wanted held
rule verdict t wanted held =
    let p : ℕ = wanted % 8 in
    let q : ℕ = held % 8 in
    let agrees : ℕ → ℕ → Bool = λ a b. beq (verdict a b) (within a b) in
    same (verdict p q) (within p q)
    (below 8 (agrees p) (below 8 (λ p. every 8 (agrees p)) t p (mod-lt wanted (omega arith))) q (mod-lt held (omega arith)))
    ∙ within_low wanted held

-- the code's formula: of the bits that are wanted and not held, the mask leaves the low three
pub formula : (wanted held : ℕ) → held < 256 → eqb (bit_and (bit_and wanted (255 - held)) 7) 0 ≡ within wanted held
unfolding within
formula wanted held h =
    let lacks : (255 - held) % 8 ≡ 7 - held % 8 = omega arith in
    rw (and_mask (bit_and wanted (255 - held)) 3, and_mod wanted (255 - held) 3, lacks) (rule (λ p q. eqb (bit_and p (7 - q)) 0) tt wanted held)
