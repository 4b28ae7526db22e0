-- Digits: their values, and the capital digit of a value.
-- Assumes nothing.
use mathlib.Core.Path.{◌≡◌, refl, sym, ◌∙◌, subst}
use mathlib.Core.Bool.{Bool, true, false, ◌&&◌, ◌||◌}
use mathlib.Core.Logic.{◌⊎◌, inl, inr}
use Prim.Native.Nat.{ℕ, zero, suc, ◌+◌, ◌*◌, ◌/◌, ◌%◌, ◌<◌}
use native.Mathlib.Omega.{arith}
use lib.Dec.{T, eqb, eqb→eq, ltb}
use borrow.Author.Tests.{eqb-true, eqb-false, lt-ltb, ltb-true}
use Rattle.hexfile.specs.Record.{byte, digit}
use Rattle.hexfile.specs.Written.{capital}

-- the test f holds at every number below n
abbrev pub every : ℕ → (ℕ → Bool) → Bool
every zero f = true
every (suc n) f = f n && every n f

left : (a b : Bool) → T (a && b) → T a
left true b t = tt
left false b t = t

right : (a b : Bool) → T (a && b) → T b
right true b t = t
right false b t = absurd t

pub below : (n : ℕ) (f : ℕ → Bool) → T (every n f) → (k : ℕ) → k < n → T (f k)
below zero f t k h = absurd (omega arith)
below (suc n) f t k h = go (eqb k n) refl (below n f (right (f n) (every n f) t) k)
  where
    go : (b : Bool) → eqb k n ≡ b → (k < n → T (f k)) → T (f k)
    go true q r = subst (λ (m : ℕ). T (f m)) (sym (eqb-true k n q)) (left (f n) (every n f) t)
    go false q r = let d = eqb-false k n q in r (omega arith)

-- a digit's value is small, or it is none
abbrev clear : ℕ → Bool
clear c = ltb (digit c) 16 || eqb (digit c) 256

pub digit_clear : (c : ℕ) → c < 256 → (digit c < 16) ⊎ (digit c ≡ 256)
unfolding digit
digit_clear c h = cases (ltb (digit c) 16) (eqb (digit c) 256) refl refl (below 256 clear tt c h)
  where
    cases : (a b : Bool) → ltb (digit c) 16 ≡ a → eqb (digit c) 256 ≡ b → T (a || b) → (digit c < 16) ⊎ (digit c ≡ 256)
    cases true b p q t = inl (ltb-true (digit c) 16 p)
    cases false true p q t = inr (eqb-true (digit c) 256 q)
    cases false false p q t = absurd t

-- two digits that make a byte, or none
pub byte-digits : (a b : ℕ) → digit a < 16 → digit b < 16 → byte a b ≡ 16 * digit a + digit b
unfolding byte
byte-digits a b h k = rw (lt-ltb (digit a) 16 h, lt-ltb (digit b) 16 k)

pub byte_first : (a b : ℕ) → digit a ≡ 256 → byte a b ≡ 256
unfolding byte
byte_first a b h = rw h

pub byte-second : (a b : ℕ) → digit a < 16 → digit b ≡ 256 → byte a b ≡ 256
unfolding byte
byte-second a b h k = rw (lt-ltb (digit a) 16 h, k)

-- the capital digit of a value has that value
abbrev back_at : ℕ → Bool
back_at d = eqb (digit (capital d)) d

pub digit-capital : (d : ℕ) → d < 16 → digit (capital d) ≡ d
unfolding digit capital
digit-capital d h = eqb→eq (digit (capital d)) d (below 16 back_at tt d h)

pub byte_capitals : (b : ℕ) → b < 256 → byte (capital (b / 16)) (capital (b % 16)) ≡ b
byte_capitals b h =
    let x = digit-capital (b / 16) (omega arith) in
    let y = digit-capital (b % 16) (omega arith) in
    byte-digits (capital (b / 16)) (capital (b % 16)) (omega arith) (omega arith) ∙ omega arith
