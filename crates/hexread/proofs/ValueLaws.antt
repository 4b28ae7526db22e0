-- The table of values, a byte by two of them, and their sums.
-- Assumes nothing.
use mathlib.Core.Path.{◌≡◌, refl, ◌∙◌, ap}
use mathlib.Core.Bool.{Bool, true, false, cond}
use mathlib.Core.List.{List, [], ◌∷◌}
use Prim.Native.Nat.{ℕ, zero, suc, ◌+◌, ◌*◌, ◌≤◌, ◌<◌}
use native.Mathlib.Omega.{arith}
use lib.Dec.{ltb}
use lib.ListN.{drop, drop_of_length-le, get_or, length}
use lib.Seq.{drop-cons}
use borrow.Author.Tests.{lt-ltb, ltb-true}
use Rattle.bits.specs.Bytes.{AllBytes}
use Rattle.hexfile.specs.Record.{byte, bytes_of, digit, sum}
use Rattle.hexfile.proofs.DigitLaws.{byte-digits}
use Rattle.hexread.specs.Premises.{Summed}
use Rattle.hexread.specs.declared.digits.TheConstants.{VALUES}
use Rattle.hexread.specs.Values.{highs, lows, value_of, values, values_from}

-- ---- the table

table-told : VALUES ≡ values
unfolding values value_of digit
table-told = refl

from_at : (c n k : ℕ) → k < n → get_or (values_from c n) k 0 ≡ value_of (c + k)
from_at c zero k h = absurd (omega arith)
from_at c (suc n) zero h = let e : c ≡ c + 0 = omega arith in ap value_of e
from_at c (suc n) (suc k) h = let e : suc c + k ≡ c + suc k = omega arith in from_at (suc c) n k (omega arith) ∙ ap value_of e

value-most : (c : ℕ) → value_of c ≤ 4096
unfolding value_of
value-most c = by (ltb (digit c) 16) refl
  where
    by : (b : Bool) → ltb (digit c) 16 ≡ b → cond b (digit c) 4096 ≤ 4096
    by true e = let h = ltb-true (digit c) 16 e in omega arith
    by false e = omega arith

-- a character's value in it
pub value-told : (c : ℕ) {r : ℕ} → c < 256 → r ≡ get_or VALUES c 0 → (r ≡ value_of c) × (r ≤ 4096)
unfolding values
value-told c {r} h q =
    let z : 0 + c ≡ c = omega arith in
    let v : r ≡ value_of c = q ∙ ap (λ l. get_or l c 0) table-told ∙ from_at 0 256 c h ∙ ap value_of z in
    let m = value-most c in
    (v, omega arith)

-- ---- a byte

value-digit : (c : ℕ) → digit c < 16 → value_of c ≡ digit c
unfolding value_of
value-digit c h = rw (lt-ltb (digit c) 16 h)

pub value_small : (c : ℕ) → value_of c < 4096 → digit c < 16
unfolding value_of
value_small c h = by (ltb (digit c) 16) refl
  where
    by : (b : Bool) → ltb (digit c) 16 ≡ b → digit c < 16
    by true e = ltb-true (digit c) 16 e
    by false e = let i = rw e at h in absurd (omega arith)

byte_small : (a b : ℕ) → byte a b < 256 → (digit a < 16) × (digit b < 16)
unfolding byte
byte_small a b h = by (ltb (digit a) 16) (ltb (digit b) 16) refl refl
  where
    by : (x y : Bool) → ltb (digit a) 16 ≡ x → ltb (digit b) 16 ≡ y → (digit a < 16) × (digit b < 16)
    by true true p q = (ltb-true (digit a) 16 p, ltb-true (digit b) 16 q)
    by true false p q = let i = rw (p, q) at h in absurd (omega arith)
    by false y p q = let i = rw p at h in absurd (omega arith)

pair-digits : (a b : ℕ) → digit a < 16 → digit b < 16 → 16 * value_of a + value_of b ≡ byte a b
pair-digits a b h k = rw (value-digit a h, value-digit b k, byte-digits a b h k)

-- characters that make a byte
pub pair-byte : (a b : ℕ) → byte a b < 256 → 16 * value_of a + value_of b ≡ byte a b
pair-byte a b h = let d = byte_small a b h in pair-digits a b d.0 d.1

-- characters whose value is a byte's
pub pair_small : (a b : ℕ) → 16 * value_of a + value_of b < 256 → 16 * value_of a + value_of b ≡ byte a b
pair_small a b h = pair-digits a b (value_small a (omega arith)) (value_small b (omega arith))

-- ---- the sums of values

-- sums below 4,096 are those of digits
pub sums_good : (cs : List ℕ) (n : ℕ) → length cs ≡ 2 * n → highs cs < 4096 → lows cs < 4096 → AllBytes (bytes_of cs) × (16 * highs cs + lows cs ≡ sum (bytes_of cs))
sums_good [] n e h k = (tt, refl)
sums_good (a ∷ []) n e h k = absurd (omega arith)
sums_good (a ∷ b ∷ cs) zero e h k = absurd (omega arith)
sums_good (a ∷ b ∷ cs) (suc n) e h k =
    let r = sums_good cs n (omega arith) (omega arith) (omega arith) in
    let x = value_small a (omega arith) in
    let y = value_small b (omega arith) in
    let p = pair-digits a b x y in
    let q = value-digit a x in
    let s = value-digit b y in
    let m = r.1 in
    ((omega arith, r.0), omega arith)

-- and digits make no more
pub sums_small : (cs : List ℕ) → AllBytes (bytes_of cs) → (highs cs ≤ 15 * length (bytes_of cs)) × (lows cs ≤ 15 * length (bytes_of cs))
sums_small [] h = (omega arith, omega arith)
sums_small (a ∷ []) h = absurd (omega (arith, h.0))
sums_small (a ∷ b ∷ cs) h =
    let r = sums_small cs h.1 in
    let d = byte_small a b h.0 in
    let q = value-digit a d.0 in
    let s = value-digit b d.1 in
    (omega (arith, r.0), omega (arith, r.1))

-- the pairs before i are summed
pub record Summing (cs : List ℕ) (i high low : ℕ) : Type 0 where
  pub first : high + highs (drop (2 * i) cs) ≡ highs cs
  pub second : low + lows (drop (2 * i) cs) ≡ lows cs
  pub high_small : high ≤ 4096 * i
  pub low_small : low ≤ 4096 * i

pub two : (s : List ℕ) (i : ℕ) → i + 1 < length s → drop i s ≡ get_or s i 0 ∷ get_or s (i + 1) 0 ∷ drop (i + 2) s
two s i h =
    let a : i + 1 ≡ suc i = omega arith in
    let b : i + 2 ≡ suc (i + 1) = omega arith in
    drop-cons s i 0 (omega arith) ∙ ap (λ l. get_or s i 0 ∷ l) (rw (b, ← a) (drop-cons s (i + 1) 0 h))

pub sums-start : (cs : List ℕ) → Summing cs 0 0 0
sums-start cs = record { first = omega arith; second = omega arith; high_small = omega arith; low_small = omega arith }

pub sums_more : {cs : List ℕ} {i n high low x y : ℕ} → Summing cs i high low → length cs ≡ 2 * n → i < n → x ≡ value_of (get_or cs (2 * i) 0) → x ≤ 4096 → y ≡ value_of (get_or cs (2 * i + 1) 0) → y ≤ 4096
    → Summing cs (i + 1) (high + x) (low + y)
sums_more {cs} {i} {n} {high} {low} {x} {y} s l h ex bx ey by =
    let t : drop (2 * i) cs ≡ get_or cs (2 * i) 0 ∷ get_or cs (2 * i + 1) 0 ∷ drop (2 * i + 2) cs = two cs (2 * i) (omega arith) in
    let e : 2 * i + 2 ≡ 2 * (i + 1) = omega arith in
    let p : highs (drop (2 * i) cs) ≡ x + highs (drop (2 * (i + 1)) cs) = rw (t, ex, e) in
    let q : lows (drop (2 * i) cs) ≡ y + lows (drop (2 * (i + 1)) cs) = rw (t, ey, e) in
    let f = s.first in
    let g = s.second in
    record { first = omega arith; second = omega arith; high_small = omega (arith, s.high_small); low_small = omega (arith, s.low_small) }

pub sums_done : {cs : List ℕ} {i n high low : ℕ} → Summing cs i high low → length cs ≡ 2 * n → n ≤ 260 → i ≤ n → n ≤ i → Summed cs high low
sums_done {cs} {i} {n} {high} {low} s l k w h =
    let none : drop (2 * i) cs ≡ [] = drop_of_length-le cs {i = 2 * i} (omega arith) in
    let f : high + 0 ≡ highs cs = rw none at s.first in
    let g : low + 0 ≡ lows cs = rw none at s.second in
    record { first = omega arith; second = omega arith; high_small = omega (arith, s.high_small); low_small = omega (arith, s.low_small) }

pub ruleset sums-cases = (sums-start, sums_more, sums_done)
