-- Fields of a 64-bit word side by side: none loses a bit, and together they are below 2^64.
-- Assumes nothing.
use Rattle.std.proofs.Common.{◌≡◌, ℕ, ◌+◌, ◌-◌, ◌*◌, ◌/◌, ◌%◌, ◌^◌, ◌<◌, [], ◌∷◌, sym, subst, arith}
use native.Mathlib.Nat.{add-zero, mod-eq_of_lt, mul-one}
use lib.Arith.{digits_lt}
use lib.Pow.{pow-add, shr_lt}
use Rattle.bits.specs.Fields.{pack}

-- a word is a field above its low k bits, and these
whole : (k : ℕ) → k < 64 → (64 - k) + k ≡ 64
whole k h = omega arith

pub two_lt : (k x y : ℕ) → k < 64 → x < 2 ^ (64 - k) → y < 2 ^ k → x * 2 ^ k + y < 2 ^ 64
two_lt k x y h hx hy = subst (λ (n : ℕ). x * 2 ^ k + y < 2 ^ n) (whole k h) (rw pow-add (digits_lt hx hy))

pub high_lt : (k x : ℕ) → k < 64 → x < 2 ^ 64 → x / 2 ^ k < 2 ^ (64 - k)
high_lt k x h hx = shr_lt (64 - k) k (subst (λ (n : ℕ). x < 2 ^ n) (sym (whole k h)) hx)

pub two_packed : (k x y : ℕ) → k < 64 → x < 2 ^ (64 - k) → y < 2 ^ k → x * 2 ^ k % 2 ^ 64 + y ≡ pack ((64 - k) ∷ k ∷ []) (x ∷ y ∷ [])
two_packed k x y h hx hy =
    let below : x * 2 ^ k < 2 ^ 64 = omega (arith, two_lt k x y h hx hy) in
    rw (mod-eq_of_lt below) (simp (mul-one, add-zero))

module _ (m k x y z : ℕ) (h : m + k < 64) (hx : x < 2 ^ (64 - (m + k))) (hy : y < 2 ^ m) (hz : z < 2 ^ k) where
  low_lt : y * 2 ^ k + z < 2 ^ (m + k)
  low_lt = rw pow-add (digits_lt hy hz)

  pub three_lt : x * 2 ^ (m + k) + (y * 2 ^ k + z) < 2 ^ 64
  three_lt = two_lt (m + k) x (y * 2 ^ k + z) h hx low_lt

  pub three_packed : x * 2 ^ (m + k) % 2 ^ 64 + y * 2 ^ k % 2 ^ 64 + z ≡ pack ((64 - (m + k)) ∷ m ∷ k ∷ []) (x ∷ y ∷ z ∷ [])
  three_packed =
      let high : x * 2 ^ (m + k) < 2 ^ 64 = omega (arith, three_lt) in
      let middle : y * 2 ^ k < 2 ^ 64 = omega (arith, three_lt) in
      rw (mod-eq_of_lt high, mod-eq_of_lt middle) (simp (mul-one, add-zero) (omega arith))
