-- A message for SipHash is its whole words, and then one word of what is left, null bytes and the length.
-- Assumes nothing.
use mathlib.Core.Path.{◌≡◌, refl, ap, ap₂, ◌∙◌, subst}
use mathlib.Core.List.{List, [], ◌∷◌, ◌++◌}
use Prim.Native.Nat.{ℕ, zero, suc, ◌+◌, ◌-◌, ◌*◌, ◌/◌, ◌%◌, ◌^◌, ◌≤◌, ◌<◌}
use native.Mathlib.Nat.{add-zero, mul-mod_left, sub-zero, suc-sub-suc}
use native.Mathlib.Numerals.{add-one}
use native.Mathlib.Omega.{arith}
use lib.ListN.{get_or, length, take, drop, replicate, length-append, length-drop, length-replicate, length-take}
use lib.Arith.{mod-mul}
use lib.Bits.{bit_or, bit_xor, or_shifted}
use lib.Pow.{pow-add, pow_pos, shl-shr, shr_lt}
use lib.Seq.{take_all, take-append-le, drop-append-le}
use mir.Syntax.{w64}
use Rattle.std.specs.Simd.{first_chunks}
use Rattle.std.specs.Int.{from_le_bytes}
use Rattle.bits.specs.Bytes.{low_number, number}
use Rattle.bits.specs.SipHash.{absorb, add64, compress, finish, padded, rotl, siphash, sip_round, start, word}
use Rattle.bits.specs.declared.siphash.Lanes.{Lanes}
use Rattle.bits.proofs.PartLaws.{chunk_at}
use Rattle.bits.proofs.ByteLaws.{low_read, tabulate}

-- zeros after a list, up to n elements, are what the list reads past its end
filled : (n : ℕ) (s t : List ℕ) → length s ≤ n → s ++ (replicate (n - length s) 0 ++ t) ≡ tabulate n (λ i. get_or s i 0) ++ t
filled zero [] t h = refl
filled zero (x ∷ s) t h = absurd (omega arith)
filled (suc n) [] t h = rw sub-zero (ap (λ l. 0 ∷ l) (rw sub-zero at (filled n [] t (omega arith))))
filled (suc n) (x ∷ s) t h = rw suc-sub-suc (ap (λ l. x ∷ l) (filled n s t (omega arith)))

-- words that stand before t do not see it
absorb_append : (n : ℕ) (s t : List ℕ) (v : Lanes) → 8 * n ≤ length s → absorb n (s ++ t) v ≡ absorb n s v
unfolding absorb word
absorb_append zero s t v h = refl
absorb_append (suc n) s t v h =
    rw (
      absorb_append n s t v (omega arith),
      drop-append-le (8 * n) s t (omega arith),
      take-append-le 8 (drop (8 * n) s) t (simp length-drop (omega arith)),
    )

-- the whole words of a message go in, then the last word of the padded message
pub hashed : (k0 k1 : ℕ) (m : List ℕ)
    → siphash k0 k1 m ≡ finish (compress (absorb (length m / 8) m (start k0 k1)) (word (padded m) (length m / 8)))
unfolding siphash padded absorb
hashed k0 k1 m = rw (add-one, absorb_append (length m / 8) m _ (start k0 k1) (omega arith))

-- which has what is left of the message, in the code's words, and reads 0 past its end
abbrev pub rest : List ℕ → List ℕ
rest m = take (length m - 8 * (length m / 8)) (drop (8 * (length m / 8)) m)

pub last_word : (m : List ℕ)
    → word (padded m) (length m / 8) ≡ low_number 8 (tabulate 7 (λ i. get_or (rest m) i 0) ++ (length m % 256 ∷ []))
unfolding padded word
last_word m =
    let left = drop (8 * (length m / 8)) m in
    let size : length left ≡ length m % 8 = simp length-drop (omega arith) in
    let tail = replicate (7 - length left) 0 ++ (length m % 256 ∷ []) in
    rw (
      ← size,
      drop-append-le (8 * (length m / 8)) m tail (omega arith),
      take_all 8 (left ++ tail) (simp (length-append, length-replicate) (omega arith)),
      take_all (length m - 8 * (length m / 8)) left (omega arith),
      filled 7 left (length m % 256 ∷ []) (omega arith),
    )

-- so it is read from what is left, byte by byte
pub last_read : (m : List ℕ) {r a b c d e f g : ℕ} → r ≡ from_le_bytes w64 (a ∷ b ∷ c ∷ d ∷ e ∷ f ∷ g ∷ length m % 256 ∷ [])
    → a ≡ get_or (rest m) 0 0 → b ≡ get_or (rest m) 1 0 → c ≡ get_or (rest m) 2 0 → d ≡ get_or (rest m) 3 0 → e ≡ get_or (rest m) 4 0 → f ≡ get_or (rest m) 5 0
    → g ≡ get_or (rest m) 6 0 → r ≡ word (padded m) (length m / 8)
last_read m {r} {a} {b} {c} {d} {e} {f} {g} j h0 h1 h2 h3 h4 h5 h6 =
    rw last_word (rw (h0, h1, h2, h3, h4, h5, h6) at (j ∙ low_read (a ∷ b ∷ c ∷ d ∷ e ∷ f ∷ g ∷ length m % 256 ∷ []) refl))

-- a round by its sums and turns
pub rounded : (v : Lanes) {a b c d e f g h i k : ℕ} → f ≡ add64 c (bit_xor e d) → g ≡ rotl (bit_xor e d) 21 → h ≡ add64 d (bit_xor b a) → i ≡ rotl (bit_xor b a) 17
    → k ≡ rotl h 32 → c ≡ rotl a 32 → a ≡ add64 v.v0 v.v1 → b ≡ rotl v.v1 13 → d ≡ add64 v.v2 v.v3 → e ≡ rotl v.v3 16
    → record { v0 = f; v1 = bit_xor i h; v2 = k; v3 = bit_xor g f } ≡ sip_round v
unfolding sip_round
rounded v pf pg ph pi pk pc pa pb pd pe = rw (pk, pi, pg, pf, ph, pc, pa, pb, pd, pe)

-- word i goes in after those before it
pub absorb_more : (i : ℕ) (s : List ℕ) (v : Lanes) {m : ℕ} {w x : Lanes} {ws : List (List ℕ)} → ws ≡ first_chunks 8 (length s / 8) s → i < length s / 8
    → w ≡ absorb i s v → m ≡ from_le_bytes w64 (get_or ws i []) → x ≡ compress w m → x ≡ absorb (i + 1) s v
unfolding absorb word
absorb_more i s v {m} f h p q r =
    let e : get_or (first_chunks 8 (length s / 8) s) i [] ≡ take 8 (drop (8 * i) s) = chunk_at (length s / 8) i s h in
    let n : m ≡ low_number 8 (take 8 (drop (8 * i) s)) = rw (f, e) at q ∙ low_read _ (simp (length-take, length-drop) (omega arith)) in
    rw add-one (r ∙ ap₂ compress p n)

-- a word turned left is its two shifts joined by "or"
pub turned : (x k : ℕ) → x < 2 ^ 64 → k < 64 → bit_or (x * 2 ^ k % 2 ^ 64) (x / 2 ^ (64 - k)) ≡ rotl x k
unfolding rotl
turned x k h l =
    let whole : 64 ≡ 64 - k + k = omega arith in
    let room : 64 ≡ k + (64 - k) = omega arith in
    let up : x * 2 ^ k % 2 ^ 64 ≡ x % 2 ^ (64 - k) * 2 ^ k
    = ap (λ (w : ℕ). x * 2 ^ k % 2 ^ w) whole ∙ ap (λ (p : ℕ). x * 2 ^ k % p) (pow-add 2 (64 - k) k)
    ∙ mod-mul (x * 2 ^ k) (pow_pos (64 - k)) (pow_pos k)
    ∙ ap₂ (λ (a b : ℕ). a % 2 ^ (64 - k) * 2 ^ k + b) (shl-shr x k) (mul-mod_left x (2 ^ k))
    ∙ add-zero (x % 2 ^ (64 - k) * 2 ^ k) in
    let below = shr_lt k (64 - k) (subst (λ (w : ℕ). x < 2 ^ w) room h) in
    ap (λ (a : ℕ). bit_or a (x / 2 ^ (64 - k))) up ∙ or_shifted (x % 2 ^ (64 - k)) k (x / 2 ^ (64 - k)) below

-- the vector of the authors' paper: the message 00 01 .. 0e under the key 00 01 .. 0f
vector : siphash 0x0706050403020100 0x0f0e0d0c0b0a0908 (tabulate 15 (λ i. i)) ≡ 0xa129ca6149be45e5
unfolding siphash padded absorb word number low_number finish compress sip_round rotl add64
vector = refl
