-- The bytes of numbers: round trips, and a list by its elements.
-- Assumes nothing.
use mathlib.Core.Path.{◌≡◌, refl, ◌∙◌, ap, ap₂}
use mathlib.Core.List.{List, [], ◌∷◌, reverse, reverse-reverse}
use Prim.Native.Nat.{ℕ, zero, suc, ◌%◌, ◌^◌, ◌<◌}
use native.Mathlib.Nat.{mod-eq_of_lt, zero-div, zero-mod}
use lib.ListN.{length, get_or, replicate, length-replicate, length-reverse}
use mir.Syntax.{w64}
use Rattle.std.proofs.Common.{arith, div-one}
use Rattle.std.specs.Int.{from_be_bytes, from_le_bytes, swap_bytes, to_be_bytes, to_le_bytes}
use Rattle.bits.specs.Bytes.{bytes, low_bytes, low_number, number}
use Rattle.bits.specs.Fields.{bits, Fit}
use Rattle.bits.proofs.FieldLaws.{unpack-pack, pack-unpack, length-unpack}

-- the values of f below n
abbrev pub tabulate : ℕ → (ℕ → ℕ) → List ℕ
tabulate zero f = []
tabulate (suc n) f = f zero ∷ tabulate n (λ i. f (suc i))

-- a list of n elements is the list of its elements
pub by_elements : (xs : List ℕ) (n : ℕ) → length xs ≡ n → xs ≡ tabulate n (λ i. get_or xs i 0)
by_elements xs n h = all xs ∙ ap (λ k. tabulate k (λ i. get_or xs i 0)) h
  where
    all : (xs : List ℕ) → xs ≡ tabulate (length xs) (λ i. get_or xs i 0)
    all [] = refl
    all (x ∷ xs) = ap (λ l. x ∷ l) (all xs)

-- the library's words for the eight bytes of a word are these
pub low_read : (s : List ℕ) → length s ≡ 8 → from_le_bytes w64 s ≡ low_number 8 s
unfolding number low_number
low_read s h = rw (by_elements s 8 h) (omega arith)

pub read : (s : List ℕ) → length s ≡ 8 → from_be_bytes w64 s ≡ number 8 s
unfolding number
read s h = rw (by_elements s 8 h) (omega arith)

pub low_stored : (n : ℕ) → to_le_bytes w64 n ≡ low_bytes 8 n
unfolding bytes low_bytes
low_stored n = rw div-one

pub stored : (n : ℕ) → to_be_bytes w64 n ≡ bytes 8 n
unfolding bytes
stored n = rw div-one

-- the bytes of a number make the number again, and bytes are the bytes of their number
pub number-bytes : (k n : ℕ) → n < 2 ^ bits (replicate k 8) → number k (bytes k n) ≡ n
unfolding bytes number
number-bytes k n h = pack-unpack (replicate k 8) n ∙ mod-eq_of_lt h

pub bytes-number : (k : ℕ) (s : List ℕ) → Fit (replicate k 8) s → bytes k (number k s) ≡ s
unfolding bytes number
bytes-number k s h = unpack-pack (replicate k 8) s h

-- the same, the low byte first; of a number that is too large its low bytes come back
pub low_mod : (k n : ℕ) → low_number k (low_bytes k n) ≡ n % 2 ^ bits (replicate k 8)
unfolding bytes number low_bytes low_number
low_mod k n = rw reverse-reverse (pack-unpack (replicate k 8) n)

pub low_round : (k n : ℕ) → n < 2 ^ bits (replicate k 8) → low_number k (low_bytes k n) ≡ n
low_round k n h = low_mod k n ∙ mod-eq_of_lt h

reverse-fit : (s : List ℕ) → length s ≡ 8 → ((i : ℕ) → get_or s i 0 < 256) → Fit (replicate 8 8) (reverse s)
reverse-fit s l h = rw (by_elements s 8 l) (h 7, (h 6, (h 5, (h 4, (h 3, (h 2, (h 1, (h 0, tt))))))))

pub low_back : (s : List ℕ) → length s ≡ 8 → ((i : ℕ) → get_or s i 0 < 256) → low_bytes 8 (low_number 8 s) ≡ s
unfolding low_bytes low_number
low_back s l h = ap reverse (bytes-number 8 (reverse s) (reverse-fit s l h)) ∙ reverse-reverse s

pub length-bytes : (k n : ℕ) → length (bytes k n) ≡ k
unfolding bytes
length-bytes k n = length-unpack (replicate k 8) n ∙ length-replicate k 8

pub length-low_bytes : (k n : ℕ) → length (low_bytes k n) ≡ k
unfolding low_bytes
length-low_bytes k n = length-reverse (bytes k n) ∙ length-bytes k n

-- the library's word with its bytes in the other order
pub swapped_bytes : (n : ℕ) → swap_bytes w64 n ≡ low_number 8 (bytes 8 n)
unfolding low_number low_bytes
swapped_bytes n = ap (from_be_bytes w64) (low_stored n) ∙ (read (low_bytes 8 n) (length-low_bytes 8 n))

-- the bytes of zero are zeros
pub bytes_zero : (k : ℕ) → bytes k 0 ≡ replicate k 0
unfolding bytes
bytes_zero zero = refl
bytes_zero (suc k) = ap₂ ◌∷◌ (rw (zero-div, zero-mod)) (bytes_zero k)
