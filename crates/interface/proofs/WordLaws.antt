-- The words of a call: those that are stored one after the other, and an operation's number that no request has.
-- Assumes nothing.
use mathlib.Core.Path.{◌≡◌, refl, sym, ◌∙◌, ap, ap₂}
use mathlib.Core.Logic.{◌≢◌}
use mathlib.Core.List.{List, [], ◌∷◌, ◌++◌, append_assoc, append-nil}
use Prim.Native.Nat.{ℕ, zero, suc, ◌+◌, ◌*◌, ◌%◌, ◌^◌, ◌<◌, ◌≤◌}
use native.Mathlib.Nat.{mod-lt, zero-mod}
use native.Mathlib.Numerals.{add-one}
use native.Mathlib.Omega.{arith}
use lib.ListN.{drop, get_or, length, length-append, length-drop, get_or-eq_default, take, take-append-drop}
use lib.Seq.{drop_at, drop-drop, drop-nil, get_or-drop, length-take-le, take_all, take_at, take-suc}
use lib.Pow.{pow_pos}
use borrow.Rule.Slice.PartMut.{put_mid}
use Rattle.bits.specs.Bytes.{low_bytes, low_number, number}
use Rattle.bits.specs.SipHash.{word}
use Rattle.bits.proofs.ByteLaws.{length-low_bytes, low_back, low_mod, tabulate}
use Rattle.machine.specs.Requests.{Shift}
use Rattle.interface.specs.Exported.{picked, requests, unknown, word_bytes}

word_bytes_append : (v w : List ℕ) → word_bytes (v ++ w) ≡ word_bytes v ++ word_bytes w
unfolding word_bytes
word_bytes_append [] w = refl
word_bytes_append (x ∷ v) w = rw (word_bytes_append v w, append_assoc)

-- words stored one after the other: where the first i stand, word i stands after them
pub one_more_lem : (ws s t : List ℕ) (i : ℕ) → t ≡ put_mid (8 * i) 8 s (low_bytes 8 (get_or ws i 0)) → take (8 * i) s ≡ word_bytes (take i ws) → i < length ws → 8 * i + 8 ≤ length s
    → take (8 * (i + 1)) t ≡ word_bytes (take (i + 1) ws)
unfolding word_bytes
one_more_lem ws s t i put first h fits =
    let w = low_bytes 8 (get_or ws i 0) in
    ap (take (8 * (i + 1))) (put ∙ sym (append_assoc (take (8 * i) s) w _))
    ∙ take_at (take (8 * i) s ++ w) _ (8 * (i + 1)) (rw (length-append, length-take-le (8 * i) s (omega arith), length-low_bytes) (omega arith))
    ∙ rw (first, add-one, take-suc ws i 0, word_bytes_append, append-nil)

-- and all of them where they fill the part
pub all_stored : (ws s : List ℕ) (i : ℕ) → length ws ≤ i → length s ≡ 8 * length ws → take (8 * i) s ≡ word_bytes (take i ws) → s ≡ word_bytes ws
all_stored ws s i h fits first = sym (take_all (8 * i) s (omega arith)) ∙ first ∙ ap word_bytes (take_all i ws h)

-- an element of a part is an element of the whole, or none
taken : (n : ℕ) (s : List ℕ) (i : ℕ) → get_or s i 0 < 256 → get_or (take n s) i 0 < 256
taken zero s i h = omega arith
taken (suc n) [] i h = h
taken (suc n) (x ∷ s) zero h = h
taken (suc n) (x ∷ s) (suc i) h = taken n s i h

-- bytes are the bytes of their words
pub words-kept : (n : ℕ) (f : ℕ → ℕ) (s : List ℕ) → ((i : ℕ) → f i ≡ word s i) → ((i : ℕ) → get_or s i 0 < 256) → length s ≡ 8 * n → word_bytes (tabulate n f) ≡ s
unfolding word word_bytes
words-kept zero f s same bytes long = take_all 0 s (omega arith)
words-kept (suc n) f s same bytes long =
    ap₂ ◌++◌
    (ap (low_bytes 8) (same 0) ∙ low_back (take 8 s) (length-take-le 8 s (omega arith)) (λ i. taken 8 s i (bytes i)))
    (words-kept n (λ i. f (suc i)) (drop 8 s) (λ i. let e : 8 * suc i ≡ 8 + 8 * i = omega arith in same (suc i) ∙ rw (e, drop-drop)) (λ i. rw get_or-drop (bytes (8 + i))) (rw length-drop (omega arith)))
    ∙ take-append-drop 8 s

-- a stored word is read again, less what 64 bits do not hold
pub word_of : (ws : List ℕ) (i : ℕ) → word (word_bytes ws) i ≡ get_or ws i 0 % 2 ^ 64
unfolding word word_bytes low_number number
word_of [] i = rw (drop-nil (8 * i), zero-mod)
word_of (w ∷ ws) zero = ap (low_number 8) (take_at (low_bytes 8 w) (word_bytes ws) 8 (length-low_bytes 8 w)) ∙ low_mod 8 w
word_of (w ∷ ws) (suc i) =
    let all : List ℕ = low_bytes 8 w ++ word_bytes ws in
    let e : 8 * suc i ≡ 8 + 8 * i = omega arith in
    let skip : drop (8 * suc i) all ≡ drop (8 * i) (word_bytes ws) = ap (λ (n : ℕ). drop n all) e ∙ sym (drop-drop (8 * i) 8 all) ∙ ap (drop (8 * i)) (drop_at (low_bytes 8 w) (word_bytes ws) 8 (length-low_bytes 8 w)) in
    ap (λ (x : List ℕ). low_number 8 (take 8 x)) skip ∙ word_of ws i

pub length-word_bytes : (ws : List ℕ) → length (word_bytes ws) ≡ 8 * length ws
unfolding word_bytes
length-word_bytes [] = refl
length-word_bytes (w ∷ ws) = rw (length-append, length-low_bytes, length-word_bytes ws) (omega arith)

-- a word that is read has 64 bits
pub word_lt : (s : List ℕ) (i : ℕ) → ((j : ℕ) → get_or s j 0 < 256) → 8 * i + 8 ≤ length s → word s i < 2 ^ 64
unfolding word
word_lt s i h fits =
    let x : List ℕ = take 8 (drop (8 * i) s) in
    let same : low_bytes 8 (low_number 8 x) ≡ x = low_back x (length-take-le 8 (drop (8 * i) s) (rw length-drop (omega arith))) (λ j. taken 8 (drop (8 * i) s) j (rw get_or-drop (h (8 * i + j)))) in
    let low : low_number 8 x ≡ low_number 8 x % 2 ^ 64 = sym (ap (low_number 8) same) ∙ low_mod 8 (low_number 8 x) in
    rw low (mod-lt _ (pow_pos 64))

-- a number that is none of the first n stands at n or above
abbrev pub None : ℕ → ℕ → Type 0
None zero o = Unit {0}
None (suc n) o = None n o × (o ≢ n)

pub beyond : (n o : ℕ) → None n o → n ≤ o
beyond zero o h = omega arith
beyond (suc n) o h =
    let below : n ≤ o = beyond n o h.0 in
    let other : o ≢ n = h.1 in
    omega arith

-- no request has a number above 16
pub picked_none : (o k x u l m p c : ℕ) (φ : Shift) → 17 ≤ o → unknown ≡ picked o k x u l m p c φ
unfolding picked
picked_none o k x u l m p c φ h = sym (get_or-eq_default (requests k x u l m p c φ) unknown h)
