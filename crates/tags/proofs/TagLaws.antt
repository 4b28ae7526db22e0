-- The 40 bytes of a tag are five words for SipHash, and its hash is the tag.
-- Assumes nothing.
use mathlib.Core.Path.{◌≡◌, refl, sym, ◌∙◌, ap}
use mathlib.Core.List.{List, ◌++◌}
use Prim.Native.Nat.{ℕ, ◌/◌, ◌%◌, ◌^◌, ◌<◌}
use lib.ListN.{length}
use Rattle.bits.specs.Bytes.{bytes, low_bytes, low_number, number}
use Rattle.layout.specs.Entry.{word_list, words_number, word_widths}
use Rattle.bits.specs.Fields.{Fit}
use Rattle.bits.specs.SipHash.{absorb, compress, finish, padded, siphash, start, word}
use Rattle.layout.specs.Tag.{TagFor, tag_of}
use Rattle.layout.specs.declared.entry.Words.{Words}
use Rattle.bits.specs.declared.siphash.Lanes.{Lanes}
use Rattle.bits.proofs.ByteLaws.{low_round}
use Rattle.layout.proofs.WordLaws.{bytes-words, cut_eights}
use Rattle.bits.proofs.SipLaws.{hashed}

-- the word as SipHash reads its bytes
abbrev pub low : ℕ → ℕ
low w = low_number 8 (bytes 8 w)

abbrev pub five_words : Lanes → Words → ℕ → Lanes
five_words v w n = compress (compress (compress (compress (compress v (low w.a)) (low w.b)) (low w.c)) (low w.d)) n

-- 32 bytes of four words and 8 of a number: five words, and a sixth with the length
abbrev message : Words → ℕ → List ℕ
message w n = cut_eights (word_list w) ++ low_bytes 8 n

five : (w : Words) (n : ℕ) → length (message w n) / 8 ≡ 5
unfolding bytes low_bytes
five w n = refl

sixth : (w : Words) (n : ℕ) → word (padded (message w n)) 5 ≡ 0x2800000000000000
unfolding bytes low_bytes low_number number padded word
sixth w n = refl

absorbed : (w : Words) (n : ℕ) (v : Lanes) → n < 2 ^ 64 → absorb 5 (message w n) v ≡ five_words v w n
unfolding absorb word bytes low_bytes low_number number
absorbed w n v l = ap (compress (compress (compress (compress (compress v (low w.a)) (low w.b)) (low w.c)) (low w.d))) (low_round 8 n l)

hash_words : (k0 k1 n : ℕ) (w : Words) → Fit word_widths (word_list w) → n < 2 ^ 64
    → siphash k0 k1 (bytes 32 (words_number w) ++ low_bytes 8 n) % 2 ^ 16 ≡ finish (compress (five_words (start k0 k1) w n) 0x2800000000000000) % 65536
unfolding words_number
hash_words k0 k1 n w f l =
    rw (bytes-words (word_list w) f, hashed k0 k1 (message w n), five w n, sixth w n, absorbed w n (start k0 k1) l)

-- what the code computes is the tag
pub hash_tag : (k0 k1 n : ℕ) (w : Words) → Fit word_widths (word_list w) → n < 2 ^ 64
    → {g : ℕ} → g ≡ finish (compress (five_words (start k0 k1) w n) 0x2800000000000000) % 65536 → TagFor k0 k1 w n g
unfolding tag_of
hash_tag k0 k1 n w f l h e is = h ∙ sym (hash_words k0 k1 n w f l) ∙ ap (λ (x : ℕ). siphash k0 k1 (bytes 32 x ++ low_bytes 8 n) % 2 ^ 16) is
