-- The 32 bytes of an entry as four 64-bit words.
-- Assumes nothing.
use mathlib.Core.Path.{◌≡◌, sym, ◌∙◌, ap}
use mathlib.Core.List.{List, [], ◌∷◌}
use Prim.Native.Nat.{ℕ}
use lib.ListN.{length, take, drop, replicate}
use lib.Seq.{drop-drop}
use borrow.Rule.Slice.PartMut.{put_mid}
use Rattle.bits.specs.Bytes.{bytes, number}
use Rattle.bits.specs.Fields.{pack, Fit}
use Rattle.bits.proofs.ByteLaws.{by_elements}
use Rattle.bits.proofs.FieldLaws.{unpack-pack, unpack-cut, pack-groups, cut}
use Rattle.layout.specs.Entry.{word_widths, word_list, words_number}
use Rattle.layout.specs.declared.entry.Words.{Words}

-- 32 bytes are four words of eight bytes
abbrev eights : List (List ℕ)
eights = replicate 4 (replicate 8 8)

abbrev pub cut_eights : List ℕ → List ℕ
cut_eights ws = cut eights ws

pub bytes-words : (ws : List ℕ) → Fit word_widths ws → bytes 32 (pack word_widths ws) ≡ cut_eights ws
unfolding bytes
bytes-words ws h = unpack-cut eights (pack word_widths ws) ∙ ap (cut eights) (unpack-pack word_widths ws h)

-- four words read of the quarters are the number of the whole
pub words-read : (s : List ℕ) → length s ≡ 32 → {a b c d : ℕ}
    → a ≡ number 8 (take 8 s) → b ≡ number 8 (take 8 (drop 8 s)) → c ≡ number 8 (take 8 (drop 16 s)) → d ≡ number 8 (take 8 (drop 24 s))
    → pack word_widths (a ∷ b ∷ c ∷ d ∷ []) ≡ number 32 s
unfolding number
words-read s h ha hb hc hd =
    rw (ha, hb, hc, hd, ← drop-drop 8 16 s, ← drop-drop 8 8 s) (pack-groups eights s (sym h))

-- four words written to the quarters are the bytes of the whole
pub words-written : (s : List ℕ) (w : Words) → length s ≡ 32 → Fit word_widths (word_list w) → {p q r t : List ℕ}
    → p ≡ bytes 8 w.a → q ≡ bytes 8 w.b → r ≡ bytes 8 w.c → t ≡ bytes 8 w.d
    → put_mid 24 8 (put_mid 16 8 (put_mid 8 8 (put_mid 0 8 s p) q) r) t ≡ bytes 32 (words_number w)
unfolding bytes words_number
words-written s w h f hp hq hr ht =
    rw (hp, hq, hr, ht, bytes-words (word_list w) f, by_elements s 32 h)
