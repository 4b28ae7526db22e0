-- An entry with another tag and nonce: only the low 48 bits of the last word change.
-- Assumes nothing.
use mathlib.Core.Path.{◌≡◌, refl, sym, ◌∙◌}
use mathlib.Core.List.{List, [], ◌∷◌, ◌++◌}
use Prim.Native.Nat.{ℕ, ◌+◌, ◌*◌, ◌/◌, ◌^◌, ◌<◌}
use native.Mathlib.Nat.{mul-one, add-zero}
use native.Mathlib.Omega.{arith}
use lib.ListN.{length}
use Rattle.bits.specs.Fields.{pack, Fit}
use Rattle.layout.specs.Entry.{bit, dated, direct_number, entry_number, entry_of, indirect_number, Laid, laid_direct, laid_indirect, laid_paged, paged_number, word_list, words_number, word_widths}
use Rattle.layout.specs.Tag.{retag}
use Rattle.layout.specs.declared.entry.Entry.{Entry}
use Rattle.layout.specs.declared.entry.Words.{Words}
use Rattle.bits.proofs.FieldLaws.{pack_append}
use Rattle.layout.proofs.EntryLaws.{laid-words, number_as, read_small}

-- the last two fields of a number, of 16 and 32 bits
last_two : (ws vs : List ℕ) (g ν : ℕ) → length ws ≡ length vs → pack (ws ++ (16 ∷ 32 ∷ [])) (vs ++ (g ∷ ν ∷ [])) ≡ pack ws vs * 2 ^ 48 + (g * 2 ^ 32 + ν)
last_two ws vs g ν h = pack_append ws (16 ∷ 32 ∷ []) vs (g ∷ ν ∷ []) h ∙ simp (mul-one, add-zero)

-- what stands above the tag, whatever tag and nonce
record Above (e : Entry) : Type 0 where
  high : ℕ
  is : (g ν : ℕ) → entry_number (retag (dated e ν) g) ≡ high * 2 ^ 48 + (g * 2 ^ 32 + ν)

-- the first fields of what all entries end with
abbrev flags : Entry → List ℕ
flags e = e.permissions ∷ bit e.locked ∷ bit e.lockable ∷ bit e.cow ∷ []

above : (e : Entry) → Laid e.kind → Above e
unfolding direct_number indirect_number paged_number
above e (laid_direct k) =
    let ws : List ℕ = 3 ∷ 32 ∷ 32 ∷ 16 ∷ 55 ∷ 64 ∷ 3 ∷ 1 ∷ 1 ∷ 1 ∷ [] in
    let vs : List ℕ = 1 ∷ e.base ∷ e.length ∷ e.count ∷ e.holder ∷ e.user ∷ flags e in
    record { high = pack ws vs; is = λ g ν. number_as (retag (dated e ν) g) k ∙ last_two ws vs g ν refl }
above e (laid_indirect k) =
    let ws : List ℕ = 3 ∷ 32 ∷ 64 ∷ 32 ∷ 16 ∷ 55 ∷ 3 ∷ 1 ∷ 1 ∷ 1 ∷ [] in
    let vs : List ℕ = 2 ∷ e.base ∷ e.parent ∷ e.length ∷ e.count ∷ e.zeros ∷ flags e in
    record { high = pack ws vs; is = λ g ν. number_as (retag (dated e ν) g) k ∙ last_two ws vs g ν refl }
above e (laid_paged k) =
    let ws : List ℕ = 3 ∷ 64 ∷ 32 ∷ 39 ∷ 64 ∷ 3 ∷ 1 ∷ 1 ∷ 1 ∷ [] in
    let vs : List ℕ = 3 ∷ e.page ∷ e.length ∷ e.zeros ∷ e.user ∷ flags e in
    record { high = pack ws vs; is = λ g ν. number_as (retag (dated e ν) g) k ∙ last_two ws vs g ν refl }

-- the last of four words
last_word : (a b c d : ℕ) → pack word_widths (a ∷ b ∷ c ∷ d ∷ []) ≡ pack (64 ∷ 64 ∷ 64 ∷ []) (a ∷ b ∷ c ∷ []) * 2 ^ 64 + d
last_word a b c d = pack_append (64 ∷ 64 ∷ 64 ∷ []) (64 ∷ []) (a ∷ b ∷ c ∷ []) (d ∷ []) refl ∙ simp (mul-one, add-zero)

-- another end of 48 bits below the same high part
other-end : (x h d g ν y g' ν' : ℕ) → x * 2 ^ 64 + d ≡ h * 2 ^ 48 + (g * 2 ^ 32 + ν) → g < 2 ^ 16 → ν < 2 ^ 32 → y ≡ pack (16 ∷ 16 ∷ 32 ∷ []) (d / 2 ^ 48 ∷ g' ∷ ν' ∷ [])
    → x * 2 ^ 64 + y ≡ h * 2 ^ 48 + (g' * 2 ^ 32 + ν')
other-end x h d g ν y g' ν' e lg lν q = omega arith

-- the words with the low 48 bits of the last one replaced
pub stamp_words : (w : Words) (g ν y : ℕ) → Fit word_widths (word_list w) → Laid (entry_of (words_number w)).kind
    → y ≡ pack (16 ∷ 16 ∷ 32 ∷ []) (w.d / 2 ^ 48 ∷ g ∷ ν ∷ [])
    → words_number (record { a = w.a; b = w.b; c = w.c; d = y }) ≡ entry_number (retag (dated (entry_of (words_number w)) ν) g)
unfolding words_number
stamp_words w g ν y f k q =
    let e : Entry = entry_of (words_number w) in
    let p = above e k in
    let x : ℕ = pack (64 ∷ 64 ∷ 64 ∷ []) (w.a ∷ w.b ∷ w.c ∷ []) in
    let same : x * 2 ^ 64 + w.d ≡ p.high * 2 ^ 48 + (e.tag * 2 ^ 32 + e.nonce) = sym (last_word w.a w.b w.c w.d) ∙ laid-words w f k refl ∙ p.is e.tag e.nonce in
    let small = read_small (words_number w) in
    last_word w.a w.b w.c y ∙ other-end x p.high w.d e.tag e.nonce y g ν same small.0 small.1 q ∙ sym (p.is g ν)
