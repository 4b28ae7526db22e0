-- Entries: their four words, the same small fields in two groupings; and both round trips.
-- Assumes nothing.
use mathlib.Core.Path.{◌≡◌, refl, sym, ◌∙◌, ap, subst}
use mathlib.Core.Bool.{Bool, true, false, cond}
use mathlib.Core.List.{List, [], ◌∷◌}
use Prim.Native.Nat.{ℕ, zero, suc, ◌+◌, ◌*◌, ◌/◌, ◌%◌, ◌^◌, ◌<◌}
use native.Mathlib.Nat.{div-one, lt_of_lt_of_le, mod-lt, mod-eq_of_lt, mul-one, add-zero, zero-add, zero-mul, div-add-mod'}
use native.Mathlib.Decide.{dec_lt}
use native.Mathlib.Omega.{arith}
use lib.Arith.{digits_lt}
use lib.Pow.{mod-pow-add, pow-add, pow_pos, shr_lt, shr_mod}
use lib.Dec.{eqb, lit<, lit≤, ltb}
use lib.ListN.{get_or, drop}
use borrow.Author.Tests.{ltb-true}
use Rattle.bits.specs.Fields.{bits, pack, unpack, Fit}
use Rattle.layout.specs.Entry.{direct, free, freed, free_fields, free_number, indirect, word_widths, word_list, words_number, bit, end_widths, end_fields, end_from, direct_widths, direct_fields, direct_number, direct_from, direct_of, indirect_widths, indirect_fields, indirect_number, indirect_from, indirect_of, paged, paged_widths, paged_fields, paged_number, paged_from, paged_of, type_of, pack_as, unpack_as, entry_number, entry_of, packable, recounted, relocked, Fits, Laid, laid_direct, laid_indirect, laid_paged, Storable, is_free, is_direct, is_indirect, is_paged}
use Rattle.layout.specs.declared.entry.Words.{Words}
use Rattle.layout.specs.declared.entry.Entry.{Entry}
use Rattle.bits.proofs.FieldLaws.{pack_lt, unpack-pack, pack-unpack, unpack-fit, regroup_pack, regroup_unpack, cut, groups}
use Rattle.bits.proofs.TestLaws.{both}

-- a field that runs over a word's end: its high part is the low i bits of x, its low part the j bits of y above the lowest k
pub span_lt : (i j k x y : ℕ) → y < 2 ^ (j + k) → x % 2 ^ i * 2 ^ j + y / 2 ^ k < 2 ^ (i + j)
span_lt i j k x y h = rw pow-add (digits_lt (mod-lt x (pow_pos i)) (shr_lt j k h))

-- the small fields of what all entries end with, one by one
abbrev ends : List (List ℕ)
ends = (3 ∷ []) ∷ (1 ∷ []) ∷ (1 ∷ []) ∷ (1 ∷ []) ∷ (16 ∷ []) ∷ (32 ∷ []) ∷ []

-- a direct entry's small fields, by field and by word
abbrev direct_by_field : List (List ℕ)
direct_by_field = (3 ∷ []) ∷ (32 ∷ []) ∷ (29 ∷ 3 ∷ []) ∷ (16 ∷ []) ∷ (45 ∷ 10 ∷ []) ∷ (54 ∷ 10 ∷ []) ∷ ends

abbrev direct_by_word : List (List ℕ)
direct_by_word = (3 ∷ 32 ∷ 29 ∷ []) ∷ (3 ∷ 16 ∷ 45 ∷ []) ∷ (10 ∷ 54 ∷ []) ∷ (10 ∷ end_widths) ∷ []

pub direct-words : (e : Entry) {a b c d : ℕ}
    → a ≡ pack (3 ∷ 32 ∷ 29 ∷ []) (1 ∷ e.base ∷ e.length / 8 ∷ [])
    → b ≡ pack (3 ∷ 16 ∷ 45 ∷ []) (e.length % 8 ∷ e.count ∷ e.holder / 1024 ∷ [])
    → c ≡ pack (10 ∷ 54 ∷ []) (e.holder % 1024 ∷ e.user / 1024 ∷ [])
    → d ≡ pack (10 ∷ end_widths) (e.user % 1024 ∷ end_fields e)
    → pack word_widths (a ∷ b ∷ c ∷ d ∷ []) ≡ direct_number e
unfolding direct_number
direct-words e ha hb hc hd =
    let p : List ℕ =
    1 ∷ e.base ∷ e.length / 8 ∷ e.length % 8 ∷ e.count ∷ e.holder / 1024 ∷ e.holder % 1024 ∷ e.user / 1024 ∷ e.user % 1024
    ∷ end_fields e in
    let fields : groups direct_by_field p ≡ direct_fields e = simp (mul-one, add-zero, div-add-mod') in
    rw (ha, hb, hc, hd) (regroup_pack direct_by_word direct_by_field p refl refl ∙ ap (pack direct_widths) fields)

-- an entry's words read as a direct entry, where m has what the last word ends with
unfoldable pub direct_read : Words → Entry → Entry
direct_read w m = record {
  kind = m.kind;
  base = w.a / 2 ^ 29 % 2 ^ 32;
  length = w.a % 2 ^ 29 * 8 + w.b / 2 ^ 61;
  count = w.b / 2 ^ 45 % 2 ^ 16;
  holder = w.b % 2 ^ 45 * 1024 + w.c / 2 ^ 54;
  user = w.c % 2 ^ 54 * 1024 + w.d / 2 ^ 54;
  parent = m.parent;
  page = m.page;
  zeros = m.zeros;
  permissions = m.permissions;
  locked = m.locked;
  lockable = m.lockable;
  cow = m.cow;
  tag = m.tag;
  nonce = m.nonce;
}

pub direct_read_lem : (w : Words) {m : Entry} → Fit word_widths (word_list w) → m ≡ end_from 1 (unpack end_widths w.d) → direct_read w m ≡ direct_of (words_number w)
unfolding direct_read direct_of words_number
direct_read_lem w h hm =
    let same : direct_read w (end_from 1 (unpack end_widths w.d)) ≡ direct_from (groups direct_by_field (cut direct_by_word (word_list w))) =
    simp (mul-one, add-zero, div-one, shr_mod 3 61 h.1.0, shr_mod 10 54 h.1.1.0, shr_mod 10 54 h.1.1.1.0) in
    rw hm (same ∙ ap direct_from (sym (regroup_unpack direct_by_word direct_by_field (word_list w) refl h)))

-- an indirect entry, in the same way
abbrev indirect_by_field : List (List ℕ)
indirect_by_field = (3 ∷ []) ∷ (32 ∷ []) ∷ (29 ∷ 35 ∷ []) ∷ (29 ∷ 3 ∷ []) ∷ (16 ∷ []) ∷ (45 ∷ 10 ∷ []) ∷ ends

abbrev indirect_by_word : List (List ℕ)
indirect_by_word = (3 ∷ 32 ∷ 29 ∷ []) ∷ (35 ∷ 29 ∷ []) ∷ (3 ∷ 16 ∷ 45 ∷ []) ∷ (10 ∷ end_widths) ∷ []

pub indirect-words : (e : Entry) {a b c d : ℕ}
    → a ≡ pack (3 ∷ 32 ∷ 29 ∷ []) (2 ∷ e.base ∷ e.parent / 2 ^ 35 ∷ [])
    → b ≡ pack (35 ∷ 29 ∷ []) (e.parent % 2 ^ 35 ∷ e.length / 8 ∷ [])
    → c ≡ pack (3 ∷ 16 ∷ 45 ∷ []) (e.length % 8 ∷ e.count ∷ e.zeros / 1024 ∷ [])
    → d ≡ pack (10 ∷ end_widths) (e.zeros % 1024 ∷ end_fields e)
    → pack word_widths (a ∷ b ∷ c ∷ d ∷ []) ≡ indirect_number e
unfolding indirect_number
indirect-words e ha hb hc hd =
    let p : List ℕ =
    2 ∷ e.base ∷ e.parent / 2 ^ 35 ∷ e.parent % 2 ^ 35 ∷ e.length / 8 ∷ e.length % 8 ∷ e.count ∷ e.zeros / 1024 ∷ e.zeros % 1024
    ∷ end_fields e in
    let fields : groups indirect_by_field p ≡ indirect_fields e = simp (mul-one, add-zero, div-add-mod') in
    rw (ha, hb, hc, hd) (regroup_pack indirect_by_word indirect_by_field p refl refl ∙ ap (pack indirect_widths) fields)

unfoldable pub indirect_read : Words → Entry → Entry
indirect_read w m = record {
  kind = m.kind;
  base = w.a / 2 ^ 29 % 2 ^ 32;
  length = w.b % 2 ^ 29 * 8 + w.c / 2 ^ 61;
  count = w.c / 2 ^ 45 % 2 ^ 16;
  holder = m.holder;
  user = m.user;
  parent = w.a % 2 ^ 29 * 2 ^ 35 + w.b / 2 ^ 29;
  page = m.page;
  zeros = w.c % 2 ^ 45 * 1024 + w.d / 2 ^ 54;
  permissions = m.permissions;
  locked = m.locked;
  lockable = m.lockable;
  cow = m.cow;
  tag = m.tag;
  nonce = m.nonce;
}

pub indirect_read_lem : (w : Words) {m : Entry} → Fit word_widths (word_list w) → m ≡ end_from 2 (unpack end_widths w.d) → indirect_read w m ≡ indirect_of (words_number w)
unfolding indirect_read indirect_of words_number
indirect_read_lem w h hm =
    let same : indirect_read w (end_from 2 (unpack end_widths w.d)) ≡ indirect_from (groups indirect_by_field (cut indirect_by_word (word_list w))) =
    simp (mul-one, add-zero, div-one, shr_mod 35 29 h.1.0, shr_mod 3 61 h.1.1.0, shr_mod 10 54 h.1.1.1.0) in
    rw hm (same ∙ ap indirect_from (sym (regroup_unpack indirect_by_word indirect_by_field (word_list w) refl h)))

-- an entry that is paged out, in the same way
abbrev paged_by_field : List (List ℕ)
paged_by_field = (3 ∷ []) ∷ (61 ∷ 3 ∷ []) ∷ (32 ∷ []) ∷ (29 ∷ 10 ∷ []) ∷ (54 ∷ 10 ∷ []) ∷ ends

abbrev paged_by_word : List (List ℕ)
paged_by_word = (3 ∷ 61 ∷ []) ∷ (3 ∷ 32 ∷ 29 ∷ []) ∷ (10 ∷ 54 ∷ []) ∷ (10 ∷ end_widths) ∷ []

pub paged-words : (e : Entry) {a b c d : ℕ}
    → a ≡ pack (3 ∷ 61 ∷ []) (3 ∷ e.page / 8 ∷ [])
    → b ≡ pack (3 ∷ 32 ∷ 29 ∷ []) (e.page % 8 ∷ e.length ∷ e.zeros / 1024 ∷ [])
    → c ≡ pack (10 ∷ 54 ∷ []) (e.zeros % 1024 ∷ e.user / 1024 ∷ [])
    → d ≡ pack (10 ∷ end_widths) (e.user % 1024 ∷ end_fields e)
    → pack word_widths (a ∷ b ∷ c ∷ d ∷ []) ≡ paged_number e
unfolding paged_number
paged-words e ha hb hc hd =
    let p : List ℕ =
    3 ∷ e.page / 8 ∷ e.page % 8 ∷ e.length ∷ e.zeros / 1024 ∷ e.zeros % 1024 ∷ e.user / 1024 ∷ e.user % 1024
    ∷ end_fields e in
    let fields : groups paged_by_field p ≡ paged_fields e = simp (mul-one, add-zero, div-add-mod') in
    rw (ha, hb, hc, hd) (regroup_pack paged_by_word paged_by_field p refl refl ∙ ap (pack paged_widths) fields)

unfoldable pub paged_read : Words → Entry → Entry
paged_read w m = record {
  kind = m.kind;
  base = m.base;
  length = w.b / 2 ^ 29 % 2 ^ 32;
  count = m.count;
  holder = m.holder;
  user = w.c % 2 ^ 54 * 1024 + w.d / 2 ^ 54;
  parent = m.parent;
  page = w.a % 2 ^ 61 * 8 + w.b / 2 ^ 61;
  zeros = w.b % 2 ^ 29 * 1024 + w.c / 2 ^ 54;
  permissions = m.permissions;
  locked = m.locked;
  lockable = m.lockable;
  cow = m.cow;
  tag = m.tag;
  nonce = m.nonce;
}

pub paged_read_lem : (w : Words) {m : Entry} → Fit word_widths (word_list w) → m ≡ end_from 3 (unpack end_widths w.d) → paged_read w m ≡ paged_of (words_number w)
unfolding paged_read paged_of words_number
paged_read_lem w h hm =
    let same : paged_read w (end_from 3 (unpack end_widths w.d)) ≡ paged_from (groups paged_by_field (cut paged_by_word (word_list w))) =
    simp (mul-one, add-zero, div-one, shr_mod 3 61 h.1.0, shr_mod 10 54 h.1.1.0, shr_mod 10 54 h.1.1.1.0) in
    rw hm (same ∙ ap paged_from (sym (regroup_unpack paged_by_word paged_by_field (word_list w) refl h)))

-- what all entries end with stands in the last word, and the type in the first
end_read : (w : Words) → Fit word_widths (word_list w) → unpack end_widths (words_number w) ≡ unpack end_widths w.d
unfolding words_number
end_read w h =
    ap (drop 6) (regroup_unpack direct_by_word direct_by_field (word_list w) refl h) ∙ simp (mul-one, add-zero)

type-read : (w : Words) → Fit word_widths (word_list w) → type_of (words_number w) ≡ w.a / 2 ^ 61
unfolding words_number
type-read w h =
    ap (λ l. get_or l 0 0) (regroup_unpack direct_by_word direct_by_field (word_list w) refl h) ∙ simp (mul-one, add-zero, shr_mod 3 61 h.0)

-- the number of an entry, and the entry of a number, where the type is k
pub number_as : (e : Entry) {k : ℕ} → e.kind ≡ k → entry_number e ≡ pack_as k e
unfolding entry_number
number_as e q = ap (λ (x : ℕ). pack_as x e) q

entry_as : (n : ℕ) {k : ℕ} → type_of n ≡ k → entry_of n ≡ unpack_as k n
unfolding entry_of
entry_as n q = ap (λ (x : ℕ). unpack_as x n) q

pub entry_read : (w : Words) → Fit word_widths (word_list w) → {k : ℕ} → w.a / 2 ^ 61 ≡ k → entry_of (words_number w) ≡ unpack_as k (words_number w)
entry_read w h q = entry_as (words_number w) (type-read w h ∙ q)

-- a type with no layout of its own
unpack-other : (k n : ℕ) → (k ≡ 1 → ⊥) → (k ≡ 2 → ⊥) → (k ≡ 3 → ⊥) → unpack_as k n ≡ end_from k (unpack end_widths n)
unpack-other zero n a b c = refl
unpack-other (suc zero) n a b c = absurd (a refl)
unpack-other (suc (suc zero)) n a b c = absurd (b refl)
unpack-other (suc (suc (suc zero))) n a b c = absurd (c refl)
unpack-other (suc (suc (suc (suc k)))) n a b c = refl

-- one that is neither direct nor indirect has no base and no count
no_base : (k n : ℕ) → (k ≡ 1 → ⊥) → (k ≡ 2 → ⊥) → (0 ≡ (unpack_as k n).base) × (0 ≡ (unpack_as k n).count)
unfolding paged_of
no_base zero n a b = (refl, refl)
no_base (suc zero) n a b = absurd (a refl)
no_base (suc (suc zero)) n a b = absurd (b refl)
no_base (suc (suc (suc zero))) n a b = (refl, refl)
no_base (suc (suc (suc (suc k)))) n a b = (refl, refl)

-- what all types have, read of the words: the type, and what entries end with
abbrev pub shared : Entry → Entry
shared e = record { kind = e.kind; base = 0; length = 0; count = 0; holder = 0; user = 0; parent = 0; page = 0; zeros = 0; permissions = e.permissions; locked = e.locked; lockable = e.lockable; cow = e.cow; tag = e.tag; nonce = e.nonce }

pub shared_as : (k n : ℕ) → shared (unpack_as k n) ≡ end_from k (unpack end_widths n)
unfolding direct_of indirect_of paged_of
shared_as zero n = refl
shared_as (suc zero) n = refl
shared_as (suc (suc zero)) n = refl
shared_as (suc (suc (suc zero))) n = refl
shared_as (suc (suc (suc (suc k)))) n = refl

pub shared-read : (w : Words) → Fit word_widths (word_list w) → end_from (w.a / 2 ^ 61) (unpack end_widths w.d) ≡ shared (entry_of (words_number w))
shared-read w h =
    let k : ℕ = w.a / 2 ^ 61 in
    sym (ap shared (entry_read w h refl) ∙ shared_as k (words_number w) ∙ ap (end_from k) (end_read w h))

-- all fields, read of the words, by the type
pub direct_at : (w : Words) → Fit word_widths (word_list w) → w.a / 2 ^ 61 ≡ 1 → direct_read w (end_from 1 (unpack end_widths w.d)) ≡ entry_of (words_number w)
direct_at w h k = direct_read_lem w h refl ∙ sym (entry_read w h k)

pub indirect_at : (w : Words) → Fit word_widths (word_list w) → w.a / 2 ^ 61 ≡ 2 → indirect_read w (end_from 2 (unpack end_widths w.d)) ≡ entry_of (words_number w)
indirect_at w h k = indirect_read_lem w h refl ∙ sym (entry_read w h k)

pub paged_at : (w : Words) → Fit word_widths (word_list w) → w.a / 2 ^ 61 ≡ 3 → paged_read w (end_from 3 (unpack end_widths w.d)) ≡ entry_of (words_number w)
paged_at w h k = paged_read_lem w h refl ∙ sym (entry_read w h k)

pub other_at : (w : Words) → Fit word_widths (word_list w) → (w.a / 2 ^ 61 ≡ 1 → ⊥) → (w.a / 2 ^ 61 ≡ 2 → ⊥) → (w.a / 2 ^ 61 ≡ 3 → ⊥) → end_from (w.a / 2 ^ 61) (unpack end_widths w.d) ≡ entry_of (words_number w)
other_at w h a b c =
    let k : ℕ = w.a / 2 ^ 61 in
    ap (end_from k) (sym (end_read w h)) ∙ sym (entry_read w h refl ∙ unpack-other k (words_number w) a b c)

pub no_base_at : (w : Words) → Fit word_widths (word_list w) → (w.a / 2 ^ 61 ≡ 1 → ⊥) → (w.a / 2 ^ 61 ≡ 2 → ⊥) → (0 ≡ (entry_of (words_number w)).base) × (0 ≡ (entry_of (words_number w)).count)
no_base_at w h a b = rw (entry_read w h refl) (no_base (w.a / 2 ^ 61) (words_number w) a b)

pack-other : (k : ℕ) (e : Entry) → (k ≡ 1 → ⊥) → (k ≡ 2 → ⊥) → (k ≡ 3 → ⊥) → pack_as k e ≡ free_number e
pack-other zero e a b c = refl
pack-other (suc zero) e a b c = absurd (a refl)
pack-other (suc (suc zero)) e a b c = absurd (b refl)
pack-other (suc (suc (suc zero))) e a b c = absurd (c refl)
pack-other (suc (suc (suc (suc k)))) e a b c = refl

-- a type with no layout is written as a free entry with its tag, whatever its other fields
pub as_free : (e : Entry) → (e.kind ≡ 1 → ⊥) → (e.kind ≡ 2 → ⊥) → (e.kind ≡ 3 → ⊥) → entry_number (freed e.tag) ≡ entry_number e
unfolding entry_number free_number
as_free e a b c = sym (pack-other e.kind e a b c)

-- ---- what was packed is read again

bit_lt : (b : Bool) → bit b < 2
bit_lt true = omega arith
bit_lt false = omega arith

bit-eqb : (b : Bool) → eqb (bit b) 1 ≡ b
bit-eqb true = refl
bit-eqb false = refl

-- a number packed of the fields fs of type k is read as the entry that these fields make
read_as : (ws fs : List ℕ) (from : List ℕ → Entry) (e : Entry) → Fit ws fs → from fs ≡ e → from (unpack ws (pack ws fs)) ≡ e
read_as ws fs from e f h = ap from (unpack-pack ws fs f) ∙ h

free-fit : (g : ℕ) → g < 2 ^ 16 → Fit end_widths (free_fields g)
free-fit g h = (lit< tt, (lit< tt, (lit< tt, (lit< tt, (h, (lit< tt, tt))))))

-- as an entry's number: all fields before its end are zero
abbrev free_wide : ℕ → List ℕ
free_wide g = 0 ∷ 0 ∷ 0 ∷ 0 ∷ 0 ∷ 0 ∷ free_fields g

free_wide_lem : (g : ℕ) → pack direct_widths (free_wide g) ≡ pack end_widths (free_fields g)
free_wide_lem g = simp (zero-mul, zero-add)

free_wide-fit : (g : ℕ) → g < 2 ^ 16 → Fit direct_widths (free_wide g)
free_wide-fit g h = (lit< tt, (lit< tt, (lit< tt, (lit< tt, (lit< tt, (lit< tt, free-fit g h))))))

free-type : (g : ℕ) → g < 2 ^ 16 → type_of (pack end_widths (free_fields g)) ≡ 0
free-type g h = ap type_of (sym (free_wide_lem g)) ∙ ap (λ l. get_or l 0 0) (unpack-pack direct_widths (free_wide g) (free_wide-fit g h))

free-round : (g : ℕ) → g < 2 ^ 16 → entry_of (entry_number (freed g)) ≡ freed g
unfolding entry_number free_number
free-round g h = entry_as _ (free-type g h) ∙ ap (end_from 0) (unpack-pack end_widths (free_fields g) (free-fit g h))

-- its words: the tag stands above the 32 bits of the nonce
pub free_words : (g : ℕ) → g < 2 ^ 16 → words_number (record { a = 0; b = 0; c = 0; d = g * 2 ^ 32 % 2 ^ 64 }) ≡ entry_number (freed g)
unfolding entry_number free_number words_number
free_words g h = rw (mod-eq_of_lt (shifted g h)) (simp (zero-mul, zero-add, mul-one, add-zero))
  where
    shifted : (g : ℕ) → g < 2 ^ 16 → g * 2 ^ 32 < 2 ^ 64
    shifted g h = omega arith

pub round : (e : Entry) → Storable e → entry_of (entry_number e) ≡ e
unfolding entry_of entry_number free_number direct_number indirect_number paged_number direct_of indirect_of paged_of
round e (is_free {g} h i) = rw i (free-round g h)
round e (is_direct k p n z f) =
    let m : ℕ = pack direct_widths (direct_fields e) in
    let type : type_of m ≡ 1 = ap (λ l. get_or l 0 0) (unpack-pack direct_widths (direct_fields e) f) in
    let same : direct_from (direct_fields e) ≡ e = λ i. record { kind = sym k i; base = e.base; length = e.length; count = e.count; holder = e.holder; user = e.user; parent = sym p i; page = sym n i; zeros = sym z i; permissions = e.permissions; locked = bit-eqb e.locked i; lockable = bit-eqb e.lockable i; cow = bit-eqb e.cow i; tag = e.tag; nonce = e.nonce } in
    ap entry_of (number_as e k) ∙ entry_as m type ∙ read_as direct_widths (direct_fields e) direct_from e f same
round e (is_indirect k h u n f) =
    let m : ℕ = pack indirect_widths (indirect_fields e) in
    let type : type_of m ≡ 2 = ap (λ l. get_or l 0 0) (unpack-pack indirect_widths (indirect_fields e) f) in
    let same : indirect_from (indirect_fields e) ≡ e = λ i. record { kind = sym k i; base = e.base; length = e.length; count = e.count; holder = sym h i; user = sym u i; parent = e.parent; page = sym n i; zeros = e.zeros; permissions = e.permissions; locked = bit-eqb e.locked i; lockable = bit-eqb e.lockable i; cow = bit-eqb e.cow i; tag = e.tag; nonce = e.nonce } in
    ap entry_of (number_as e k) ∙ entry_as m type ∙ read_as indirect_widths (indirect_fields e) indirect_from e f same
round e (is_paged k b c h p f) =
    let m : ℕ = pack paged_widths (paged_fields e) in
    let type : type_of m ≡ 3 = ap (λ l. get_or l 0 0) (unpack-pack paged_widths (paged_fields e) f) in
    let same : paged_from (paged_fields e) ≡ e = λ i. record { kind = sym k i; base = sym b i; length = e.length; count = sym c i; holder = sym h i; user = e.user; parent = sym p i; page = e.page; zeros = e.zeros; permissions = e.permissions; locked = bit-eqb e.locked i; lockable = bit-eqb e.lockable i; cow = bit-eqb e.cow i; tag = e.tag; nonce = e.nonce } in
    ap entry_of (number_as e k) ∙ entry_as m type ∙ read_as paged_widths (paged_fields e) paged_from e f same

-- the words of an entry as it is issued are read as that entry
pub direct-issued : (b l u p : ℕ) (k : Bool) → b < 2 ^ 32 → l < 2 ^ 32 → u < 2 ^ 64 → p < 8 → {n : ℕ} → n ≡ direct_number (direct b l u p k 0 0) → entry_of n ≡ direct b l u p k 0 0
direct-issued b l u p k hb hl hu hp q =
    let e : Entry = direct b l u p k 0 0 in
    let fit : Fit direct_widths (direct_fields e) = (lit< tt, (hb, (hl, (lit< tt, (lit< tt, (hu, (hp, (lit< tt, (bit_lt k, (lit< tt, (lit< tt, (lit< tt, tt)))))))))))) in
    ap entry_of (q ∙ sym (number_as e refl)) ∙ round e (is_direct refl refl refl refl fit)

pub indirect-issued : (b l t p : ℕ) → b < 2 ^ 32 → l < 2 ^ 32 → t < 2 ^ 64 → p < 8 → {n : ℕ} → n ≡ indirect_number (indirect b l t p 0 0) → entry_of n ≡ indirect b l t p 0 0
indirect-issued b l t p hb hl ht hp q =
    let e : Entry = indirect b l t p 0 0 in
    let fit : Fit indirect_widths (indirect_fields e) = (lit< tt, (hb, (ht, (hl, (lit< tt, (lit< tt, (hp, (lit< tt, (lit< tt, (lit< tt, (lit< tt, (lit< tt, tt)))))))))))) in
    ap entry_of (q ∙ sym (number_as e refl)) ∙ round e (is_indirect refl refl refl refl fit)

pub paged-issued : (m l u p : ℕ) (k : Bool) → m < 2 ^ 64 → l < 2 ^ 32 → u < 2 ^ 64 → p < 8 → {n : ℕ} → n ≡ paged_number (paged m l u p k 0 0) → entry_of n ≡ paged m l u p k 0 0
paged-issued m l u p k hm hl hu hp q =
    let e : Entry = paged m l u p k 0 0 in
    let fit : Fit paged_widths (paged_fields e) = (lit< tt, (hm, (hl, (lit< tt, (hu, (hp, (lit< tt, (bit_lt k, (lit< tt, (lit< tt, (lit< tt, tt))))))))))) in
    ap entry_of (q ∙ sym (number_as e refl)) ∙ round e (is_paged refl refl refl refl refl fit)

pub number_lt : (e : Entry) → Storable e → entry_number e < 2 ^ 256
unfolding entry_number free_number direct_number indirect_number paged_number
number_lt e (is_free {g} h i) = rw i (subst (λ n. n < 2 ^ 256) (free_wide_lem g) (pack_lt direct_widths (free_wide g) (free_wide-fit g h)))
number_lt e (is_direct k p n z f) = subst (λ n. n < 2 ^ 256) (sym (number_as e k)) (pack_lt direct_widths (direct_fields e) f)
number_lt e (is_indirect k h u n f) = subst (λ n. n < 2 ^ 256) (sym (number_as e k)) (pack_lt indirect_widths (indirect_fields e) f)
number_lt e (is_paged k b c h p f) = subst (λ n. n < 2 ^ 256) (sym (number_as e k)) (pack_lt paged_widths (paged_fields e) f)

-- ---- what is read packs to the same number

eqb-bit : (x : ℕ) → x < 2 → bit (eqb x 1) ≡ x
eqb-bit zero h = refl
eqb-bit (suc zero) h = refl
eqb-bit (suc (suc x)) h = absurd (omega arith)

end_back : (k n : ℕ) → end_fields (end_from k (unpack end_widths n)) ≡ unpack end_widths n
end_back k n =
    let h = unpack-fit end_widths n in
    rw (eqb-bit _ h.1.0, eqb-bit _ h.1.1.0, eqb-bit _ h.1.1.1.0)

direct_fields_lem : (n : ℕ) → type_of n ≡ 1 → direct_fields (direct_of n) ≡ unpack direct_widths n
unfolding direct_of
direct_fields_lem n t = rw t (ap (λ l. 1 ∷ (direct_of n).base ∷ (direct_of n).length ∷ (direct_of n).count ∷ (direct_of n).holder ∷ (direct_of n).user ∷ l) (end_back 1 n))

indirect_fields_lem : (n : ℕ) → type_of n ≡ 2 → indirect_fields (indirect_of n) ≡ unpack indirect_widths n
unfolding indirect_of
indirect_fields_lem n t = rw t (ap (λ l. 2 ∷ (indirect_of n).base ∷ (indirect_of n).parent ∷ (indirect_of n).length ∷ (indirect_of n).count ∷ (indirect_of n).zeros ∷ l) (end_back 2 n))

paged_fields_lem : (n : ℕ) → type_of n ≡ 3 → paged_fields (paged_of n) ≡ unpack paged_widths n
unfolding paged_of
paged_fields_lem n t = rw t (ap (λ l. 3 ∷ (paged_of n).page ∷ (paged_of n).length ∷ (paged_of n).zeros ∷ (paged_of n).user ∷ l) (end_back 3 n))

-- fields that were read of a number pack to it
pack_as_lem : (ws fs : List ℕ) (n : ℕ) → n < 2 ^ bits ws → fs ≡ unpack ws n → pack ws fs ≡ n
pack_as_lem ws fs n l h = ap (pack ws) h ∙ pack-unpack ws n ∙ mod-eq_of_lt l

pub back : (n : ℕ) → n < 2 ^ 256 → Laid (type_of n) → entry_number (entry_of n) ≡ n
unfolding direct_number indirect_number paged_number direct_of indirect_of paged_of
back n l (laid_direct t) = ap entry_number (entry_as n t) ∙ number_as (direct_of n) refl ∙ pack_as_lem direct_widths (direct_fields (direct_of n)) n l (direct_fields_lem n t)
back n l (laid_indirect t) = ap entry_number (entry_as n t) ∙ number_as (indirect_of n) refl ∙ pack_as_lem indirect_widths (indirect_fields (indirect_of n)) n l (indirect_fields_lem n t)
back n l (laid_paged t) = ap entry_number (entry_as n t) ∙ number_as (paged_of n) refl ∙ pack_as_lem paged_widths (paged_fields (paged_of n)) n l (paged_fields_lem n t)

-- tag and nonce of what is read fit
pub read_small : (n : ℕ) → ((entry_of n).tag < 2 ^ 16) × ((entry_of n).nonce < 2 ^ 32)
unfolding entry_of
read_small n =
    let h = unpack-fit end_widths n in
    subst (λ (e : Entry). (e.tag < 2 ^ 16) × (e.nonce < 2 ^ 32)) (sym (shared_as (type_of n) n)) (h.1.1.1.1.0, h.1.1.1.1.1.0)

-- the words of an entry with a layout are those of what is read of them
words_back : (w : Words) {e : Entry} → Fit word_widths (word_list w) → Laid (w.a / 2 ^ 61) → e ≡ entry_of (words_number w) → words_number w ≡ entry_number e
unfolding words_number
words_back w h k q = sym (ap entry_number q ∙ back (words_number w) (pack_lt word_widths (word_list w) h) (subst Laid (sym (type-read w h)) k))

-- the same, by the type that is read
pub laid-words : (w : Words) {e : Entry} → Fit word_widths (word_list w) → Laid e.kind → entry_of (words_number w) ≡ e → words_number w ≡ entry_number e
laid-words w h k q =
    let read : Laid (w.a / 2 ^ 61) = subst Laid (sym (ap (λ (e : Entry). e.kind) (shared-read w h ∙ ap shared q))) k in
    words_back w h read (sym q)

-- the words with another count
record Counted (x y k : ℕ) : Type 0 where
  above : x / 2 ^ 61 ≡ y / 2 ^ 61
  count : x / 2 ^ 45 % 2 ^ 16 ≡ k
  below : x % 2 ^ 45 ≡ y % 2 ^ 45

counted : (x y k : ℕ) → x < 2 ^ 64 → y < 2 ^ 64 → k < 2 ^ 16 → x ≡ pack (3 ∷ 16 ∷ 45 ∷ []) (y / 2 ^ 61 ∷ k ∷ y % 2 ^ 45 ∷ []) → Counted x y k
counted x y k hx hy hk q =
    let ws : List ℕ = 3 ∷ 16 ∷ 45 ∷ [] in
    let vs : List ℕ = y / 2 ^ 61 ∷ k ∷ y % 2 ^ 45 ∷ [] in
    let fields : unpack ws x ≡ vs = ap (unpack ws) q ∙ unpack-pack ws vs (shr_lt 3 61 hy, (hk, (mod-lt y (pow_pos 45), tt))) in
    record {
      above = sym (shr_mod 3 61 hx) ∙ ap (λ l. get_or l 0 0) fields;
      count = ap (λ l. get_or l 1 0) fields;
      below = ap (λ (z : ℕ). z % 2 ^ 45) (sym (div-one x)) ∙ ap (λ l. get_or l 2 0) fields;
    }

module _ (w : Words) (k x : ℕ) (f : Fit word_widths (word_list w)) (hx : x < 2 ^ 64) (hk : k < 2 ^ 16) where
  pub recount-direct : w.a / 2 ^ 61 ≡ 1 → x ≡ pack (3 ∷ 16 ∷ 45 ∷ []) (w.b / 2 ^ 61 ∷ k ∷ w.b % 2 ^ 45 ∷ [])
      → words_number (record { a = w.a; b = x; c = w.c; d = w.d }) ≡ entry_number (recounted (entry_of (words_number w)) k)
  unfolding direct_read
  recount-direct t q =
      let v : Words = record { a = w.a; b = x; c = w.c; d = w.d } in
      let g : Fit word_widths (word_list v) = (f.0, (hx, f.1.1)) in
      let z = counted x w.b k hx f.1.0 hk q in
      let m : Entry = end_from 1 (unpack end_widths w.d) in
      let same : recounted (direct_read w m) k ≡ direct_read v m = rw (z.above, z.count, z.below) in
      words_back v g (laid_direct t) (ap (λ (e : Entry). recounted e k) (sym (direct_at w f t)) ∙ same ∙ direct_at v g t)

  pub recount-indirect : w.a / 2 ^ 61 ≡ 2 → x ≡ pack (3 ∷ 16 ∷ 45 ∷ []) (w.c / 2 ^ 61 ∷ k ∷ w.c % 2 ^ 45 ∷ [])
      → words_number (record { a = w.a; b = w.b; c = x; d = w.d }) ≡ entry_number (recounted (entry_of (words_number w)) k)
  unfolding indirect_read
  recount-indirect t q =
      let v : Words = record { a = w.a; b = w.b; c = x; d = w.d } in
      let g : Fit word_widths (word_list v) = (f.0, (f.1.0, (hx, f.1.1.1))) in
      let z = counted x w.c k hx f.1.1.0 hk q in
      let m : Entry = end_from 2 (unpack end_widths w.d) in
      let same : recounted (indirect_read w m) k ≡ indirect_read v m = rw (z.above, z.count, z.below) in
      words_back v g (laid_indirect t) (ap (λ (e : Entry). recounted e k) (sym (indirect_at w f t)) ∙ same ∙ indirect_at v g t)

-- an entry that is paged out has no count
pub recount-paged : (w : Words) (k : ℕ) → Fit word_widths (word_list w) → w.a / 2 ^ 61 ≡ 3 → words_number w ≡ entry_number (recounted (entry_of (words_number w)) k)
unfolding paged_number
recount-paged w k f t =
    let e : Entry = entry_of (words_number w) in
    let paged : e.kind ≡ 3 = sym (ap (λ (x : Entry). x.kind) (shared-read w f)) ∙ t in
    words_back w f (laid_paged t) refl ∙ number_as e paged ∙ sym (number_as (recounted e k) paged)

-- the same for words of which another entry of the same type is made, where x is what a free entry with its tag is written as
pub other-words : (w : Words) (e : Entry) {g x : ℕ} → Fit word_widths (word_list w) → (w.a / 2 ^ 61 ≡ 1 → ⊥) → (w.a / 2 ^ 61 ≡ 2 → ⊥) → (w.a / 2 ^ 61 ≡ 3 → ⊥) → e.kind ≡ (entry_of (words_number w)).kind → g ≡ e.tag → x ≡ entry_number (freed g) → x ≡ entry_number e
other-words w e f a b c k t q =
    let kind : e.kind ≡ w.a / 2 ^ 61 = k ∙ sym (ap (λ (y : Entry). y.kind) (shared-read w f)) in
    q ∙ ap (λ (g : ℕ). entry_number (freed g)) t ∙ as_free e (λ h. a (sym kind ∙ h)) (λ h. b (sym kind ∙ h)) (λ h. c (sym kind ∙ h))

-- the last word around one bit, and all its fields
last_sum : (u p b k c g n : ℕ) → pack (13 ∷ 1 ∷ 50 ∷ []) ((u * 8 + p) ∷ b ∷ (k * 2 ^ 49 + (c * 2 ^ 48 + (g * 2 ^ 32 + n))) ∷ []) ≡ pack (10 ∷ end_widths) (u ∷ p ∷ b ∷ k ∷ c ∷ g ∷ n ∷ [])
last_sum u p b k c g n = omega arith

last_fields : (d b : ℕ) → pack (13 ∷ 1 ∷ 50 ∷ []) (d / 2 ^ 51 ∷ b ∷ d % 2 ^ 50 ∷ []) ≡ pack (10 ∷ end_widths) (d / 2 ^ 54 ∷ d / 2 ^ 51 % 8 ∷ b ∷ d / 2 ^ 49 % 2 ∷ d / 2 ^ 48 % 2 ∷ d / 2 ^ 32 % 2 ^ 16 ∷ d % 2 ^ 32 ∷ [])
last_fields d b =
    let high : d / 2 ^ 51 ≡ d / 2 ^ 54 * 8 + d / 2 ^ 51 % 8 = omega arith in
    let lockable : d % 2 ^ 50 ≡ d / 2 ^ 49 % 2 * 2 ^ 49 + d % 2 ^ 49 = mod-pow-add d 1 49 in
    let cow : d % 2 ^ 49 ≡ d / 2 ^ 48 % 2 * 2 ^ 48 + d % 2 ^ 48 = mod-pow-add d 1 48 in
    let tag : d % 2 ^ 48 ≡ d / 2 ^ 32 % 2 ^ 16 * 2 ^ 32 + d % 2 ^ 32 = mod-pow-add d 16 32 in
    let low = lockable ∙ ap (λ (x : ℕ). d / 2 ^ 49 % 2 * 2 ^ 49 + x) (cow ∙ ap (λ (x : ℕ). d / 2 ^ 48 % 2 * 2 ^ 48 + x) tag) in
    ap (λ (x : ℕ). pack (13 ∷ 1 ∷ 50 ∷ []) (x ∷ b ∷ d % 2 ^ 50 ∷ [])) high
    ∙ ap (λ (x : ℕ). pack (13 ∷ 1 ∷ 50 ∷ []) ((d / 2 ^ 54 * 8 + d / 2 ^ 51 % 8) ∷ b ∷ x ∷ [])) low
    ∙ last_sum (d / 2 ^ 54) (d / 2 ^ 51 % 8) b (d / 2 ^ 49 % 2) (d / 2 ^ 48 % 2) (d / 2 ^ 32 % 2 ^ 16) (d % 2 ^ 32)

-- above the low 45 bits stand a count of 16 and three more
count_kept : (b i x : ℕ) → x ≡ pack (19 ∷ 45 ∷ []) (b / 2 ^ 45 ∷ i ∷ []) → x ≡ pack (3 ∷ 16 ∷ 45 ∷ []) (b / 2 ^ 61 ∷ b / 2 ^ 45 % 2 ^ 16 ∷ i ∷ [])
count_kept b i x q = omega arith

-- the words with another lock
module _ (w : Words) (l : Bool) (h z : ℕ) (f : Fit word_widths (word_list w)) (hz : z < 2 ^ 64)
    (qz : z ≡ pack (13 ∷ 1 ∷ 50 ∷ []) (w.d / 2 ^ 51 ∷ bit l ∷ w.d % 2 ^ 50 ∷ [])) where
  lasts : unpack (10 ∷ end_widths) z ≡ w.d / 2 ^ 54 ∷ w.d / 2 ^ 51 % 8 ∷ bit l ∷ w.d / 2 ^ 49 % 2 ∷ w.d / 2 ^ 48 % 2 ∷ w.d / 2 ^ 32 % 2 ^ 16 ∷ w.d % 2 ^ 32 ∷ []
  lasts =
      let d : ℕ = w.d in
      ap (unpack (10 ∷ end_widths)) (qz ∙ last_fields d (bit l))
      ∙ unpack-pack (10 ∷ end_widths) _ (shr_lt 10 54 f.1.1.1.0, (mod-lt (d / 2 ^ 51) (pow_pos 3), (bit_lt l, (mod-lt (d / 2 ^ 49) (pow_pos 1), (mod-lt (d / 2 ^ 48) (pow_pos 1), (mod-lt (d / 2 ^ 32) (pow_pos 16), (mod-lt d (pow_pos 32), tt)))))))

  above : z / 2 ^ 54 ≡ w.d / 2 ^ 54
  above = sym (shr_mod 10 54 hz) ∙ ap (λ n. get_or n 0 0) lasts

  -- what all entries end with, with the new Locked
  abbrev ending : ℕ → Entry
  ending k = record { kind = k; base = 0; length = 0; count = 0; holder = 0; user = 0; parent = 0; page = 0; zeros = 0; permissions = w.d / 2 ^ 51 % 8; locked = l; lockable = eqb (w.d / 2 ^ 49 % 2) 1; cow = eqb (w.d / 2 ^ 48 % 2) 1; tag = w.d / 2 ^ 32 % 2 ^ 16; nonce = w.d / 2 ^ 0 % 2 ^ 32 }

  ended : (k : ℕ) → end_from k (unpack end_widths z) ≡ ending k
  ended k = ap (end_from k) (ap (drop 1) lasts) ∙ rw (bit-eqb l, div-one w.d)

  -- of words that are read as those of a type k
  relock_as : (k x y : ℕ) (read : Words → Entry → Entry) → Laid k → x < 2 ^ 64 → y < 2 ^ 64
      → ((v : Words) → Fit word_widths (word_list v) → v.a / 2 ^ 61 ≡ k → read v (end_from k (unpack end_widths v.d)) ≡ entry_of (words_number v))
      → entry_number (read (record { a = w.a; b = x; c = y; d = z }) (ending k)) ≡ entry_number (relocked (read w (end_from k (unpack end_widths w.d))) l h)
      → w.a / 2 ^ 61 ≡ k
      → words_number (record { a = w.a; b = x; c = y; d = z }) ≡ entry_number (relocked (entry_of (words_number w)) l h)
  relock_as k x y read laid hx hy at same t =
      let v : Words = record { a = w.a; b = x; c = y; d = z } in
      let g : Fit word_widths (word_list v) = (f.0, (hx, (hy, (hz, tt)))) in
      words_back v g (subst Laid (sym t) laid) (at v g t)
      ∙ ap (λ (o : Entry). entry_number (read v o)) (ended k)
      ∙ same
      ∙ ap (λ (o : Entry). entry_number (relocked o l h)) (at w f t)

  pub relock_direct : (x y : ℕ) → x < 2 ^ 64 → y < 2 ^ 64 → h < 2 ^ 55 → w.a / 2 ^ 61 ≡ 1
      → x ≡ pack (19 ∷ 45 ∷ []) (w.b / 2 ^ 45 ∷ h / 1024 ∷ [])
      → y ≡ pack (10 ∷ 54 ∷ []) (h % 1024 ∷ w.c % 2 ^ 54 ∷ [])
      → words_number (record { a = w.a; b = x; c = y; d = z }) ≡ entry_number (relocked (entry_of (words_number w)) l h)
  unfolding direct_read
  relock_direct x y hx hy hh t qx qy =
      let v : Words = record { a = w.a; b = x; c = y; d = z } in
      let m : Entry = end_from 1 (unpack end_widths w.d) in
      let bs : unpack (3 ∷ 16 ∷ 45 ∷ []) x ≡ w.b / 2 ^ 61 ∷ w.b / 2 ^ 45 % 2 ^ 16 ∷ h / 1024 ∷ [] = ap (unpack (3 ∷ 16 ∷ 45 ∷ [])) (count_kept w.b (h / 1024) x qx) ∙ unpack-pack (3 ∷ 16 ∷ 45 ∷ []) _ (shr_lt 3 61 f.1.0, (mod-lt (w.b / 2 ^ 45) (pow_pos 16), (shr_lt 45 10 hh, tt))) in
      let cs : unpack (10 ∷ 54 ∷ []) y ≡ h % 1024 ∷ w.c % 2 ^ 54 ∷ [] = ap (unpack (10 ∷ 54 ∷ [])) qy ∙ unpack-pack (10 ∷ 54 ∷ []) _ (mod-lt h (pow_pos 10), (mod-lt w.c (pow_pos 54), tt)) in
      let b1 : x / 2 ^ 61 ≡ w.b / 2 ^ 61 = sym (shr_mod 3 61 hx) ∙ ap (λ n. get_or n 0 0) bs in
      let b2 : x / 2 ^ 45 % 2 ^ 16 ≡ w.b / 2 ^ 45 % 2 ^ 16 = ap (λ n. get_or n 1 0) bs in
      let b3 : x % 2 ^ 45 ≡ h / 1024 = ap (λ (n : ℕ). n % 2 ^ 45) (sym (div-one x)) ∙ ap (λ n. get_or n 2 0) bs in
      let c1 : y / 2 ^ 54 ≡ h % 1024 = sym (shr_mod 10 54 hy) ∙ ap (λ n. get_or n 0 0) cs in
      let c2 : y % 2 ^ 54 ≡ w.c % 2 ^ 54 = ap (λ (n : ℕ). n % 2 ^ 54) (sym (div-one y)) ∙ ap (λ n. get_or n 1 0) cs in
      let whole : h / 1024 * 1024 + h % 1024 ≡ h = omega arith in
      let same : direct_read v (ending 1) ≡ relocked (direct_read w m) l h = rw (b1, b2, b3, c1, c2, above, whole) in
      relock_as 1 x y direct_read (laid_direct refl) hx hy direct_at (ap entry_number same) t

  -- a type that has no holder: only Locked changes
  abbrev Relocked : Type 0
  Relocked = words_number (record { a = w.a; b = w.b; c = w.c; d = z }) ≡ entry_number (relocked (entry_of (words_number w)) l h)

  pub relock_indirect : w.a / 2 ^ 61 ≡ 2 → Relocked
  unfolding indirect_read indirect_number
  relock_indirect t =
      let e : Entry = relocked (indirect_read w (end_from 2 (unpack end_widths w.d))) l h in
      let v : Words = record { a = w.a; b = w.b; c = w.c; d = z } in
      let same : indirect_fields (indirect_read v (ending 2)) ≡ indirect_fields e = rw above in
      relock_as 2 w.b w.c indirect_read (laid_indirect refl) f.1.0 f.1.1.0 indirect_at (number_as (indirect_read v (ending 2)) refl ∙ ap (pack indirect_widths) same ∙ sym (number_as e refl)) t

  pub relock_paged : w.a / 2 ^ 61 ≡ 3 → Relocked
  unfolding paged_read paged_number
  relock_paged t =
      let e : Entry = relocked (paged_read w (end_from 3 (unpack end_widths w.d))) l h in
      let v : Words = record { a = w.a; b = w.b; c = w.c; d = z } in
      let same : paged_fields (paged_read v (ending 3)) ≡ paged_fields e = rw above in
      relock_as 3 w.b w.c paged_read (laid_paged refl) f.1.0 f.1.1.0 paged_at (number_as (paged_read v (ending 3)) refl ∙ ap (pack paged_widths) same ∙ sym (number_as e refl)) t

  -- either of them
  pub relock_flag : 1 < w.a / 2 ^ 61 → w.a / 2 ^ 61 < 4 → Relocked
  relock_flag above below = go (dec_lt (w.a / 2 ^ 61) 3)
    where
      go : Dec (w.a / 2 ^ 61 < 3) → Relocked
      go (yes t) = relock_indirect (omega arith)
      go (no t) = relock_paged (omega arith)

-- and can be packed with nothing lost
pub read-storable : (n : ℕ) → Laid (type_of n) → Storable (entry_of n)
unfolding direct_of indirect_of paged_of
read-storable n (laid_direct t) =
    subst Storable (sym (entry_as n t)) (is_direct refl refl refl refl (subst (Fit direct_widths) (sym (direct_fields_lem n t)) (unpack-fit direct_widths n)))
read-storable n (laid_indirect t) =
    subst Storable (sym (entry_as n t)) (is_indirect refl refl refl refl (subst (Fit indirect_widths) (sym (indirect_fields_lem n t)) (unpack-fit indirect_widths n)))
read-storable n (laid_paged t) =
    subst Storable (sym (entry_as n t)) (is_paged refl refl refl refl refl (subst (Fit paged_widths) (sym (paged_fields_lem n t)) (unpack-fit paged_widths n)))

-- the test is the condition
pub packable_fits : (e : Entry) → packable e ≡ true → Fits e
packable_fits e h =
    let zeros = both _ _ h in
    let holder = both _ _ zeros.0 in
    let permissions = both (ltb e.kind 4) _ holder.0 in
    record { permissions = ltb-true _ _ permissions.1; holder = ltb-true _ _ holder.1; zeros = ltb-true _ _ zeros.1 }

-- the field of zeros has 55 bits at most, and 39 in an entry that is paged out
pub zeros_lt : (e : Entry) → Fits e → e.zeros < 2 ^ 55
zeros_lt e f = go (eqb e.kind 3) f.zeros
  where
    go : (paged : Bool) → e.zeros < 2 ^ cond paged 39 55 → e.zeros < 2 ^ 55
    go true h = lt_of_lt_of_le h (lit≤ tt)
    go false h = h

pub paged_zeros_lt : (e : Entry) → Fits e → e.kind ≡ 3 → e.zeros < 2 ^ 39
paged_zeros_lt e f k = rw k at f.zeros

-- entries as they are issued fit, and so does whatever is read
pub direct_fits : (b l u p : ℕ) (k : Bool) (g ν : ℕ) → p < 8 → Fits (direct b l u p k g ν)
direct_fits b l u p k g ν h = record { permissions = h; holder = omega arith; zeros = omega arith }

pub indirect_fits : (b l t p g ν : ℕ) → p < 8 → Fits (indirect b l t p g ν)
indirect_fits b l t p g ν h = record { permissions = h; holder = omega arith; zeros = omega arith }

pub free_fits : Fits free
free_fits = record { permissions = omega arith; holder = omega arith; zeros = omega arith }

pub read_fits : (n : ℕ) → Fits (entry_of n)
unfolding entry_of direct_of indirect_of paged_of
read_fits n = go (type_of n)
  where
    go : (k : ℕ) → Fits (unpack_as k n)
    go zero = record { permissions = (unpack-fit end_widths n).0; holder = omega arith; zeros = omega arith }
    go (suc zero) = record { permissions = (unpack-fit end_widths n).0; holder = (unpack-fit direct_widths n).1.1.1.1.0; zeros = omega arith }
    go (suc (suc zero)) = record { permissions = (unpack-fit end_widths n).0; holder = omega arith; zeros = (unpack-fit indirect_widths n).1.1.1.1.1.0 }
    go (suc (suc (suc zero))) = record { permissions = (unpack-fit end_widths n).0; holder = omega arith; zeros = (unpack-fit paged_widths n).1.1.1.0 }
    go (suc (suc (suc (suc k)))) = record { permissions = (unpack-fit end_widths n).0; holder = omega arith; zeros = pow_pos _ }
