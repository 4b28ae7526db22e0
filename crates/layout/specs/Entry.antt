-- Entries (01, "Entries: Table 2"). 256 bits in 32 bytes; byte 0 holds the top bits.
-- An `Entry` has every field of every type. A field that the entry's type does not have is zero.
-- Assumes nothing.
use Rattle.std.specs.Prelude.{◌≡◌, Bool, true, false, cond, ◌&&◌, List, [], ◌∷◌, ℕ, zero, suc, ◌<◌, ◌^◌, eqb, ltb, get_or, length}
use Rattle.bits.specs.Bytes.{bytes, number}
use Rattle.bits.specs.Fields.{pack, unpack, Fit}
use Rattle.layout.specs.declared.entry.Entry.{Entry}
use Rattle.layout.specs.declared.entry.Words.{Words}

abbrev pub bit : Bool → ℕ
bit true = 1
bit false = 0

-- What entries of all types end with: R, W and X (one number: R 4, W 2, X 1, added), Locked, Lockable, copy-on-write (CoW), tag, nonce.
abbrev pub end_widths : List ℕ
end_widths = 3 ∷ 1 ∷ 1 ∷ 1 ∷ 16 ∷ 32 ∷ []

abbrev pub end_fields : Entry → List ℕ
end_fields e = e.permissions ∷ bit e.locked ∷ bit e.lockable ∷ bit e.cow ∷ e.tag ∷ e.nonce ∷ []

-- Direct: type 1 (3 bits), base 32, length 32, count 16, lock holder 55, user 64.
abbrev pub direct_widths : List ℕ
direct_widths = 3 ∷ 32 ∷ 32 ∷ 16 ∷ 55 ∷ 64 ∷ end_widths

abbrev pub direct_fields : Entry → List ℕ
direct_fields e = 1 ∷ e.base ∷ e.length ∷ e.count ∷ e.holder ∷ e.user ∷ end_fields e

abbrev pub direct_from : List ℕ → Entry
direct_from l = record {
  kind = 1;
  base = get_or l 1 0;
  length = get_or l 2 0;
  count = get_or l 3 0;
  holder = get_or l 4 0;
  user = get_or l 5 0;
  parent = 0;
  page = 0;
  zeros = 0;
  permissions = get_or l 6 0;
  locked = eqb (get_or l 7 0) 1;
  lockable = eqb (get_or l 8 0) 1;
  cow = eqb (get_or l 9 0) 1;
  tag = get_or l 10 0;
  nonce = get_or l 11 0;
}

-- Indirect: type 2, base, parent token 64, length, count, then zeros.
abbrev pub indirect_widths : List ℕ
indirect_widths = 3 ∷ 32 ∷ 64 ∷ 32 ∷ 16 ∷ 55 ∷ end_widths

abbrev pub indirect_fields : Entry → List ℕ
indirect_fields e = 2 ∷ e.base ∷ e.parent ∷ e.length ∷ e.count ∷ e.zeros ∷ end_fields e

abbrev pub indirect_from : List ℕ → Entry
indirect_from l = record {
  kind = 2;
  base = get_or l 1 0;
  length = get_or l 3 0;
  count = get_or l 4 0;
  holder = 0;
  user = 0;
  parent = get_or l 2 0;
  page = 0;
  zeros = get_or l 5 0;
  permissions = get_or l 6 0;
  locked = eqb (get_or l 7 0) 1;
  lockable = eqb (get_or l 8 0) 1;
  cow = eqb (get_or l 9 0) 1;
  tag = get_or l 10 0;
  nonce = get_or l 11 0;
}

-- Paged out (02, paper 6): "type 3 (type, page-file number 64 as requested, length 32, 39 zeros, user 64, the rest as direct, unlocked)".
abbrev pub paged_widths : List ℕ
paged_widths = 3 ∷ 64 ∷ 32 ∷ 39 ∷ 64 ∷ end_widths

abbrev pub paged_fields : Entry → List ℕ
paged_fields e = 3 ∷ e.page ∷ e.length ∷ e.zeros ∷ e.user ∷ end_fields e

abbrev pub paged_from : List ℕ → Entry
paged_from l = record {
  kind = 3;
  base = 0;
  length = get_or l 2 0;
  count = 0;
  holder = 0;
  user = get_or l 4 0;
  parent = 0;
  page = get_or l 1 0;
  zeros = get_or l 3 0;
  permissions = get_or l 5 0;
  locked = eqb (get_or l 6 0) 1;
  lockable = eqb (get_or l 7 0) 1;
  cow = eqb (get_or l 8 0) 1;
  tag = get_or l 9 0;
  nonce = get_or l 10 0;
}

-- Any other type k: what it ends with, and nothing more.
abbrev pub end_from : ℕ → List ℕ → Entry
end_from k l = record {
  kind = k;
  base = 0;
  length = 0;
  count = 0;
  holder = 0;
  user = 0;
  parent = 0;
  page = 0;
  zeros = 0;
  permissions = get_or l 0 0;
  locked = eqb (get_or l 1 0) 1;
  lockable = eqb (get_or l 2 0) 1;
  cow = eqb (get_or l 3 0) 1;
  tag = get_or l 4 0;
  nonce = get_or l 5 0;
}

-- Free: type 0. 02, paper 5: "A freed entry now keeps its tag, all else zero." Its last six fields, where the tag is g, and the entry.
abbrev pub free_fields : (tag : ℕ) → List ℕ
free_fields g = 0 ∷ 0 ∷ 0 ∷ 0 ∷ g ∷ 0 ∷ []

abbrev pub freed : (tag : ℕ) → Entry
freed g = end_from 0 (free_fields g)

-- all zeros: "an entry never used counts as having held tag 0"
abbrev pub free : Entry
free = freed 0

-- the type of a 256-bit number: its top field, which every type has at the same place
abbrev pub type_of : ℕ → ℕ
type_of n = get_or (unpack direct_widths n) 0 0

unfoldable pub direct_number : Entry → ℕ
direct_number e = pack direct_widths (direct_fields e)

unfoldable pub indirect_number : Entry → ℕ
indirect_number e = pack indirect_widths (indirect_fields e)

unfoldable pub paged_number : Entry → ℕ
paged_number e = pack paged_widths (paged_fields e)

unfoldable pub free_number : Entry → ℕ
free_number e = pack end_widths (free_fields e.tag)

unfoldable pub direct_of : ℕ → Entry
direct_of n = direct_from (unpack direct_widths n)

unfoldable pub indirect_of : ℕ → Entry
indirect_of n = indirect_from (unpack indirect_widths n)

unfoldable pub paged_of : ℕ → Entry
paged_of n = paged_from (unpack paged_widths n)

-- the number that an entry is packed to, by its type; one above 3 has no layout here, and is packed as a free entry
abbrev pub pack_as : ℕ → Entry → ℕ
pack_as zero e = free_number e
pack_as (suc zero) e = direct_number e
pack_as (suc (suc zero)) e = indirect_number e
pack_as (suc (suc (suc zero))) e = paged_number e
pack_as (suc (suc (suc (suc k)))) e = free_number e

unfoldable pub entry_number : Entry → ℕ
entry_number e = pack_as e.kind e

-- the entry that a 256-bit number holds, by its type
abbrev pub unpack_as : ℕ → ℕ → Entry
unpack_as zero n = end_from 0 (unpack end_widths n)
unpack_as (suc zero) n = direct_of n
unpack_as (suc (suc zero)) n = indirect_of n
unpack_as (suc (suc (suc zero))) n = paged_of n
unpack_as (suc (suc (suc (suc k)))) n = end_from (suc (suc (suc (suc k)))) (unpack end_widths n)

unfoldable pub entry_of : ℕ → Entry
entry_of n = unpack_as (type_of n) n

-- the 32 bytes of an entry, and the entry of 32 bytes
abbrev pub entry_bytes : Entry → List ℕ
entry_bytes e = bytes 32 (entry_number e)

abbrev pub entry_at : List ℕ → Entry
entry_at s = entry_of (number 32 s)

-- a direct entry as it is issued: count 0, unlocked
abbrev pub direct : (base length user permissions : ℕ) → Bool → (tag nonce : ℕ) → Entry
direct b l u p lockable g ν = record {
  kind = 1;
  base = b;
  length = l;
  count = 0;
  holder = 0;
  user = u;
  parent = 0;
  page = 0;
  zeros = 0;
  permissions = p;
  locked = false;
  lockable = lockable;
  cow = false;
  tag = g;
  nonce = ν;
}

-- an indirect entry as it is issued: count 1
abbrev pub indirect : (base length parent permissions tag nonce : ℕ) → Entry
indirect b l t p g ν = record {
  kind = 2;
  base = b;
  length = l;
  count = 1;
  holder = 0;
  user = 0;
  parent = t;
  page = 0;
  zeros = 0;
  permissions = p;
  locked = false;
  lockable = false;
  cow = false;
  tag = g;
  nonce = ν;
}

-- an entry that is paged out, as it is issued: unlocked
abbrev pub paged : (page length user permissions : ℕ) → Bool → (tag nonce : ℕ) → Entry
paged f l u p lockable g ν = record {
  kind = 3;
  base = 0;
  length = l;
  count = 0;
  holder = 0;
  user = u;
  parent = 0;
  page = f;
  zeros = 0;
  permissions = p;
  locked = false;
  lockable = lockable;
  cow = false;
  tag = g;
  nonce = ν;
}

-- the entry with another count
abbrev pub recounted : Entry → ℕ → Entry
recounted e k = record { kind = e.kind; base = e.base; length = e.length; count = k; holder = e.holder; user = e.user; parent = e.parent; page = e.page; zeros = e.zeros; permissions = e.permissions; locked = e.locked; lockable = e.lockable; cow = e.cow; tag = e.tag; nonce = e.nonce }

-- the entry with another lock
abbrev pub relocked : Entry → Bool → ℕ → Entry
relocked e l h = record { kind = e.kind; base = e.base; length = e.length; count = e.count; holder = h; user = e.user; parent = e.parent; page = e.page; zeros = e.zeros; permissions = e.permissions; locked = l; lockable = e.lockable; cow = e.cow; tag = e.tag; nonce = e.nonce }

-- the entry with another nonce
abbrev pub dated : Entry → ℕ → Entry
dated e ν = record { kind = e.kind; base = e.base; length = e.length; count = e.count; holder = e.holder; user = e.user; parent = e.parent; page = e.page; zeros = e.zeros; permissions = e.permissions; locked = e.locked; lockable = e.lockable; cow = e.cow; tag = e.tag; nonce = ν }

-- the entry can be packed with nothing lost: its fields fit, and those that its type does not have are zero
pub data Storable (e : Entry) : Type 0 where
  is_free : {g : ℕ} → g < 2 ^ 16 → e ≡ freed g → Storable e
  is_direct : e.kind ≡ 1 → e.parent ≡ 0 → e.page ≡ 0 → e.zeros ≡ 0 → Fit direct_widths (direct_fields e) → Storable e
  is_indirect : e.kind ≡ 2 → e.holder ≡ 0 → e.user ≡ 0 → e.page ≡ 0 → Fit indirect_widths (indirect_fields e) → Storable e
  is_paged : e.kind ≡ 3 → e.base ≡ 0 → e.count ≡ 0 → e.holder ≡ 0 → e.parent ≡ 0 → Fit paged_widths (paged_fields e) → Storable e

-- a type with a layout of its own: direct, indirect, or paged out
pub data Laid (kind : ℕ) : Type 0 where
  laid_direct : kind ≡ 1 → Laid kind
  laid_indirect : kind ≡ 2 → Laid kind
  laid_paged : kind ≡ 3 → Laid kind

-- ---- in code

-- how wide the field of zeros is, by the type
abbrev pub zeros_width : (kind : ℕ) → ℕ
zeros_width k = cond (eqb k 3) 39 55

-- each field whose number in code has more bits than the field fits it
pub record Fits (e : Entry) : Type 0 where
  pub permissions : e.permissions < 8
  pub holder : e.holder < 2 ^ 55
  pub zeros : e.zeros < 2 ^ zeros_width e.kind

-- an entry as four words, the high word first
abbrev pub word_widths : List ℕ
word_widths = 64 ∷ 64 ∷ 64 ∷ 64 ∷ []

abbrev pub word_list : Words → List ℕ
word_list w = w.a ∷ w.b ∷ w.c ∷ w.d ∷ []

unfoldable pub words_number : Words → ℕ
words_number w = pack word_widths (word_list w)

-- an entry of one of the four types, whose fields fit, can be written to a part of 32 bytes, and to no other
abbrev pub packable : Entry → Bool
packable e = ltb e.kind 4 && ltb e.permissions 8 && ltb e.holder (2 ^ 55) && ltb e.zeros (2 ^ zeros_width e.kind)

abbrev pub writable : List ℕ → Entry → Bool
writable s e = eqb (length s) 32 && packable e

unfoldable pub written : List ℕ → Entry → List ℕ
written s e = cond (writable s e) (entry_bytes e) s
