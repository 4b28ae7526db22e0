-- Tags (01, "Issuing"): "The tag is the low 16 bits of SipHash-2-4 over 40 bytes: the entry as issued with tag 0, then the number as 8 bytes,
-- low byte first."
-- Assumes nothing.
use Rattle.std.specs.Prelude.{◌≡◌, List, ◌++◌, ℕ, ◌%◌, ◌^◌}
use Rattle.bits.specs.Bytes.{low_bytes}
use Rattle.layout.specs.Entry.{entry_bytes, entry_number, words_number}
use Rattle.bits.specs.SipHash.{siphash}
use Rattle.layout.specs.declared.entry.Entry.{Entry}
use Rattle.layout.specs.declared.entry.Words.{Words}

-- the entry with another tag
abbrev pub retag : Entry → ℕ → Entry
retag e g = record {
  kind = e.kind;
  base = e.base;
  length = e.length;
  count = e.count;
  holder = e.holder;
  user = e.user;
  parent = e.parent;
  page = e.page;
  zeros = e.zeros;
  permissions = e.permissions;
  locked = e.locked;
  lockable = e.lockable;
  cow = e.cow;
  tag = g;
  nonce = e.nonce;
}

-- the 40 bytes for the entry e of a number
abbrev pub tag_message : Entry → ℕ → List ℕ
tag_message e number = entry_bytes (retag e 0) ++ low_bytes 8 number

unfoldable pub tag_of : ℕ → ℕ → Entry → ℕ → ℕ
tag_of k0 k1 e number = siphash k0 k1 (tag_message e number) % 2 ^ 16

-- ---- in code

-- g is the tag of the entry whose words, with tag 0, are w
abbrev pub TagFor : ℕ → ℕ → Words → ℕ → ℕ → Type 0
TagFor k0 k1 w number g = (e : Entry) → words_number w ≡ entry_number (retag e 0) → g ≡ tag_of k0 k1 e number
