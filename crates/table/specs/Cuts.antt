-- An entry's 32 bytes in the parts that a walk reads, and the walk's tests on them.
-- Assumes nothing.
use Rattle.std.specs.Prelude.{◌≡◌, ℕ, ◌+◌, ◌*◌, ◌/◌, ◌%◌, ◌^◌, ◌<◌, Bool, not, ◌&&◌, ◌==◌, nat_le, nat_lt}
use Rattle.layout.specs.declared.entry.Words.{Words}
use Rattle.table.specs.declared.cut.Cut.{Cut}

-- each part is as wide as its bytes
pub record Bounded (s : Cut) : Type 0 where
  pub a : s.a < 2 ^ 64
  pub hi : s.hi < 2 ^ 8
  pub up : s.up < 2 ^ 32
  pub len : s.len < 2 ^ 32
  pub x : s.x < 2 ^ 8
  pub y : s.y < 2 ^ 16
  pub z : s.z < 2 ^ 32
  pub d : s.d < 2 ^ 64

-- the 48 bits of y and z, which have the low byte first
abbrev pub swapped : ℕ → ℕ → ℕ
swapped y z = y % 256 * 2 ^ 40 + y / 256 * 2 ^ 32 + (z % 256 * 2 ^ 24 + z / 256 % 256 * 2 ^ 16 + z / 65536 % 256 * 2 ^ 8 + z / 16777216)

-- the four words that the parts make
abbrev pub cut_words : Cut → Words
cut_words s = record {
  a = s.a;
  b = s.hi * 2 ^ 56 + s.up * 2 ^ 24 + s.len / 256;
  c = s.len % 256 * 2 ^ 56 + s.x * 2 ^ 48 + swapped s.y s.z;
  d = s.d;
}

-- indirect, well-formed in a memory of m bytes, and with a parent in a table of so many bytes
abbrev pub passes : ℕ → ℕ → Cut → Bool
passes m room s =
    (s.a / 2 ^ 61 == 2)
    && s.a / 2 ^ 27 % 4 == 1
    && s.a % 2 ^ 11 == 0
    && s.hi == 0
    && s.up % 32 == 0
    && s.y % 32 == 0
    && s.y / 256 == 0
    && s.z == 0
    && s.d / 2 ^ 54 == 0
    && s.d / 2 ^ 48 % 8 == 0
    && not (s.len / 32 == 0)
    && nat_le (s.a / 2 ^ 29 % 2 ^ 32 + s.len / 32) m
    && nat_lt s.up room

-- p has the tag that s names, is older, and direct or indirect
pub record Above (p s : Cut) : Type 0 where
  pub full : p.a / 2 ^ 61 ≡ 0 → ⊥
  pub here : p.a / 2 ^ 61 ≡ 3 → ⊥
  pub tagged : p.d / 2 ^ 32 % 2 ^ 16 ≡ s.a / 2 ^ 11 % 2 ^ 16
  pub older : p.d % 2 ^ 32 < s.d % 2 ^ 32
