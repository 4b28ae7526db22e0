-- What the functions of a record ask of its characters, and what the sums of its digits are.
-- Assumes nothing.
use Rattle.std.specs.Prelude.{◌≡◌, List, ℕ, ◌+◌, ◌*◌, ◌<◌, ◌≤◌, drop, length, take}
use Rattle.bits.specs.Bytes.{AllBytes}
use Rattle.hexfile.specs.Record.{bytes_of, count, sum}
use Rattle.hexread.specs.Values.{highs, lows}

pub record Summed (cs : List ℕ) (high low : ℕ) : Type 0 where
  pub first : high ≡ highs cs
  pub second : low ≡ lows cs
  pub high_small : high ≤ 1064960
  pub low_small : low ≤ 1064960

-- as many as their first byte says
pub record Counted (cs : List ℕ) (size : ℕ) : Type 0 where
  pub says : size ≡ count (bytes_of cs)
  pub long : length cs ≡ 2 * size + 10
  pub small : size < 256

-- and all of them digits, with the sum of their bytes
pub record Ruled (cs : List ℕ) (size total : ℕ) : Type 0 where
  pub counted : Counted cs size
  pub bytes : AllBytes (bytes_of cs)
  pub sums : total ≡ sum (bytes_of cs)

-- the characters of n data bytes, in a record at a place of a text
abbrev pub chars_at : List ℕ → ℕ → ℕ → List ℕ
chars_at text at n = take (2 * n) (drop (at + 9) text)

-- a data record at a place of a text, and room for its bytes in a segment so long
pub record Placed (text : List ℕ) (long at page address n : ℕ) : Type 0 where
  pub within : at + (12 + 2 * n) ≤ length text
  pub page_small : page < 65536
  pub address_small : address + n ≤ 65536
  pub bytes : AllBytes (bytes_of (chars_at text at n))
  pub room : 0 < n → 65536 * page + address + n ≤ long
