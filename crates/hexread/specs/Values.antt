-- What the code's table holds, and its sums.
-- Assumes nothing.
use Rattle.std.specs.Prelude.{cond, List, [], ◌∷◌, ℕ, zero, suc, ◌+◌, ◌*◌, ltb, get_or}
use Rattle.hexfile.specs.Record.{digit}

-- a digit's value, or 4,096: more than all digits of a record make
unfoldable pub value_of : ℕ → ℕ
value_of c = cond (ltb (digit c) 16) (digit c) 4096

-- those of so many characters from one on
abbrev pub values_from : ℕ → ℕ → List ℕ
values_from c zero = []
values_from c (suc n) = value_of c ∷ values_from (suc c) n

unfoldable pub values : List ℕ
values = values_from 0 256

-- two characters at a place, as a byte; and four, as two bytes, the high byte first
abbrev pub pair_of : List ℕ → ℕ → ℕ
pair_of s i = 16 * value_of (get_or s i 0) + value_of (get_or s (i + 1) 0)

abbrev pub word_of : List ℕ → ℕ → ℕ
word_of s i = 256 * pair_of s i + pair_of s (i + 2)

-- the sums over the first characters of bytes, and over the second ones
abbrev pub highs : List ℕ → ℕ
highs [] = 0
highs (a ∷ []) = 0
highs (a ∷ b ∷ cs) = value_of a + highs cs

abbrev pub lows : List ℕ → ℕ
lows [] = 0
lows (a ∷ []) = 0
lows (a ∷ b ∷ cs) = value_of b + lows cs
