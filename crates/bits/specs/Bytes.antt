-- The bytes of a number: fields of 8 bits. Entries have the high byte first; SipHash and the number in a tag's message have the low byte first.
-- Assumes nothing.
use Rattle.std.specs.Prelude.{List, [], ◌∷◌, reverse, ℕ, ◌<◌, replicate}
use Rattle.bits.specs.Fields.{pack, unpack}

-- each of them is a byte
abbrev pub AllBytes : List ℕ → Type 0
AllBytes [] = Unit {0}
AllBytes (x ∷ xs) = (x < 256) × AllBytes xs

-- the low k bytes of a number, the high byte first
unfoldable pub bytes : ℕ → ℕ → List ℕ
bytes k n = unpack (replicate k 8) n

-- the number that k bytes make, the high byte first
unfoldable pub number : ℕ → List ℕ → ℕ
number k s = pack (replicate k 8) s

-- the same, the low byte first
unfoldable pub low_bytes : ℕ → ℕ → List ℕ
low_bytes k n = reverse (bytes k n)

unfoldable pub low_number : ℕ → List ℕ → ℕ
low_number k s = number k (reverse s)
