-- The text that is written for bytes (02, paper 2): "capital digits, line feeds, 16 data bytes a record except the last, one type 04 before the
-- first data".
-- Assumes nothing.
use Rattle.std.specs.Prelude.{cond, List, [], ◌∷◌, ◌++◌, ℕ, zero, suc, ◌+◌, ◌*◌, ◌-◌, ◌/◌, ◌%◌, ltb, length, take, drop}
use Rattle.hexfile.specs.Record.{sum}

-- "capital digits": 0 to 9, A to F
unfoldable pub capital : ℕ → ℕ
capital d = cond (ltb d 10) (48 + d) (55 + d)

-- two digits for each byte
abbrev pub digits : List ℕ → List ℕ
digits [] = []
digits (b ∷ bs) = capital (b / 16) ∷ capital (b % 16) ∷ digits bs

-- what is missing in the sum to a multiple of 256
abbrev pub checksum : List ℕ → ℕ
checksum bs = (256 - sum bs % 256) % 256

-- a record's bytes before its checksum, and the line
abbrev pub fields : ℕ → ℕ → List ℕ → List ℕ
fields type address bs = length bs ∷ address / 256 ∷ address % 256 ∷ type ∷ bs

unfoldable pub line_of : ℕ → ℕ → List ℕ → List ℕ
line_of type address ds =
    let bs = fields type address ds in
    58 ∷ digits (bs ++ (checksum bs ∷ []))

-- "line feeds": each line with its own
abbrev pub record_of : ℕ → ℕ → List ℕ → List ℕ
record_of type address bs = line_of type address bs ++ (10 ∷ [])

-- so many data records, from an address on: "16 data bytes a record except the last"
unfoldable pub data_records : ℕ → ℕ → List ℕ → List ℕ
data_records zero a bs = []
data_records (suc n) a bs = record_of 0 a (take 16 bs) ++ data_records n (a + 16) (drop 16 bs)

-- how many data records n bytes take
abbrev pub many : ℕ → ℕ
many n = (n + 15) / 16

-- "one type 04 before the first data": of page 0; and the end record
unfoldable pub written : List ℕ → List ℕ
written bs = record_of 4 0 (0 ∷ 0 ∷ []) ++ (data_records (many (length bs)) 0 bs ++ record_of 1 0 [])

-- its length: of a record with k data bytes 2 * k + 12
abbrev pub written_length : ℕ → ℕ
written_length n = 28 + 2 * n + 12 * many n
