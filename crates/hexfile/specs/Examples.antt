-- Texts, and what they say, as rows of one table. A row's text is lines of bytes, written with their colon, digits and line feed.
-- Assumes nothing.
use Rattle.std.specs.Prelude.{◌≡◌, List, [], ◌∷◌, ◌++◌, map, ℕ}
use Rattle.hexfile.specs.Accounted.{Spells}
use Rattle.hexfile.specs.Text.{Piece, Said, apply, loads, refused, said}
use Rattle.hexfile.specs.Written.{digits, record_of, written}

-- ":0300300002337A1E", the record that Intel's document works out, and an end record whose last digit is small
abbrev pub intel : List ℕ
intel = 58 ∷ 48 ∷ 51 ∷ 48 ∷ 48 ∷ 51 ∷ 48 ∷ 48 ∷ 48 ∷ 48 ∷ 50 ∷ 51 ∷ 51 ∷ 55 ∷ 65 ∷ 49 ∷ 69 ∷ 10 ∷ []

abbrev pub small : List ℕ
small = 58 ∷ 48 ∷ 48 ∷ 48 ∷ 48 ∷ 48 ∷ 48 ∷ 48 ∷ 49 ∷ 70 ∷ 102 ∷ 10 ∷ []

-- a record whose data have every digit, the letters capital and small
abbrev pub every : List ℕ
every = 58 ∷ 48 ∷ 66 ∷ 48 ∷ 48 ∷ 48 ∷ 48 ∷ 48 ∷ 48 ∷ 48 ∷ 49 ∷ 50 ∷ 51 ∷ 52 ∷ 53 ∷ 54 ∷ 55 ∷ 56 ∷ 57 ∷ 65 ∷ 66 ∷ 67 ∷ 68 ∷ 69 ∷ 70 ∷ 97 ∷ 98 ∷ 99 ∷ 100 ∷ 101 ∷ 102 ∷ 67 ∷ 69 ∷ 10 ∷ []

-- a record of any bytes, the checksum among them
abbrev pub raw : List ℕ → List ℕ
raw bs = 58 ∷ digits bs ++ (10 ∷ [])

abbrev pub end : List ℕ
end = record_of 1 0 []

pub record Row : Type 0 where
  pub text : List ℕ
  pub says : Said

abbrev pub Agree : List Row → Type 0
Agree rows = map (λ (r : Row). said r.text) rows ≡ map (λ (r : Row). r.says) rows

abbrev row : List ℕ → Said → Row
row text says = record { text = text; says = says }

abbrev piece : ℕ → List ℕ → Piece
piece at bytes = record { at = at; bytes = bytes }

-- what the first row says
abbrev pub intel-pieces : List Piece
intel-pieces = piece 48 (2 ∷ 51 ∷ 122 ∷ []) ∷ []

abbrev pub texts : List Row
texts =
    row (intel ++ small) (loads intel-pieces)
    ∷ row (every ++ end) (loads (piece 0 (1 ∷ 35 ∷ 69 ∷ 103 ∷ 137 ∷ 171 ∷ 205 ∷ 239 ∷ 171 ∷ 205 ∷ 239 ∷ []) ∷ []))
    -- no text, no end record, text after it, a blank line, no line feed, and a carriage return before it
    ∷ row [] (refused 12)
    ∷ row intel (refused 12)
    ∷ row (end ++ end) (refused 12)
    ∷ row (end ++ (10 ∷ [])) (refused 12)
    ∷ row (10 ∷ end) (refused 12)
    ∷ row (58 ∷ digits (0 ∷ 0 ∷ 0 ∷ 1 ∷ 255 ∷ [])) (refused 12)
    ∷ row (58 ∷ digits (0 ∷ 0 ∷ 0 ∷ 1 ∷ 255 ∷ []) ++ (13 ∷ 10 ∷ [])) (refused 12)
    -- no colon, a record cut short, half a byte, a character that is no digit, and one above 127
    ∷ row (digits (0 ∷ 0 ∷ 0 ∷ 1 ∷ 255 ∷ []) ++ (10 ∷ [])) (refused 12)
    ∷ row (raw (0 ∷ 0 ∷ 0 ∷ 1 ∷ [])) (refused 12)
    ∷ row (58 ∷ digits (0 ∷ 0 ∷ 0 ∷ 1 ∷ []) ++ (70 ∷ 10 ∷ [])) (refused 12)
    ∷ row (58 ∷ digits (0 ∷ 0 ∷ 0 ∷ 1 ∷ []) ++ (70 ∷ 71 ∷ 10 ∷ [])) (refused 12)
    ∷ row (58 ∷ digits (0 ∷ 0 ∷ 0 ∷ 1 ∷ []) ++ (70 ∷ 198 ∷ 10 ∷ [])) (refused 12)
    -- the characters beside the digits
    ∷ row (58 ∷ digits (0 ∷ 0 ∷ 0 ∷ 1 ∷ []) ++ (70 ∷ 47 ∷ 10 ∷ [])) (refused 12)
    ∷ row (58 ∷ digits (0 ∷ 0 ∷ 0 ∷ 1 ∷ []) ++ (70 ∷ 58 ∷ 10 ∷ [])) (refused 12)
    ∷ row (58 ∷ digits (0 ∷ 0 ∷ 0 ∷ 1 ∷ []) ++ (70 ∷ 64 ∷ 10 ∷ [])) (refused 12)
    ∷ row (58 ∷ digits (0 ∷ 0 ∷ 0 ∷ 1 ∷ []) ++ (70 ∷ 96 ∷ 10 ∷ [])) (refused 12)
    ∷ row (58 ∷ digits (0 ∷ 0 ∷ 0 ∷ 1 ∷ []) ++ (70 ∷ 103 ∷ 10 ∷ [])) (refused 12)
    -- a wrong checksum, alone, off by 128, in a record that is malformed too, and in one after a malformed one
    ∷ row (raw (0 ∷ 0 ∷ 0 ∷ 1 ∷ 0 ∷ [])) (refused 13)
    ∷ row (raw (0 ∷ 0 ∷ 0 ∷ 1 ∷ 127 ∷ [])) (refused 13)
    ∷ row (raw (0 ∷ 0 ∷ 0 ∷ 2 ∷ 0 ∷ [])) (refused 12)
    ∷ row (raw (0 ∷ 0 ∷ 0 ∷ 2 ∷ 254 ∷ []) ++ raw (0 ∷ 0 ∷ 0 ∷ 1 ∷ 0 ∷ [])) (refused 12)
    ∷ row (raw (0 ∷ 0 ∷ 0 ∷ 1 ∷ 0 ∷ []) ++ raw (0 ∷ 0 ∷ 0 ∷ 2 ∷ 254 ∷ [])) (refused 13)
    -- counts that are not the line's, one more and one less
    ∷ row (raw (1 ∷ 0 ∷ 0 ∷ 0 ∷ 255 ∷ []) ++ end) (refused 12)
    ∷ row (raw (0 ∷ 0 ∷ 0 ∷ 0 ∷ 0 ∷ 0 ∷ []) ++ end) (refused 12)
    -- types 02, 03 and 05
    ∷ row (record_of 2 0 (0 ∷ 0 ∷ []) ++ end) (refused 12)
    ∷ row (record_of 3 0 (0 ∷ 0 ∷ 0 ∷ 0 ∷ []) ++ end) (refused 12)
    ∷ row (record_of 5 0 (0 ∷ 0 ∷ 0 ∷ 0 ∷ []) ++ end) (refused 12)
    -- an end with data or an address, a page of one or three bytes or with an address
    ∷ row (record_of 1 0 (0 ∷ [])) (refused 12)
    ∷ row (record_of 1 1 []) (refused 12)
    ∷ row (record_of 4 0 (0 ∷ []) ++ end) (refused 12)
    ∷ row (record_of 4 0 (0 ∷ 0 ∷ 0 ∷ []) ++ end) (refused 12)
    ∷ row (record_of 4 1 (0 ∷ 0 ∷ []) ++ end) (refused 12)
    -- the last byte of a page, one past it, and no byte there
    ∷ row (record_of 0 65535 (7 ∷ []) ++ end) (loads (piece 65535 (7 ∷ []) ∷ []))
    ∷ row (record_of 0 65535 (7 ∷ 8 ∷ []) ++ end) (refused 12)
    ∷ row (record_of 4 0 (255 ∷ 255 ∷ []) ++ record_of 0 65535 [] ++ end) (loads [])
    -- pages there and back, high byte first, and an address high byte first
    ∷ row (record_of 4 0 (0 ∷ 1 ∷ []) ++ record_of 0 2 (3 ∷ []) ++ record_of 4 0 (0 ∷ 0 ∷ []) ++ record_of 0 258 (4 ∷ []) ++ end) (loads (piece 65538 (3 ∷ []) ∷ piece 258 (4 ∷ []) ∷ []))
    ∷ row (58 ∷ digits (1 ∷ 1 ∷ 2 ∷ 0 ∷ 5 ∷ 247 ∷ []) ++ (10 ∷ []) ++ end) (loads (piece 258 (5 ∷ []) ∷ []))
    ∷ row (raw (2 ∷ 0 ∷ 0 ∷ 4 ∷ 1 ∷ 2 ∷ 247 ∷ []) ++ record_of 0 0 (6 ∷ []) ++ end) (loads (piece 16908288 (6 ∷ []) ∷ []))
    ∷ []

-- "where records overlap, the later one wins"
abbrev pub overlap : List ℕ
overlap = record_of 0 1 (1 ∷ 2 ∷ []) ++ record_of 0 2 (3 ∷ 4 ∷ []) ++ end

abbrev pub overlap-pieces : List Piece
overlap-pieces = piece 1 (1 ∷ 2 ∷ []) ∷ piece 2 (3 ∷ 4 ∷ []) ∷ []

abbrev pub Later : Type 0
Later = (said overlap ≡ loads overlap-pieces) × (apply overlap-pieces (9 ∷ 9 ∷ 9 ∷ 9 ∷ 9 ∷ []) ≡ 9 ∷ 1 ∷ 3 ∷ 4 ∷ 9 ∷ [])

-- the text written for 17 bytes, all of it
abbrev pub seventeen : List ℕ
seventeen = 0 ∷ 1 ∷ 2 ∷ 3 ∷ 4 ∷ 5 ∷ 6 ∷ 7 ∷ 8 ∷ 9 ∷ 10 ∷ 11 ∷ 12 ∷ 13 ∷ 14 ∷ 255 ∷ 171 ∷ []

abbrev pub Seventeen : Type 0
Seventeen = written seventeen ≡
    58 ∷ 48 ∷ 50 ∷ 48 ∷ 48 ∷ 48 ∷ 48 ∷ 48 ∷ 52 ∷ 48 ∷ 48 ∷ 48 ∷ 48 ∷ 70 ∷ 65 ∷ 10
    ∷ 58 ∷ 49 ∷ 48 ∷ 48 ∷ 48 ∷ 48 ∷ 48 ∷ 48 ∷ 48 ∷ 48 ∷ 48 ∷ 48 ∷ 49 ∷ 48 ∷ 50 ∷ 48 ∷ 51 ∷ 48 ∷ 52 ∷ 48 ∷ 53 ∷ 48 ∷ 54 ∷ 48 ∷ 55 ∷ 48 ∷ 56 ∷ 48 ∷ 57 ∷ 48 ∷ 65 ∷ 48 ∷ 66 ∷ 48 ∷ 67 ∷ 48 ∷ 68 ∷ 48 ∷ 69 ∷ 70 ∷ 70 ∷ 56 ∷ 56 ∷ 10
    ∷ 58 ∷ 48 ∷ 49 ∷ 48 ∷ 48 ∷ 49 ∷ 48 ∷ 48 ∷ 48 ∷ 65 ∷ 66 ∷ 52 ∷ 52 ∷ 10
    ∷ 58 ∷ 48 ∷ 48 ∷ 48 ∷ 48 ∷ 48 ∷ 48 ∷ 48 ∷ 49 ∷ 70 ∷ 70 ∷ 10 ∷ []

-- a text that is spelt as the grammar says, with its two records
abbrev pub Spelt : Type 0
Spelt = Spells 0 (intel ++ small) intel-pieces
