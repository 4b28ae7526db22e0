-- What a text of Intel HEX says (02, paper 2): bytes at offsets, in the order of its records, or the refusal of its first bad record.
-- Assumes nothing.
use Rattle.std.specs.Prelude.{cond, List, [], ◌∷◌, ◌++◌, ℕ, zero, suc, ◌+◌, ◌*◌, max, eqb, length}
use Rattle.std.proofs.lemmas.List.Edits.{sets}
use Rattle.hexfile.specs.Record.{address, count, data_of, inside, page_of, type, verdict}

-- a text's lines: what stands before each line feed, and last what stands after all of them
abbrev pub begin : ℕ → List (List ℕ) → List (List ℕ)
begin c [] = (c ∷ []) ∷ []
begin c (line ∷ lines) = (c ∷ line) ∷ lines

unfoldable pub lines : List ℕ → List (List ℕ)
lines [] = [] ∷ []
lines (c ∷ cs) =
    let rest = lines cs in
    cond (eqb c 10) ([] ∷ rest) (begin c rest)

-- bytes to be written at an offset
pub record Piece : Type 0 where
  pub at : ℕ
  pub bytes : List ℕ

-- a refusal's number, or what is to be written, in this order
pub data Said : Type 0 where
  refused : ℕ → Said
  loads : List Piece → Said

-- pieces, and then what the rest says
abbrev pub after : List Piece → Said → Said
after ps (refused n) = refused n
after ps (loads qs) = loads (ps ++ qs)

-- a data record's bytes at their offset; "a data record without bytes writes nothing"
abbrev pub piece_at : ℕ → ℕ → List ℕ → List Piece
piece_at start n bs = cond (eqb n 0) [] (record { at = start; bytes = bs } ∷ [])

-- those of a record's bytes, from a page on: at 65,536 times the page and its address
abbrev pub pieces : ℕ → List ℕ → List Piece
pieces page bs = piece_at (65536 * page + address bs) (count bs) (data_of bs)

-- "The text ends with its one end record and a line feed": "text after it counts as the next record"
abbrev pub ending : List (List ℕ) → Said
ending [] = refused 12
ending ([] ∷ []) = loads []
ending ((c ∷ cs) ∷ ls) = refused 12
ending ([] ∷ l ∷ ls) = refused 12

-- a record's verdict and type, and what the rest says if it holds data, the end or a page
abbrev pub go : ℕ → ℕ → Said → Said → Said → Said
go (suc n) t a b c = refused (suc n)
go zero zero a b c = a
go zero (suc zero) a b c = b
go zero (suc (suc t)) a b c = c

-- "each record ends in a line feed", so that the last line is none; "no end record ... counts as the next record"
abbrev pub verdict_in : List ℕ → List (List ℕ) → ℕ
verdict_in line [] = 12
verdict_in line (next ∷ rest) = verdict line

-- the verdict on the first record of lines
abbrev pub first : List (List ℕ) → ℕ
first [] = 12
first (line ∷ rest) = verdict_in line rest

-- what lines say, from a page on
unfoldable pub read : ℕ → List (List ℕ) → Said
read page [] = refused 12
read page (line ∷ rest) =
    let bs = inside line in
    let more = after (pieces page bs) (read page rest) in
    let moved = read (page_of bs) rest in
    go (verdict_in line rest) (type bs) more (ending rest) moved

-- "the page starts at 0"
unfoldable pub said : List ℕ → Said
said text = read 0 (lines text)

-- "writes the data at its offsets ...; where records overlap, the later one wins"
abbrev pub apply : List Piece → List ℕ → List ℕ
apply [] segment = segment
apply (p ∷ ps) segment = apply ps (sets segment p.at p.bytes)

-- the largest end of a piece
abbrev pub farthest : List Piece → ℕ
farthest [] = 0
farthest (p ∷ ps) = max (p.at + length p.bytes) (farthest ps)
