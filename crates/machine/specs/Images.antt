-- Load images (02, paper 2): what a text of Intel HEX comes to in a segment. `hexfile` says what a text says and which text is written.
-- Assumes nothing.
use Rattle.std.specs.Prelude.{Bool, not, List, [], ℕ, eqb, leb, length}
use Rattle.hexfile.specs.Text.{loads, Piece, refused, Said, said}

-- "at most 65,536 bytes of text, else 1"
abbrev pub most_text : ℕ
most_text = 65536

abbrev pub text_short : List ℕ → Bool
text_short text = leb (length text) most_text

-- the refusal that a text comes to, 0 for none, and the data that it holds
abbrev pub refusal_in : Said → ℕ
refusal_in (refused n) = n
refusal_in (loads ps) = 0

abbrev pub pieces_in : Said → List Piece
pieces_in (refused n) = []
pieces_in (loads ps) = ps

unfoldable pub pieces_of : List ℕ → List Piece
pieces_of text = pieces_in (said text)

-- the text does not come to refusal r
unfoldable pub spares : (r : ℕ) → List ℕ → Bool
spares r text = not (eqb (refusal_in (said text)) r)
