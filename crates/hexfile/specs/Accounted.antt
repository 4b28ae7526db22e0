-- How a text that is read is built, record by record: what a text says, stated once more as a grammar (02, paper 2). A text is refused, or every
-- byte of it is accounted for, in one way.
-- Assumes nothing.
use Rattle.std.specs.Prelude.{◌≡◌, List, [], ◌∷◌, ◌++◌, ℕ, ◌+◌, ◌%◌, ◌≤◌, length}
use Rattle.bits.specs.Bytes.{AllBytes}
use Rattle.hexfile.specs.Record.{address, bytes_of, count, page_of, sum, type}
use Rattle.hexfile.specs.Text.{Piece, loads, pieces, refused, said}

-- the digits cs are those of the bytes bs of one record: four, the data, and a checksum that makes their sum 0 modulo 256
pub record Whole (cs bs : List ℕ) : Type 0 where
  pub made : bytes_of cs ≡ bs
  pub bytes : AllBytes bs
  pub size : length bs ≡ count bs + 5
  pub sums : sum bs % 256 ≡ 0

-- a colon, digits, a line feed, and the rest of the text
abbrev pub Begins : List ℕ → List ℕ → List ℕ → Type 0
Begins text cs rest = text ≡ 58 ∷ (cs ++ (10 ∷ rest))

-- from a page on, a text spells pieces: a data record of that page and what the rest spells, a page record and what the rest spells from its page
-- on, or the end record, with nothing after it
pub data Spells : ℕ → List ℕ → List Piece → Type 0 where
  data_record : {page : ℕ} {text : List ℕ} {ps : List Piece} (cs bs rest : List ℕ) (qs : List Piece)
      → Begins text cs rest → Whole cs bs → type bs ≡ 0 → address bs + count bs ≤ 65536 → ps ≡ pieces page bs ++ qs → Spells page rest qs → Spells page text ps
  page_record : {page : ℕ} {text : List ℕ} {ps : List Piece} (cs bs rest : List ℕ)
      → Begins text cs rest → Whole cs bs → type bs ≡ 4 → address bs ≡ 0 → count bs ≡ 2 → Spells (page_of bs) rest ps → Spells page text ps
  end_record : {page : ℕ} {text : List ℕ} {ps : List Piece} (cs bs : List ℕ)
      → Begins text cs [] → Whole cs bs → type bs ≡ 1 → address bs ≡ 0 → count bs ≡ 0 → ps ≡ [] → Spells page text ps

-- what a text may be: spelt, or refused, by 12 or by 13
pub data Outcome (text : List ℕ) : Type 0 where
  spelt : (ps : List Piece) → Spells 0 text ps → Outcome text
  malformed : said text ≡ refused 12 → Outcome text
  wrong : said text ≡ refused 13 → Outcome text

-- a text that is read is spelt so, and one that is spelt so is read; there are no two readings, and no other refusal
pub record Accounted : Type 0 where
  pub built : (text : List ℕ) (ps : List Piece) → said text ≡ loads ps → Spells 0 text ps
  pub reads : (text : List ℕ) (ps : List Piece) → Spells 0 text ps → said text ≡ loads ps
  pub once : (text : List ℕ) (ps qs : List Piece) → Spells 0 text ps → Spells 0 text qs → ps ≡ qs
  pub others : (text : List ℕ) → Outcome text
