-- "Reading written text into an equal segment restores its bytes" (02, paper 2).
-- Assumes nothing.
use Rattle.std.specs.Prelude.{◌≡◌, List, ℕ, ◌≤◌, length}
use Rattle.bits.specs.Bytes.{AllBytes}
use Rattle.hexfile.specs.Text.{Piece, apply, farthest, loads, said}
use Rattle.hexfile.specs.Written.{written, written_length}

-- what the text written for bs says: pieces that lie inside a segment of equal length, and make it hold bs whatever it held
pub record Restores (bs : List ℕ) : Type 0 where
  pub pieces : List Piece
  pub says : said (written bs) ≡ loads pieces
  pub fits : farthest pieces ≤ length bs
  pub restores : (segment : List ℕ) → length segment ≡ length bs → apply pieces segment ≡ bs

-- for all bytes that one page holds: a text of at most 65,536 bytes has fewer
abbrev pub Restored : Type 0
Restored = (bs : List ℕ) → AllBytes bs → length bs ≤ 65536 → Restores bs

-- how long a written text is
abbrev pub WrittenLong : Type 0
WrittenLong = (bs : List ℕ) → length (written bs) ≡ written_length (length bs)
