-- Characters stored at a place of a buffer.
-- Assumes nothing.
use Rattle.std.specs.Prelude.{◌≡◌, ℕ, List, length}
use Rattle.std.proofs.lemmas.List.Edits.{sets}

-- the buffer keeps its length, and holds the text from the place on; all else in it is as it was
pub record Laid (before after : List ℕ) (at : ℕ) (text : List ℕ) : Type 0 where
  pub kept : length after ≡ length before
  pub laid : after ≡ sets before at text
