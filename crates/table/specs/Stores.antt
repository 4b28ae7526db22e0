-- Words that are stored under a number: the number then holds the entry whose words they are.
-- Assumes nothing.
use Rattle.std.specs.Prelude.{◌≡◌, ℕ, List}
use Rattle.layout.specs.Entry.{entry_number, words_number}
use Rattle.layout.specs.declared.entry.Entry.{Entry}
use Rattle.layout.specs.declared.entry.Words.{Words}
use Rattle.machine.specs.Parts.{put}

-- the table t, with the words under number n, is t'
abbrev pub Stored : List ℕ → ℕ → Words → List ℕ → Type 0
Stored t n w t' = (e : Entry) → words_number w ≡ entry_number e → t' ≡ put t n e
