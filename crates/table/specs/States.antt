-- The words of the state, in the machine's terms.
-- Assumes nothing.
use Rattle.std.specs.Prelude.{ℕ}
use Rattle.machine.specs.Parts.{State}
use Rattle.table.specs.declared.state.StateWords.{StateWords}

abbrev pub state_as : StateWords → State
state_as s = record { key0 = s.key0; key1 = s.key1; last = s.last; next = s.next; total = s.total }

-- the words with another free total
abbrev pub retotalled : StateWords → (total : ℕ) → StateWords
retotalled s k = record { key0 = s.key0; key1 = s.key1; last = s.last; next = s.next; total = k }
