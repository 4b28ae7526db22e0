-- What a write leaves, as the code hands it back: state and table, and the tokens that it gives.
-- Assumes nothing.
use Rattle.std.specs.Prelude.{ℕ, List}
use Rattle.machine.specs.Parts.{State}
use Rattle.machine.specs.Writes.{Book}
use Rattle.table.specs.States.{state_as}
use Rattle.table.specs.declared.state.StateWords.{StateWords}

pub record Left : Type 0 where
  pub state : State
  pub table : List ℕ
  pub tokens : List ℕ

abbrev pub left_by : Book → Left
left_by b = record { state = b.state; table = b.table; tokens = b.tokens }

-- the words of the state, the table, and the tokens that were given, as what a write leaves
abbrev pub left_as : StateWords → List ℕ → (tokens : List ℕ) → Left
left_as s t ks = record { state = state_as s; table = t; tokens = ks }
