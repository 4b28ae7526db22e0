-- A new number for what is issued.
-- Assumes nothing.
use Rattle.std.specs.Prelude.{◌≡◌, Result, Ok, Err, List, [], ◌∷◌, ℕ, ◌/◌, ◌≤◌, ◌<◌, length}
use Rattle.checks.specs.Refusals.{stop_as}
use Rattle.checks.specs.declared.refusal.Refusal.{Refusal}
use Rattle.machine.specs.Issuing.{new_number}
use Rattle.machine.specs.Parts.{spent, State}
use Rattle.machine.specs.Requests.{Request}
use Rattle.machine.specs.Steps.{pass, Verdict, verdict}
use Rattle.machine.specs.Stops.{number_left}
use Rattle.rulings.specs.Rulings.{front_on}

-- what holds of the state and the table where the sizes and settings do
pub record Limits (s : State) (t : List ℕ) : Type 0 where
  pub least : 64 ≤ length t
  pub most : length t ≤ 32768
  pub inside : s.last < length t / 32
  pub left : s.next ≤ spent

-- the checks came to the verdict v; one that passes has the new number
abbrev pub Allots : State → List ℕ → Result ℕ Refusal → Verdict → Type 0
Allots s t (Err why) v = v ≡ stop_as why
Allots s t (Ok n) v = (v ≡ pass) × (n ≡ new_number s t)

-- place 10
unfoldable pub allot_verdict : State → List ℕ → Verdict
allot_verdict s t = verdict (number_left s t ∷ [])

-- the request passes all places but 11, and n is the new number
abbrev pub allotted : ℕ → State → List ℕ → Request → ℕ → Type 0
allotted m s t q n = Allots s t (Ok n) (front_on m s t q [])
