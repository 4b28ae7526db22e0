-- What the checks of a merge come to.
-- Assumes nothing.
use Rattle.std.specs.Prelude.{◌≡◌, Result, Ok, Err, ℕ}
use Rattle.checks.specs.Refusals.{stop_as}
use Rattle.checks.specs.declared.refusal.Refusal.{Refusal}
use Rattle.machine.specs.Operations.{number_of}
use Rattle.machine.specs.Steps.{pass, Verdict}
use Rattle.merges.specs.declared.merge.Pair.{Pair}

-- the verdict v; where it passes, the numbers that the tokens name
abbrev pub Pairs : (first second : ℕ) → Result Pair Refusal → Verdict → Type 0
Pairs j k (Err why) v = v ≡ stop_as why
Pairs j k (Ok p) v = (v ≡ pass) × ((p.first ≡ number_of j) × (p.second ≡ number_of k))
