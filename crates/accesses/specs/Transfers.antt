-- What the checks of an access come to.
-- Assumes nothing.
use Rattle.std.specs.Prelude.{◌≡◌, true, Result, Ok, Err, List, ℕ, ◌+◌, length}
use Rattle.tokens.specs.Token.{named}
use Rattle.checks.specs.Holds.{request_holds}
use Rattle.checks.specs.Refusals.{stop_as}
use Rattle.checks.specs.Shifts.{judged_for}
use Rattle.checks.specs.declared.refusal.Refusal.{Refusal}
use Rattle.leases.specs.declared.lease.Window.{Window}
use Rattle.machine.specs.Operations.{named_entry}
use Rattle.machine.specs.Parts.{State}
use Rattle.machine.specs.Requests as request
use Rattle.machine.specs.Steps.{pass, Verdict, verdict}
use Rattle.machine.specs.Stops.{places}
use Rattle.rulings.specs.Rulings.{verdict_on}

-- where an access begins in memory
abbrev pub start_of : List ℕ → ℕ → ℕ
start_of t k = (named_entry t k).base + (named k).offset

-- the checks came to the verdict v; an access that passes begins at a
abbrev pub Begins : Result ℕ Refusal → Verdict → (start : ℕ) → Type 0
Begins (Err why) v a = v ≡ stop_as why
Begins (Ok x) v a = (v ≡ pass) × (x ≡ a)

-- what the right and the bounds come to, for a buffer of so many bytes, whatever else the request carries
abbrev pub Transfers : Result ℕ Refusal → List ℕ → request.Way → (token bytes : ℕ) → Type 0
Transfers r t w k n =
    (m u : ℕ) (s : State) (φ : request.Shift) (b : List ℕ) → length b ≡ n → Begins r (verdict (places m s t (request.access w k u φ) b).rest) (start_of t k)

-- what all places but 1 come to, where the leases come to j, for a buffer of so many bytes, in every state
abbrev pub Carries : Result ℕ Refusal → Window → ℕ → List ℕ → request.Way → (token task bytes : ℕ) → Type 0
Carries r j m t w k u n =
    (s : State) (φ : request.Shift) (b : List ℕ) → length b ≡ n → j ≡ judged_for φ k → request_holds m s t (request.access w k u φ) b ≡ true
    → Begins r (verdict_on m s t (request.access w k u φ) b) (start_of t k)
