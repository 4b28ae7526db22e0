-- How many numbers are left (02, paper 3): what the paper claims, on its own.
-- Assumes nothing.
use Rattle.std.specs.Prelude.{◌≡◌, cond, List, ◌∷◌, ℕ, ◌≤◌, eqb}
use Rattle.layout.specs.declared.entry.Entry.{Entry}
use Rattle.machine.specs.FromReset.{added}
use Rattle.machine.specs.MachineSystem.{Accepted, reset_call}
use Rattle.machine.specs.Parts.{most_free, totalled}
use Rattle.machine.specs.Requests.{Call}
use Rattle.machine.specs.Steps.{answers, Machine, run}

-- "free numbers without number 0": one for entry n if it is such a number
abbrev pub vacant : ℕ → Entry → ℕ
vacant n e = cond (eqb n 0) 0 (cond (eqb e.kind 0) 1 0)

-- "a full count": a pass through the table
abbrev pub free_in_all : List ℕ → ℕ
free_in_all t = added vacant t

-- the machine with another free total handed over
abbrev pub handed_total : Machine → (total : ℕ) → Machine
handed_total σ k = record { state = totalled σ.state k; table = σ.table; memory = σ.memory }

-- "For all tables reached from reset the kept total equals a full count": after a granted reset, whatever requests follow
unfoldable pub Kept : Type 0
Kept =
    (σ : Machine) (k0 k1 ν : ℕ) (b : List ℕ) → Accepted σ (reset_call k0 k1 ν b)
    → (after : List Call) → let τ = run σ (reset_call k0 k1 ν b ∷ after) in
    τ.state.total ≡ free_in_all τ.table

-- "A wrong handed-over total stops at 0 and at that top": whatever the machine and the requests, a total in range stays there
unfoldable pub InRange : Type 0
InRange =
    (σ : Machine) (qs : List Call) → σ.state.total ≤ most_free σ.table
    → let τ = run σ qs in
    τ.state.total ≤ most_free τ.table

-- and it keeps its side: handed over beside a table reached from reset, one that is too low stays at or below the count, and one that is too high at or above it
pub record Beside (σ τ : Machine) : Type 0 where
  pub low : σ.state.total ≤ free_in_all σ.table → τ.state.total ≤ free_in_all τ.table
  pub high : free_in_all σ.table ≤ σ.state.total → free_in_all τ.table ≤ τ.state.total

unfoldable pub Sides : Type 0
Sides =
    (σ : Machine) (k0 k1 ν : ℕ) (b : List ℕ) → Accepted σ (reset_call k0 k1 ν b)
    → (before after : List Call) (total : ℕ) → let ρ = handed_total (run σ (reset_call k0 k1 ν b ∷ before)) total in
    Beside ρ (run ρ after)

-- "refusal 10 still goes by the table": of a total only its range is looked at. With two totals in range a machine answers every list alike, and leaves the
-- same but for the total.
unfoldable pub Unseen : Type 0
Unseen =
    (σ : Machine) (total : ℕ) → σ.state.total ≤ most_free σ.table → total ≤ most_free σ.table
    → (qs : List Call) → let ρ = handed_total σ total in
    (answers ρ qs ≡ answers σ qs) × (run ρ qs ≡ handed_total (run σ qs) (run ρ qs).state.total)
