-- What lock and unlock leave.
-- Assumes nothing.
use Rattle.std.specs.Prelude.{Bool, List, ℕ}
use Rattle.machine.specs.Operations.{carried, grant_lock}
use Rattle.machine.specs.Parts.{State}
use Rattle.rulings.specs.Rulings.{ruled, Ruling}

-- the owner's entry gets another lock
unfoldable pub relocking : State → List ℕ → (owner : ℕ) → Bool → (holder : ℕ) → Ruling
relocking s t o locked h = ruled (carried s t (grant_lock t o locked h))
