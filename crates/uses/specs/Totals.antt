-- The free total over a table of three entries (02, paper 3): two numbers can be given.
-- Assumes nothing.
use Rattle.std.specs.Prelude.{List, [], ◌∷◌, ℕ, replicate}
use Rattle.machine.specs.FreeTotal.{handed_total}
use Rattle.machine.specs.Requests.{Call}
use Rattle.machine.specs.Steps.{Machine, run, step}
use Rattle.uses.specs.Uses.{derives, reset1}

-- before reset
unfoldable pub three : Machine
three = record { state = record { key0 = 0; key1 = 0; last = 0; next = 0; total = 0 }; table = replicate 96 0; memory = replicate 8 9 }

-- the total that stands, and the one after each request of a list
abbrev pub totals : Machine → List Call → List ℕ
totals σ [] = σ.state.total ∷ []
totals σ (q ∷ qs) = σ.state.total ∷ totals (step σ q) qs

-- 0 is handed over where both are free, and 2 where none is
abbrev pub too_low : Machine
too_low = handed_total (run three (reset1 1 ∷ [])) 0

abbrev pub too_high : Machine
too_high = handed_total (run three (reset1 1 ∷ derives ∷ derives ∷ [])) 2
