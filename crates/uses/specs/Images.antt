-- A segment of 8 bytes that is dumped, and loaded into another (02, paper 2).
-- Assumes nothing.
use Rattle.std.specs.Prelude.{[], ◌∷◌, ℕ, replicate}
use Rattle.machine.specs.LoadImages.{dump_call, load_call, text_in}
use Rattle.machine.specs.Requests.{Call, no_shift}
use Rattle.machine.specs.Steps.{answer, Machine, step}
use Rattle.uses.specs.Uses.{before, reset1}

-- before reset, with other bytes than `before` has
unfoldable pub numbered : Machine
numbered = record { state = record { key0 = 0; key1 = 0; last = 0; next = 0; total = 0 }; table = replicate 64 0; memory = 1 ∷ 2 ∷ 3 ∷ 4 ∷ 5 ∷ 6 ∷ 7 ∷ 8 ∷ [] }

-- after it: the root over 8 bytes, 1 to 8, and the root over 8 bytes, each 9
abbrev pub from : Machine
from = step numbered (reset1 1)

abbrev pub to : Machine
to = step before (reset1 1)

-- the root is dumped, by any task, to a buffer that its text fills
abbrev pub dumps : (task : ℕ) → Call
dumps u = dump_call 0 u no_shift (replicate 56 0)

-- what was dumped is loaded
abbrev pub loads : Call
loads = load_call 0 0 no_shift (text_in (answer from (dumps 0)))
