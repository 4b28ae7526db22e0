-- What an access brings beside its bytes, and what its tokens and leases come to.
-- Assumes nothing.
use Rattle.std.specs.Prelude.{false, List, [], ◌∷◌, ◌++◌, ℕ}
use Rattle.leases.specs.Lease.{judged, leases_of}
use Rattle.leases.specs.declared.lease.Window.{Window}
use Rattle.machine.specs.Operations.{number_of}
use Rattle.machine.specs.Requests.{Shift}
use Rattle.machine.specs.Steps.{Verdict, verdict}
use Rattle.machine.specs.Stops.{at_window, Check, leases_sound, need, reachable, window_open}
use Rattle.tokens.specs.Token.{named}

-- minute and leases together
abbrev pub shift_as : (minute : ℕ) → (leases : List ℕ) → Shift
shift_as i ls = record { minute = i; leases = ls }

-- the verdict on an access's tokens, behind what 02 puts after place 1, which is cs and then the leases
unfoldable pub shift_verdict : List Check → ℕ → List ℕ → (token task : ℕ) → Shift → Verdict
shift_verdict cs m t k u φ = verdict ((cs ++ (leases_sound φ ∷ [])) ++ (reachable m t k u ++ (window_open φ k ∷ [])))

-- what the leases come to for a token
abbrev pub judged_for : Shift → (token : ℕ) → Window
judged_for φ k = judged (leases_of φ.leases) (number_of k) (named k).tag φ.minute

-- the verdict on the tokens of an access whose token is closed: places 2 to 5, and 15
unfoldable pub closed_verdict : ℕ → List ℕ → (token task : ℕ) → Verdict
closed_verdict m t k u = verdict (reachable m t k u ++ (need at_window false ∷ []))
