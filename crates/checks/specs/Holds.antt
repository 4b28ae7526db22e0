-- Facts with one refusal, as one test.
-- Assumes nothing.
use Rattle.std.specs.Prelude.{◌≡◌, Bool, true, ◌&&◌, List, [], ◌∷◌, ◌++◌, ℕ}
use Rattle.tokens.specs.Token.{named}
use Rattle.machine.specs.Parts.{State}
use Rattle.machine.specs.Requests.{Request, Shift}
use Rattle.machine.specs.Stops.{is_named, places, settings, shift_fits, sizes}

-- a and all the facts hold
abbrev pub and_hold : Bool → List Bool → Bool
and_hold a [] = a
and_hold a (b ∷ bs) = and_hold (a && b) bs

abbrev pub all_hold : List Bool → Bool
all_hold bs = and_hold true bs

-- the sizes, and the settings with them, hold
unfoldable pub sizes_hold : ℕ → List ℕ → Bool
sizes_hold m t = all_hold (sizes m t)

unfoldable pub settings_hold : ℕ → State → List ℕ → Bool
settings_hold m s t = all_hold (sizes m t ++ settings s t)

-- place 1 of a request holds
unfoldable pub request_holds : ℕ → State → List ℕ → Request → List ℕ → Bool
request_holds m s t q b = all_hold (sizes m t ++ (places m s t q b).request)

-- and of what an access brings beside its bytes
unfoldable pub shift_holds : Shift → Bool
shift_holds φ = all_hold (shift_fits φ)

-- place 2 holds of a token
unfoldable pub named_holds : List ℕ → ℕ → Bool
named_holds t k = all_hold (is_named t k)

-- the token k is read as the number and the tag
pub record ReadAs (k number tag : ℕ) : Type 0 where
  pub numbered : number ≡ (named k).number
  pub tagged : tag ≡ (named k).tag

-- the test b is place 2 of every token that is read so
abbrev pub Names : Bool → List ℕ → (number tag : ℕ) → Type 0
Names b t n g = (k : ℕ) → ReadAs k n g → b ≡ named_holds t k
