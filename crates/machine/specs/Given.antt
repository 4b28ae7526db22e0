-- Which tokens a request gives (01, "The lists of demand 3"): "A token is issued, and so given, when reset writes the root (number 0, tag 0) and when a granted
-- answer carries it for an entry issued in that request; a zero in an unused place gives none."
-- Assumes nothing.
use Rattle.std.specs.Prelude.{◌≡◌, List, [], ◌∷◌, ℕ, ◌^◌, ◌≤◌, ◌<◌, length}
use Rattle.tokens.specs.Token.{named}
use Rattle.machine.specs.MachineSystem.{Accepted, IsReset}
use Rattle.machine.specs.Operations.{Decision, number_of}
use Rattle.machine.specs.Requests.{Call, Request}
use Rattle.machine.specs.Steps.{decision, Machine}
use Rattle.machine.specs.Writes.{Name}

-- the number and tag of a token
abbrev pub name_in : ℕ → Name
name_in k = record { number = number_of k; tag = (named k).tag }

abbrev pub names_in : List ℕ → List Name
names_in [] = []
names_in (k ∷ ks) = name_in k ∷ names_in ks

abbrev pub AllWords : List ℕ → Type 0
AllWords [] = Unit {0}
AllWords (k ∷ ks) = (k < 2 ^ 64) × AllWords ks

-- What a granted request issued is what the tokens of its answer name. Reset's root is issued, and its answer carries no token. An answer carries two
-- tokens at most, each a word of 64 bits.
pub record Gives (q : Request) (d : Decision) : Type 0 where
  pub carried : (IsReset q → ⊥) → d.issued ≡ names_in d.reply.tokens
  pub root : IsReset q → (d.issued ≡ record { number = 0; tag = 0 } ∷ []) × (d.reply.tokens ≡ [])
  pub few : length d.reply.tokens ≤ 2
  pub words : AllWords d.reply.tokens

-- whatever is granted by whatever machine; a refused request gives none (`Refusals.Untouched`)
unfoldable pub Given : Type 0
Given = (σ : Machine) (q : Call) → Accepted σ q → Gives q.request (decision σ q)
