-- "14 [..], last of all" (02, paper 2): one stage for all requests, after what is decided without a look at memory.
-- Assumes nothing.
use Rattle.std.specs.Prelude.{◌≡◌, ◌≢◌, ◌⊎◌, Bool, true, false, cond, List, [], ◌∷◌, ℕ, ◌≤◌, ◌<◌, eqb, length}
use Rattle.machine.specs.MachineSystem.{Accepted}
use Rattle.machine.specs.Requests.{Call, Request}
use Rattle.machine.specs.Rows.{row}
use Rattle.machine.specs.Steps.{answer, blind, decision, limited, Machine, told_length}

-- a request may make something for the front of its buffer: 14 stands in its row, by a test, so that a request at hand passes by `refl`
abbrev pub among : ℕ → List ℕ → Bool
among n [] = false
among n (k ∷ ks) = cond (eqb k n) true (among n ks)

abbrev pub makes : Request → Bool
makes q = among 14 (row q)

abbrev pub NoneMakes : List Call → Type 0
NoneMakes [] = Unit {0}
NoneMakes (q ∷ qs) = (makes q.request ≡ false) × NoneMakes qs

-- what it makes: its length, and whether it keeps to its limit
abbrev pub made_length : Machine → Call → ℕ
made_length σ q = told_length (blind σ q).effect.fill σ.memory

abbrev pub made_limited : Machine → Call → Bool
made_limited σ q = limited (blind σ q).effect.fill σ.memory

-- What makes nothing is answered as it was decided, and so is what was refused already: no byte of memory bears on its reply. What is granted tells the length
-- of what it made, which keeps to its limit and fits; and 14 is given exactly if all else is granted and it does not.
pub record LastOfAll : Type 0 where
  pub others : (σ : Machine) (q : Call) → makes q.request ≡ false → decision σ q ≡ blind σ q
  pub refused : (σ : Machine) (q : Call) → (blind σ q).reply.refusal ≢ 0 → decision σ q ≡ blind σ q
  pub told : (σ : Machine) (q : Call) → Accepted σ q → ((answer σ q).reply.length ≡ made_length σ q) × (made_limited σ q ≡ true) × (made_length σ q ≤ length q.buffer)
  pub short : (σ : Machine) (q : Call) → (answer σ q).reply.refusal ≡ 14 → ((blind σ q).reply.refusal ≡ 0) × ((made_limited σ q ≡ false) ⊎ (length q.buffer < made_length σ q))
  pub stops : (σ : Machine) (q : Call) → (blind σ q).reply.refusal ≡ 0 → (made_limited σ q ≡ false) ⊎ (length q.buffer < made_length σ q) → (answer σ q).reply.refusal ≡ 14
