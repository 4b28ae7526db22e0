-- What demand 3 needs to know of what stands between two requests, and of requests: one record, of the machine and of the exported functions.
-- Assumes nothing.
use Rattle.std.specs.Prelude.{List, [], ◌∷◌, ℕ}
use Rattle.machine.specs.Ledger.{Event}
use Rattle.machine.specs.Writes.{Name}

-- ---- lists of requests, by what one leaves and answers

-- "Each request gets the state that the last one handed back, and table and memory as that one left them, refused or not."
abbrev pub run_by : {S Q : Type 0} → (S → Q → S) → S → List Q → S
run_by step σ [] = σ
run_by step σ (q ∷ qs) = run_by step (step σ q) qs

abbrev pub answers_by : {S Q A : Type 0} → (S → Q → S) → (S → Q → A) → S → List Q → List A
answers_by step answer σ [] = []
answers_by step answer σ (q ∷ qs) = answer σ q ∷ answers_by step answer (step σ q) qs

-- ---- systems

pub record System : Type 1 where
  pub Standing : Type 0
  pub Request : Type 0
  pub Answer : Type 0
  -- what a request leaves standing, and what it hands back
  pub step : Standing → Request → Standing
  pub answer : Standing → Request → Answer
  pub Granted : Standing → Request → Type 0
  -- what stands: the table, the memory, and all else (the state)
  pub Other : Type 0
  pub other : Standing → Other
  pub table : Standing → List ℕ
  pub memory : Standing → List ℕ
  -- which requests are resets, revoke entry n, carry task t, are an access through the token k. (What a call asks depends on the state's size, so it is said over
  -- what stands.)
  pub Resets : Standing → Request → Type 0
  pub Revokes : Standing → Request → (entry : ℕ) → Type 0
  pub Carries : Standing → Request → (task : ℕ) → Type 0
  pub Through : Standing → Request → Name → Type 0
  -- which tokens a request issues; a refused one none
  pub issued : Standing → Request → List Name
  -- what is asked beforehand of what stands at first, and of each request: that slices hold bytes
  pub Whole : Standing → Type 0
  pub Sent : Request → Type 0

module _ (S : System) where
  abbrev pub run : S.Standing → List S.Request → S.Standing
  run σ qs = run_by S.step σ qs

  abbrev pub answers : S.Standing → List S.Request → List S.Answer
  answers σ qs = answers_by S.step S.answer σ qs

  -- none of the requests, as they come, is such a one
  abbrev pub Never : (S.Standing → S.Request → Type 0) → S.Standing → List S.Request → Type 0
  Never P σ [] = Unit {0}
  Never P σ (q ∷ qs) = (P σ q → ⊥) × Never P (S.step σ q) qs

  abbrev pub AllSent : List S.Request → Type 0
  AllSent [] = Unit {0}
  AllSent (q ∷ qs) = S.Sent q × AllSent qs

  -- what a request writes into the ledger, and the ledger l after a list
  abbrev pub event : S.Standing → S.Request → Event
  event σ q = record { issued = S.issued σ q; table = S.table (S.step σ q) }

  abbrev pub ledger : List Event → S.Standing → List S.Request → List Event
  ledger l σ [] = l
  ledger l σ (q ∷ qs) = ledger (event σ q ∷ l) (S.step σ q) qs
