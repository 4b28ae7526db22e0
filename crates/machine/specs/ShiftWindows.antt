-- Shift windows (02, paper 4): what the paper claims, on its own. `leases` says what a lease is, and which minutes its window has.
-- Assumes nothing.
use Rattle.std.specs.Prelude.{◌≡◌, ◌⊎◌, ℕ, ◌*◌, ◌<◌, ◌≤◌, length}
use mathlib.Core.List.{List, [], Memᴰ}
use Rattle.leases.specs.Lease.{leases_of, week}
use Rattle.leases.specs.Windows.{Admits, Sound, Without}
use Rattle.leases.specs.declared.lease.Lease.{Lease}
use Rattle.tokens.specs.Token.{named}
use Rattle.machine.specs.MachineSystem.{Accepted}
use Rattle.machine.specs.Operations.{Decision, grant, number_of}
use Rattle.machine.specs.Parts.{State}
use Rattle.machine.specs.Requests.{Access, accessing, Call, no_shift, Request, Shift}
use Rattle.machine.specs.Steps.{answer, decide, decision, Machine, settle, verdict}
use Rattle.machine.specs.Stops.{in_order, unleased}

-- ---- accesses

-- q is an access, by the token k, in the shift φ, and r is the same request in another one; "Loads and dumps count as accesses."
pub data InShifts : Request → Request → (token : ℕ) → (φ ψ : Shift) → Type 0 where
  accesses : {w : Access} {k u : ℕ} {φ ψ : Shift} → InShifts (accessing w k u φ) (accessing w k u ψ) k φ ψ

abbrev pub bringing : Request → (buffer : List ℕ) → Call
bringing q b = record { request = q; buffer = b }

-- what the paper asks of the shift φ for an access by the token k: "whole leases, at most 512 bytes", a minute of the week, no lease "whose minutes are equal
-- or either is beyond the week", whichever token it is for, and the token is open: "A token without a lease is always open; with several, any open one suffices"
pub record Within (φ : Shift) (k : ℕ) : Type 0 where
  pub whole : (n : ℕ) × (length φ.leases ≡ 8 * n)
  pub few : length φ.leases ≤ 512
  pub minute : φ.minute < week
  pub sound : (l : Lease) → Memᴰ l (leases_of φ.leases) → Sound l
  pub opened : Without (leases_of φ.leases) (number_of k) (named k).tag ⊎ Admits (leases_of φ.leases) (number_of k) (named k).tag φ.minute

-- "15 closed": the leases are sound, and the token is not open
pub record Shut (φ : Shift) (k : ℕ) : Type 0 where
  pub sound : (l : Lease) → Memᴰ l (leases_of φ.leases) → Sound l
  pub shut : Without (leases_of φ.leases) (number_of k) (named k).tag ⊎ Admits (leases_of φ.leases) (number_of k) (named k).tag φ.minute → ⊥

-- "16 a lease whose minutes are equal or either is beyond the week": not every lease is sound
abbrev pub Unsound : Shift → Type 0
Unsound φ = ((l : Lease) → Memᴰ l (leases_of φ.leases) → Sound l) → ⊥

-- What is granted was let through by its shift, and 15 and 16 are told of nothing else. Where its shift lets it through an access is decided as the same one
-- without shifts is, refusals too; so two shifts that do so come to the same, and "no minute is remembered, so a clock set back is harmless".
pub record Windows : Type 0 where
  pub granted : (σ : Machine) {q r : Request} {k : ℕ} {φ : Shift} → InShifts q r k φ no_shift → (b : List ℕ) → Accepted σ (bringing q b) → Within φ k
  pub closed : (σ : Machine) {q r : Request} {k : ℕ} {φ : Shift} → InShifts q r k φ no_shift → (b : List ℕ) → (answer σ (bringing q b)).reply.refusal ≡ 15 → Shut φ k
  pub unsound : (σ : Machine) {q r : Request} {k : ℕ} {φ : Shift} → InShifts q r k φ no_shift → (b : List ℕ) → (answer σ (bringing q b)).reply.refusal ≡ 16 → Unsound φ
  pub within : (σ : Machine) {q r : Request} {k : ℕ} {φ : Shift} → InShifts q r k φ no_shift → (b : List ℕ) → Within φ k → decision σ (bringing q b) ≡ decision σ (bringing r b)

-- ---- without leases

-- a request that brings no lease; an access names some minute of the week
abbrev pub Leaseless : Request → Type 0
Leaseless q = (r : Request) (k : ℕ) (φ : Shift) → InShifts q r k φ no_shift → (φ.leases ≡ []) × (φ.minute < week)

-- the decision without this paper: by all checks but those that it puts to an access
abbrev pub before : ℕ → State → List ℕ → Request → List ℕ → Decision
before m s t q b = settle (verdict (in_order m s t (grant m t q b) (unleased m s t q b))) s t (grant m t q b)

-- So a controller without shifts loses nothing: every request, on whatever machine and with whatever buffer, is decided as before, and with that answered; and
-- what was judged before does not look at a shift.
pub record AsBefore : Type 0 where
  pub decided : (m : ℕ) (s : State) (t : List ℕ) (q : Request) (b : List ℕ) → Leaseless q → decide m s t q b ≡ before m s t q b
  pub blind : (m : ℕ) (s : State) (t : List ℕ) {q r : Request} {k : ℕ} {φ ψ : Shift} → InShifts q r k φ ψ → (b : List ℕ) → before m s t q b ≡ before m s t r b
