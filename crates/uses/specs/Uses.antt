-- Small lists that the claims are held against: 8 bytes of memory, or one, a table of two entries, key 0.
-- Assumes nothing.
use Rattle.std.specs.Prelude.{List, [], ◌∷◌, ◌++◌, ℕ, ◌+◌, replicate, set}
use Rattle.machine.specs.Demand3.{FirstRevoke}
use Rattle.machine.specs.Ledger.{Event, Gave}
use Rattle.machine.specs.MachineSystem.{Accepted, of_machine, reset_call, Unreset}
use Rattle.machine.specs.Parts.{at}
use Rattle.machine.specs.Requests.{access, Call, derive, lock, moving, no_shift, reading, release, revoke}
use Rattle.machine.specs.Segments.{LockedFor, Under}
use Rattle.machine.specs.Steps.{Machine, run, step}
use Rattle.machine.specs.System.{event, ledger, Never}
use Rattle.machine.specs.WholeDerive.{access_call, derive_call}
use Rattle.machine.specs.Writes.{Name, token_for}
use Rattle.recorded.specs.Session.{plain}

-- ---- the premises of demand 3, in one place

-- the first list, its reset and what follows it; the entry that it leaves locked, and for which task
pub record First : Type 0 where
  pub key0 : ℕ
  pub key1 : ℕ
  pub first_nonce : ℕ
  pub follows : List Call
  pub entry : ℕ
  pub task : ℕ

abbrev pub reset_of : First → Call
reset_of f = reset_call f.key0 f.key1 f.first_nonce []

abbrev pub list_of : First → List Call
list_of f = reset_of f ∷ f.follows

-- the further requests qs and the revoke r; the token k that the event v gave, with the events since
pub record Premises (σ : Machine) (f : First) (qs : List Call) (r : Call) (k : Name) (v : Event) (since : List Event) : Type 0 where
  pub accepted : Accepted σ (reset_of f)
  pub one_reset : Unreset (step σ (reset_of f)) f.follows
  pub locked : LockedFor (run σ (list_of f)).table f.entry f.task
  pub no_reset : Never of_machine of_machine.Resets (run σ (list_of f)) qs
  pub none_carries : Never of_machine (λ τ q. of_machine.Carries τ q f.task) (run σ (list_of f)) qs
  pub revoked : FirstRevoke of_machine (run σ (list_of f)) f.entry qs r
  pub given : Gave k v since (ledger of_machine [] σ (list_of f ++ qs))
  pub under : Under v.table (at (run σ (list_of f)).table f.entry) k

-- ---- what the lists are made of

-- before reset
unfoldable pub before : Machine
before = record { state = record { key0 = 0; key1 = 0; last = 0; next = 0; total = 0 }; table = replicate 64 0; memory = replicate 8 9 }

abbrev pub reset1 : (first_nonce : ℕ) → Call
reset1 ν = reset_call 0 0 ν []

-- bytes 2 to 4 of the root for reading; the root locked for 7
abbrev pub derives : Call
derives = plain (derive 0 2 3 4 0)

abbrev pub locks7 : Call
locks7 = plain (lock 0 7)

-- what the derive gives, and the root as reset gives it
abbrev pub child : Name
child = record { number = 1; tag = 63154 }

-- what the derive leaves in the ledger, after a reset, and what follows it there
abbrev pub derived : Event
derived = event of_machine (step before (reset1 1)) derives

abbrev pub since_derived : List Call → List Event
since_derived qs = ledger of_machine [] (run before (reset1 1 ∷ derives ∷ [])) qs

-- it is dropped
abbrev pub drops : Call
drops = plain (release (token_for 0 child))

abbrev pub root_name : Name
root_name = record { number = 0; tag = 0 }

-- the token 0 is the root's as reset gives it: number 0, tag 0
abbrev pub revokes : (token : ℕ) → Call
revokes k = plain (revoke k 0)

-- one byte at an offset of the root, through that token
abbrev pub read : (offset task : ℕ) → Call
read o u = record { request = access reading o u no_shift; buffer = 0 ∷ [] }

-- the root is left locked for 7
abbrev pub first : (first_nonce : ℕ) → (follows : List Call) → First
first ν cs = record { key0 = 0; key1 = 0; first_nonce = ν; follows = cs; entry = 0; task = 7 }

-- the machine with the byte v at x
abbrev pub changed : Machine → (x v : ℕ) → Machine
changed σ x v = record { state = σ.state; table = σ.table; memory = set σ.memory x v }

-- ---- a buffer passed on whole (02, paper 1)

-- before reset, with one byte of memory
unfoldable pub single : Machine
single = record { state = record { key0 = 0; key1 = 0; last = 0; next = 0; total = 0 }; table = replicate 64 0; memory = 9 ∷ [] }

-- all of the root, of so many bytes, for reading
abbrev pub passes : (length : ℕ) → Call
passes l = derive_call 0 0 l 4 0 []

-- what is given for the root of 8 bytes
abbrev pub passed : Name
passed = record { number = 1; tag = 59639 }

-- one byte at an offset, through it
abbrev pub read_passed : (offset : ℕ) → Call
read_passed o = access_call (moving reading) (token_for 0 passed + o) 0 no_shift (0 ∷ [])
