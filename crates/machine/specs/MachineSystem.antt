-- The machine's requests as a system: what demand 3 needs to know of them.
-- Assumes nothing.
use Rattle.std.specs.Prelude.{◌≡◌, List, ℕ}
use Rattle.tokens.specs.Token.{named}
use Rattle.machine.specs.Demand3.{Reset}
use Rattle.machine.specs.Operations.{number_of}
use Rattle.machine.specs.Parts.{State}
use Rattle.machine.specs.Requests.{Access, accessing, Call, Request, reset, revoke, Shift, task_of}
use Rattle.machine.specs.Steps.{Answer, answer, decision, Machine, step}
use Rattle.machine.specs.System.{Never, System}
use Rattle.machine.specs.Writes.{Name}

-- "Accepted means granted."
abbrev pub Accepted : Machine → Call → Type 0
Accepted σ q = (answer σ q).reply.refusal ≡ 0

pub data IsReset : Request → Type 0 where
  resets : {k0 k1 ν : ℕ} → IsReset (reset k0 k1 ν)

-- "a revoke naming the entry is a revoke of it"
pub data Revokes : Request → ℕ → Type 0 where
  revokes : {k c s : ℕ} → number_of k ≡ s → Revokes (revoke k c) s

-- an access through the token k, "to whatever task", loads and dumps among them ("Loads and dumps count as accesses": 02, paper 4): in any encoding, at any offset,
-- at any minute and with any leases
pub data Through : Request → Name → Type 0 where
  through : {w : Access} {token task : ℕ} {shift : Shift} {k : Name} → (named token).number ≡ k.number → (named token).tag ≡ k.tag → Through (accessing w token task shift) k

-- "A token is issued, and so given, when reset writes the root (number 0, tag 0) and when a granted answer carries it for an entry issued in that request": `issued`
abbrev pub of_machine : System
of_machine = record {
  Standing = Machine;
  Request = Call;
  Answer = Answer;
  step = step;
  answer = answer;
  Granted = Accepted;
  Other = State;
  other = λ σ. σ.state;
  table = λ σ. σ.table;
  memory = λ σ. σ.memory;
  Resets = λ σ q. IsReset q.request;
  Revokes = λ σ q s. Revokes q.request s;
  Carries = λ σ q t. task_of q.request ≡ t;
  Through = λ σ q k. Through q.request k;
  issued = λ σ q. (decision σ q).issued;
  Whole = λ σ. Unit {0};
  Sent = λ q. Unit {0};
}

-- ---- lists from reset on

-- "The first list begins with its one granted reset, over any table, memory, key and first nonce."
abbrev pub reset_call : (key0 key1 first_nonce : ℕ) → (buffer : List ℕ) → Call
reset_call k0 k1 ν b = record { request = reset k0 k1 ν; buffer = b }

-- none of the requests is a granted reset: a refused one changes nothing, and may stand anywhere
abbrev pub Unreset : Machine → List Call → Type 0
Unreset σ qs = Never of_machine (Reset of_machine) σ qs
