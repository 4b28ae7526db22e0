-- The three demands (00) of the exported functions: what any list of calls of `northbridge_serve` and `northbridge_serve_leased` leaves and hands back, byte
-- by byte. The caller keeps state, table and memory, and hands each call what the last one left; a call brings request, buffer, answer and, by the second
-- function, leases, of any bytes and any lengths. A call that is broken or names no operation is a refused request like others.
-- Assumes nothing.
use Rattle.std.specs.Prelude.{◌≡◌, ◌≢◌, cond, List, [], ◌∷◌, ◌++◌, ℕ, eqb, length, take}
use Rattle.bits.specs.Bytes.{AllBytes}
use Rattle.bits.specs.SipHash.{word}
use Rattle.machine.specs.Demand3 as claim
use Rattle.machine.specs.Given.{name_in}
use Rattle.machine.specs.MachineSystem.{IsReset, Revokes, Through}
use Rattle.machine.specs.Refusals.{Told}
use Rattle.machine.specs.Requests.{Call, Request, task_of}
use Rattle.machine.specs.Steps as steps
use Rattle.machine.specs.Steps.{Machine, run, step}
use Rattle.machine.specs.System as systems
use Rattle.machine.specs.System.{System}
use Rattle.machine.specs.Writes.{Name}
use Rattle.interface.specs.Exported.{answer_size, Asked, asked, Exported, exported, known, Lent, served, state_of, state_size, unknown, word_bytes}

-- ---- calls

-- what stands between two calls
pub record Standing : Type 0 where
  pub state : List ℕ
  pub table : List ℕ
  pub memory : List ℕ

-- what a call brings
pub record Brought : Type 0 where
  pub request : List ℕ
  pub buffer : List ℕ
  pub answer : List ℕ
  pub lent : Lent

-- what it hands back beside what stands
pub record Back : Type 0 where
  pub result : ℕ
  pub buffer : List ℕ
  pub answer : List ℕ

abbrev pub call : Standing → Brought → Exported
call κ q = exported q.request κ.state κ.table κ.memory q.buffer q.answer q.lent

-- what a call left standing, and what it handed back
abbrev pub left_by : Exported → Standing
left_by x = record { state = x.state; table = x.table; memory = x.memory }

abbrev pub back_by : Exported → Back
back_by x = record { result = x.result; buffer = x.buffer; answer = x.answer }

abbrev pub next : Standing → Brought → Standing
next κ q = left_by (call κ q)

abbrev pub back : Standing → Brought → Back
back κ q = back_by (call κ q)

-- what a call asks
abbrev pub asks : Standing → Brought → Asked
asks κ q = asked q.request κ.state q.answer q.lent

-- the machine that stands, and the request that a call asks with the buffer that it brings
abbrev pub machine : Standing → Machine
machine κ = record { state = state_of κ.state; table = κ.table; memory = κ.memory }

abbrev pub call_of : Request → Brought → Call
call_of r q = record { request = r; buffer = q.buffer }

-- ---- calls as a system

-- the call asks a request of which P holds
pub record Asks (P : Request → Type 0) (κ : Standing) (q : Brought) : Type 0 where
  pub request : Request
  pub asked : asks κ q ≡ known request
  pub such : P request

-- The tokens that a granted call gives: those in the words 2 and 3 of the answer, as many as the machine's answer has; and operation 0, reset, gives the
-- root's (number 0, tag 0).
abbrev pub root_in : (request : List ℕ) → List Name
root_in q = cond (eqb (word q 0) 0) (record { number = 0; tag = 0 } ∷ []) []

abbrev pub tokens_in : (answer : List ℕ) → ℕ → List Name
tokens_in a n = take n (name_in (word a 2) ∷ name_in (word a 3) ∷ [])

abbrev pub given_by : Standing → Brought → Asked → List Name
given_by κ q (known r) = cond (eqb (call κ q).result 0) (root_in q.request ++ tokens_in (call κ q).answer (length (steps.answer (machine κ) (call_of r q)).reply.tokens)) []
given_by κ q unknown = []

abbrev pub gives : Standing → Brought → List Name
gives κ q = given_by κ q (asks κ q)

-- Of what stands at first and of a call all that is asked is that a slice holds bytes.
abbrev pub of_calls : System
of_calls = record {
  Standing = Standing;
  Request = Brought;
  Answer = Back;
  step = next;
  answer = back;
  Granted = λ κ q. (call κ q).result ≡ 0;
  Other = List ℕ;
  other = λ κ. κ.state;
  table = λ κ. κ.table;
  memory = λ κ. κ.memory;
  Resets = Asks IsReset;
  Revokes = λ κ q s. Asks (λ r. Revokes r s) κ q;
  Carries = λ κ q t. Asks (λ r. task_of r ≡ t) κ q;
  Through = λ κ q k. Asks (λ r. Through r k) κ q;
  issued = gives;
  Whole = λ κ. AllBytes κ.state;
  Sent = λ q. AllBytes q.request;
}

-- one call after the other
abbrev pub after : Standing → List Brought → Standing
after κ qs = systems.run of_calls κ qs

abbrev pub Bytes : List Brought → Type 0
Bytes qs = systems.AllSent of_calls qs

-- ---- demand 1: "A refused request returns one of the numbered refusals and changes no byte and no counter." The rest of it is the functions themselves: they
-- ask for nothing, and they return.

-- one of the numbers, and every byte of an answer that has its size: the number, which entry was bad, and zeros
pub record Refusal (brought : List ℕ) (result : ℕ) (answer : List ℕ) : Type 0 where
  pub place : ℕ
  pub told : Told result place
  pub bytes : length brought ≡ answer_size → answer ≡ word_bytes (result ∷ place ∷ 0 ∷ 0 ∷ 0 ∷ 0 ∷ [])

-- of a call over κ that brought q, and came to x
pub record Safe (κ : Standing) (q : Brought) (x : Exported) : Type 0 where
  pub same : x.result ≢ 0 → left_by x ≡ κ
  pub buffer : x.result ≢ 0 → x.buffer ≡ q.buffer
  pub answer : x.result ≢ 0 → Refusal q.answer x.result x.answer
  -- an answer of another size keeps its bytes
  pub unsized : length q.answer ≢ answer_size → x.answer ≡ q.answer

unfoldable pub Demand1 : Type 0
Demand1 = (κ : Standing) → AllBytes κ.state → (q : Brought) → Safe κ q (call κ q)

-- ---- demand 2: "Every answer, table byte, memory byte and counter equals what the published Northcape operations say, as document 01 fixes them". A list of
-- calls is the list of the requests that they ask, from one machine on: nothing is lost in the state's bytes. (That what is packed unpacks again is
-- said where it is packed, in `tokens` and `layout`.)

-- the requests that a list of calls asks, one after the other
abbrev pub joined : Asked → Brought → List Call → List Call
joined (known r) q cs = call_of r q ∷ cs
joined unknown q cs = cs

abbrev pub requested : Standing → List Brought → List Call
requested κ [] = []
requested κ (q ∷ qs) = joined (asks κ q) q (requested (next κ q) qs)

-- after the calls qs the machine is as their requests leave it, and a call that asks r is its step and its answer
pub record Meant (κ : Standing) (qs : List Brought) : Type 0 where
  pub left : machine (after κ qs) ≡ run (machine κ) (requested κ qs)
  pub called :
      (q : Brought) (r : Request) → asks (after κ qs) q ≡ known r
      → let σ : Machine = run (machine κ) (requested κ qs) in
      call (after κ qs) q ≡ served (step σ (call_of r q)) (steps.answer σ (call_of r q))

unfoldable pub Demand2 : Type 0
Demand2 = (κ : Standing) → length κ.state ≡ state_size → AllBytes κ.state → (qs : List Brought) → Bytes qs → Meant κ qs

-- ---- demand 3: the one claim, of calls

unfoldable pub Demand3 : Type 0
Demand3 = claim.Demand3 of_calls
