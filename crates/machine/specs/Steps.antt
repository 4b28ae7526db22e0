-- One request, a list of requests, and the answers of a list.
-- Assumes nothing.
use Rattle.std.specs.Prelude.{Bool, true, cond, List, [], ◌∷◌, ℕ, drop, length, take}
use Rattle.std.proofs.lemmas.List.Edits.{sets}
use Rattle.machine.specs.Operations.{carried, Decision, Effect, entire, Fill, front, Grant, grant, nothing, Reply, Store, unfilled}
use Rattle.machine.specs.Parts.{State}
use Rattle.machine.specs.Requests.{Call, Request}
use Rattle.machine.specs.Stops.{Check, checks, lastly, Refusal, refusal_bad, refusal_number}
use Rattle.machine.specs.System.{answers_by, run_by}

-- the first check that does not hold gives its refusal
pub data Verdict : Type 0 where
  pass : Verdict
  stop : Refusal → Verdict

abbrev pub verdict : List Check → Verdict
verdict [] = pass
verdict (c ∷ cs) = cond c.holds (verdict cs) (stop c.refusal)

-- "A refusal returns its number and zero for each token; table, memory, state and the caller's buffer keep their bytes."
abbrev pub turned_away : Refusal → Reply
turned_away r = record { refusal = refusal_number r; bad = refusal_bad r; tokens = []; dropped = 0; length = 0 }

abbrev pub refused : State → List ℕ → Refusal → Decision
refused s t r = record { state = s; table = t; reply = turned_away r; issued = []; effect = nothing }

abbrev pub settle : Verdict → State → List ℕ → Grant → Decision
settle pass s t g = carried s t g
settle (stop r) s t g = refused s t r

-- the decision on a request, where the memory has m bytes and the request brings the buffer b: no byte of memory is looked at, and all but 14 is decided
unfoldable pub decide : ℕ → State → List ℕ → Request → List ℕ → Decision
decide m s t q b = settle (verdict (checks m s t q b)) s t (grant m t q b)

-- ---- the last stage: a granted request makes what goes to the buffer's front, of the bytes of the range that it was granted

-- "Here and later, an answer that may be shorter than its buffer also tells its length in bytes."
abbrev pub told_length : Fill → (memory : List ℕ) → ℕ
told_length unfilled memory = 0
told_length (entire a n f) memory = 0
told_length (front a n f limit) memory = length (f (take n (drop a memory)))

-- what it makes keeps to its limit
abbrev pub limited : Fill → (memory : List ℕ) → Bool
limited unfilled memory = true
limited (entire a n f) memory = true
limited (front a n f limit) memory = limit (f (take n (drop a memory)))

abbrev pub telling : ℕ → Decision → Decision
telling n d = record {
  state = d.state;
  table = d.table;
  reply = record { refusal = d.reply.refusal; bad = d.reply.bad; tokens = d.reply.tokens; dropped = d.reply.dropped; length = n };
  issued = d.issued;
  effect = d.effect;
}

-- "14 [..], last of all": where what is made does not fit, the request is refused as a whole, and state and table are s and t as they were
abbrev pub concluded : Verdict → State → List ℕ → ℕ → Decision → Decision
concluded pass s t n d = telling n d
concluded (stop r) s t n d = refused s t r

abbrev pub finished : State → List ℕ → (memory buffer : List ℕ) → Decision → Decision
finished s t memory b d = concluded (verdict (lastly d.effect.fill memory b)) s t (told_length d.effect.fill memory) d

-- ---- memory and buffer

-- stores into memory, one after the other
abbrev pub stored : List Store → List ℕ → List ℕ
stored [] memory = memory
stored (w ∷ ws) memory = stored ws (sets memory w.start w.bytes)

abbrev pub filled : Fill → (memory buffer : List ℕ) → List ℕ
filled unfilled memory b = b
filled (entire a n f) memory b = f (take n (drop a memory))
filled (front a n f limit) memory b = sets b 0 (f (take n (drop a memory)))

-- an effect is carried out on memory and buffer
abbrev pub memory_after : Effect → List ℕ → List ℕ
memory_after f memory = stored f.stores memory

abbrev pub buffer_after : Effect → (memory buffer : List ℕ) → List ℕ
buffer_after f memory b = filled f.fill memory b

-- what stands between two requests
pub record Machine : Type 0 where
  pub state : State
  pub table : List ℕ
  pub memory : List ℕ

-- "An answer is all that a request hands back beside the state: refusal with its place, tokens, drop's number, every byte of its buffer." 02, paper 2: and the
-- length that it tells.
pub record Answer : Type 0 where
  pub reply : Reply
  pub buffer : List ℕ

-- what is decided without a look at memory, and with the last stage
abbrev pub blind : Machine → Call → Decision
blind σ q = decide (length σ.memory) σ.state σ.table q.request q.buffer

abbrev pub decision : Machine → Call → Decision
decision σ q = finished σ.state σ.table σ.memory q.buffer (blind σ q)

unfoldable pub step : Machine → Call → Machine
step σ q = record { state = (decision σ q).state; table = (decision σ q).table; memory = memory_after (decision σ q).effect σ.memory }

unfoldable pub answer : Machine → Call → Answer
answer σ q = record { reply = (decision σ q).reply; buffer = buffer_after (decision σ q).effect σ.memory q.buffer }

-- one request after the other
abbrev pub run : Machine → List Call → Machine
run σ qs = run_by step σ qs

abbrev pub answers : Machine → List Call → List Answer
answers σ qs = answers_by step answer σ qs
