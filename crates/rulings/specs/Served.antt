-- What an operation leaves: one relation, which every operation's contract is an instance of.
-- Assumes nothing.
use Rattle.std.specs.Prelude.{◌≡◌, List, Result, ℕ}
use Rattle.machine.specs.Requests.{Call, Request}
use Rattle.machine.specs.Steps as machine
use Rattle.machine.specs.Steps.{Answer, Machine}
use Rattle.table.specs.States.{state_as}
use Rattle.table.specs.declared.state.StateWords.{StateWords}
use Rattle.rulings.specs.Rulings.{reply_as}
use Rattle.rulings.specs.declared.reply.Granted.{Granted}
use Rattle.checks.specs.declared.refusal.Refusal.{Refusal}

-- a request with the buffer that it brings
abbrev pub call_as : Request → List ℕ → Call
call_as q b = record { request = q; buffer = b }

-- what stands before a request, and after one that was served
abbrev pub standing : StateWords → (table memory : List ℕ) → Machine
standing s t m = record { state = state_as s; table = t; memory = m }

-- what it answers, with the buffer that comes back
abbrev pub answered : Result Granted Refusal → List ℕ → Answer
answered r b = record { reply = reply_as r; buffer = b }

-- The request q was served: from the state s, the table t, the memory m and the buffer b it left the state s', the table t', the memory m' and the buffer b', and
-- handed back r. That is one step of the machine, and its answer.
pub record Served (q : Request) (s : StateWords) (t m b : List ℕ) (s' : StateWords) (t' m' b' : List ℕ) (r : Result Granted Refusal) : Type 0 where
  pub step : standing s' t' m' ≡ machine.step (standing s t m) (call_as q b)
  pub answer : answered r b' ≡ machine.answer (standing s t m) (call_as q b)

-- a request that is lent no buffer is served so with any, which it leaves
abbrev pub ServedAlone : Request → StateWords → (t m : List ℕ) → StateWords → (t' m' : List ℕ) → Result Granted Refusal → Type 0
ServedAlone q s t m s' t' m' r = (b : List ℕ) → Served q s t m b s' t' m' b r
