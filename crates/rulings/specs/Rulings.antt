-- What an operation hands back, in the machine's terms.
-- Assumes nothing.
use Rattle.std.specs.Prelude.{List, [], ◌∷◌, ◌++◌, Result, Ok, Err, ℕ}
use Rattle.checks.specs.Refusals.{refusal_as}
use Rattle.checks.specs.declared.refusal.Refusal.{Refusal}
use Rattle.machine.specs.Operations as machine
use Rattle.machine.specs.Operations.{carried, Decision, Effect, Grant, grant, granted}
use Rattle.machine.specs.Parts.{State}
use Rattle.machine.specs.Requests.{Request}
use Rattle.machine.specs.Steps.{decide, settle, turned_away, Verdict, verdict}
use Rattle.machine.specs.Stops.{at_request, checks, need_all, nonces_left, places, sizes}
use Rattle.table.specs.States.{state_as}
use Rattle.table.specs.declared.state.StateWords.{StateWords}
use Rattle.rulings.specs.declared.reply.Granted.{Granted}
use Rattle.rulings.specs.declared.reply.Granted.TheVariants.{Filled, Given}
use Rattle.rulings.specs.declared.reply.Tokens.{Tokens}
use Rattle.rulings.specs.declared.reply.Tokens.TheVariants.{None, One, Two}

-- ---- replies

abbrev pub tokens_as : Tokens → List ℕ
tokens_as None = []
tokens_as (One a) = a ∷ []
tokens_as (Two a b) = a ∷ b ∷ []

abbrev pub reply_as : Result Granted Refusal → machine.Reply
reply_as (Ok (Given ks d)) = granted (tokens_as ks) d 0
reply_as (Ok (Filled n)) = granted [] 0 n
reply_as (Err why) = turned_away (refusal_as why)

-- a grant that gives no token, and those that give one and two, as the code hands them back
abbrev pub plainly : ℕ → Granted
plainly d = Given None d

abbrev pub giving_one : ℕ → Granted
giving_one a = Given (One a) 0

abbrev pub giving_two : ℕ → ℕ → Granted
giving_two a b = Given (Two a b) 0

-- and one that fills so much of the buffer
abbrev pub filling_so : ℕ → Granted
filling_so n = Filled n

-- ---- verdicts

-- on a request; on its places 1 to 5; on its tokens, places 2 to 5 with what 02 puts before and behind them; and on what is left then, places 6 to 11
unfoldable pub verdict_on : ℕ → State → List ℕ → Request → List ℕ → Verdict
verdict_on m s t q b = verdict (checks m s t q b)

unfoldable pub first_on : ℕ → State → List ℕ → Request → List ℕ → Verdict
first_on m s t q b = let p = places m s t q b in verdict (need_all at_request (sizes m t ++ p.request) ++ (p.after ++ p.tokens))

unfoldable pub tokens_on : ℕ → State → List ℕ → Request → List ℕ → Verdict
tokens_on m s t q b = let p = places m s t q b in verdict (p.after ++ p.tokens)

unfoldable pub rest_on : ℕ → State → List ℕ → Request → List ℕ → Verdict
rest_on m s t q b = verdict ((places m s t q b).rest ++ (nonces_left s t (grant m t q b) ∷ []))

-- 11 comes last, and goes by what is to be issued: the verdict on all places before it, and on those of them behind the tokens
unfoldable pub front_on : ℕ → State → List ℕ → Request → List ℕ → Verdict
front_on m s t q b = let p = places m s t q b in verdict (need_all at_request (sizes m t ++ p.request) ++ ((p.after ++ p.tokens) ++ p.rest))

unfoldable pub inner_on : ℕ → State → List ℕ → Request → List ℕ → Verdict
inner_on m s t q b = verdict (places m s t q b).rest

-- ---- rulings

-- what a decision hands back at once: the state, the table and the reply
pub record Ruling : Type 0 where
  pub state : State
  pub table : List ℕ
  pub reply : machine.Reply

abbrev pub ruled : Decision → Ruling
ruled d = record { state = d.state; table = d.table; reply = d.reply }

-- what place 11 makes of a grant, where all others let it through
unfoldable pub ended : State → List ℕ → Grant → Decision
ended s t g = settle (verdict (nonces_left s t g ∷ [])) s t g

-- of a grant, and of a request
unfoldable pub granting : ℕ → State → List ℕ → Request → List ℕ → Ruling
granting m s t q b = ruled (carried s t (grant m t q b))

unfoldable pub ruling_on : ℕ → State → List ℕ → Request → List ℕ → Ruling
ruling_on m s t q b = ruled (decide m s t q b)

-- what a grant, and a decision, do to memory and buffer
unfoldable pub granted_effect : ℕ → List ℕ → Request → List ℕ → Effect
granted_effect m t q b = (grant m t q b).effect

unfoldable pub effect_on : ℕ → State → List ℕ → Request → List ℕ → Effect
effect_on m s t q b = (decide m s t q b).effect

-- what the code hands back, with the state and the table that it leaves
abbrev pub handed : StateWords → List ℕ → Result Granted Refusal → Ruling
handed s t r = record { state = state_as s; table = t; reply = reply_as r }
