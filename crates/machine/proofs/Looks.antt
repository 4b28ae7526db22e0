-- Requests that only look change nothing, and are answered without memory.
-- Assumes nothing.
use mathlib.Core.Path.{◌≡◌, refl, ◌∙◌}
use mathlib.Core.Bool.{true}
use mathlib.Core.List.{List, []}
use Prim.Native.Nat.{ℕ}
use lib.ListN.{length}
use Rattle.machine.specs.Looks.{look_call, OnlyLooks}
use Rattle.machine.specs.Operations.{carried, Decision, exactly, fill_with, grant_look, Known, shown, up_to}
use Rattle.machine.specs.Parts.{State}
use Rattle.machine.specs.Requests.{Look, look}
use Rattle.machine.specs.Steps.{Answer, answer, buffer_after, concluded, decide, finished, Machine, pass, step, stop, Verdict, verdict}
use Rattle.machine.specs.Stops.{room}
use Rattle.machine.proofs.Decided.{away, by_decision, taken, Turned, turned}

still : (σ : Machine) (v : Look) (b : List ℕ) → step σ (look_call v b) ≡ σ
unfolding step
still σ v b = go (turned σ (look_call v b))
  where
    go : Turned σ (look_call v b) → step σ (look_call v b) ≡ σ
    go (taken a p e) = rw e
    go (away r e n) = rw e

-- the answer by a decision, over a memory
abbrev answer_by : State → List ℕ → (memory buffer : List ℕ) → Decision → Answer
answer_by s t memory b d = let x = finished s t memory b d in record { reply = x.reply; buffer = buffer_after x.effect memory b }

-- where what is brought is known, it is one over any memory
known_same : (s : State) (t : List ℕ) (o : Known) (m m' b : List ℕ) (r : Decision)
    → let d : Decision = record { state = r.state; table = r.table; reply = r.reply; issued = r.issued; effect = record { stores = []; fill = fill_with o } } in
    answer_by s t m b d ≡ answer_by s t m' b d
known_same s t (exactly bs) m m' b r = refl
known_same s t (up_to bs) m m' b r = by (verdict (room (λ made. true) bs b))
  where
    d : Decision
    d = record { state = r.state; table = r.table; reply = r.reply; issued = r.issued; effect = record { stores = []; fill = fill_with (up_to bs) } }

    by : (v : Verdict) → let x = concluded v s t (length bs) d in ◌≡◌ {A = Answer} (record { reply = x.reply; buffer = buffer_after x.effect m b }) (record { reply = x.reply; buffer = buffer_after x.effect m' b })
    by pass = refl
    by (stop r) = refl

blind : (σ τ : Machine) (v : Look) (b : List ℕ) → σ.state ≡ τ.state → σ.table ≡ τ.table → length σ.memory ≡ length τ.memory → answer σ (look_call v b) ≡ answer τ (look_call v b)
unfolding answer
blind σ τ v b es et el =
    by_decision (λ (d : Decision). answer_by s t σ.memory b d ≡ answer_by s t τ.memory b d) (length σ.memory) s t (look v) b
    (λ p. known_same s t (shown (length σ.memory) t v) σ.memory τ.memory b (carried s t (grant_look (length σ.memory) t v)))
    (λ r. refl)
    ∙ (λ i. answer_by (es i) (et i) τ.memory b (decide (el i) (es i) (et i) (look v) b))
  where
    s : State
    s = σ.state

    t : List ℕ
    t = σ.table

pub only_looks : OnlyLooks
only_looks = record { still = still; blind = blind }
