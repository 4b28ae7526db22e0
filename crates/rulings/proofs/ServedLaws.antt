-- A request is served by its verdict: what it then hands back and leaves is one step of the machine.
-- Assumes nothing.
use mathlib.Core.Path.{◌≡◌, refl, sym, ◌∙◌, ap, ap₂}
use mathlib.Core.Bool.{false}
use mathlib.Core.List.{List, [], ◌∷◌, ◌++◌}
use Prim.Native.Nat.{ℕ}
use Rattle.std.specs.Prelude.{Result, Err}
use lib.ListN.{length}
use Rattle.checks.specs.Refusals.{refusal_as, stop_as}
use Rattle.checks.specs.declared.refusal.Refusal as code
use Rattle.machine.specs.LastOfAll.{makes}
use Rattle.machine.specs.Operations.{carried, Decision, Effect, Grant, grant, nothing, unfilled}
use Rattle.machine.specs.Parts.{State}
use Rattle.machine.specs.Requests.{Request}
use Rattle.machine.specs.Steps.{answer, blind, buffer_after, decide, decision, finished, memory_after, pass, refused, settle, step, telling, told_length, Verdict, verdict}
use Rattle.machine.specs.Stops.{at_request, lastly, need_all, nonces_left, Places, places, sizes}
use Rattle.machine.proofs.LastOfAll.{last_of_all}
use Rattle.table.specs.States.{state_as}
use Rattle.table.specs.declared.state.StateWords.{StateWords}
use Rattle.rulings.specs.Rulings.{effect_on, handed, ruled, ruling_on, verdict_on}
use Rattle.rulings.specs.Served.{call_as, Served, ServedAlone, standing}
use Rattle.rulings.specs.declared.reply.Granted.{Granted}
use Rattle.rulings.proofs.RulingLaws.{by_effect}

-- ---- by the decision

module _ {q : Request} {s : StateWords} {t m b : List ℕ} {s' : StateWords} {t' m' b' : List ℕ} {r : Result Granted code.Refusal} where
  served_by : (d : Decision) → decision (standing s t m) (call_as q b) ≡ d → handed s' t' r ≡ ruled d → m' ≡ memory_after d.effect m → b' ≡ buffer_after d.effect m b
      → Served q s t m b s' t' m' b' r
  unfolding step answer
  served_by d e h g f = record {
    step = (λ i. record { state = (h i).state; table = (h i).table; memory = g i }) ∙ (λ i. record { state = (sym e i).state; table = (sym e i).table; memory = memory_after (sym e i).effect m });
    answer = (λ i. record { reply = (h i).reply; buffer = f i }) ∙ (λ i. record { reply = (sym e i).reply; buffer = buffer_after (sym e i).effect m b });
  }

  -- a request that makes nothing for the front of its buffer is served as it was decided
  pub served : makes q ≡ false → handed s' t' r ≡ ruling_on (length m) (state_as s) t q b → m' ≡ memory_after (effect_on (length m) (state_as s) t q b) m
      → b' ≡ buffer_after (effect_on (length m) (state_as s) t q b) m b
      → Served q s t m b s' t' m' b' r
  unfolding ruling_on effect_on
  served none h g f = served_by (blind (standing s t m) (call_as q b)) (last_of_all.others (standing s t m) (call_as q b) none) h g f

-- ---- by the verdict

by_verdict : (m : ℕ) (s : State) (t : List ℕ) (q : Request) (b : List ℕ) (v : Verdict) → verdict_on m s t q b ≡ v → decide m s t q b ≡ settle v s t (grant m t q b)
unfolding decide verdict_on
by_verdict m s t q b v h = ap (λ (v : Verdict). settle v s t (grant m t q b)) h

-- what is refused leaves all as it was
pub served-stop : {q : Request} {s : StateWords} {t m b : List ℕ} (why : code.Refusal) → verdict_on (length m) (state_as s) t q b ≡ stop_as why → Served q s t m b s t m b (Err why)
served-stop {q} {s} {t} {m} {b} why h =
    let d : blind (standing s t m) (call_as q b) ≡ refused (state_as s) t (refusal_as why) = by_verdict (length m) (state_as s) t q b (stop_as why) h in
    served_by (refused (state_as s) t (refusal_as why)) (ap (λ (d : Decision). finished (state_as s) t m b d) d) refl refl refl

-- ---- a request that makes something for the front of its buffer, where the checks let it through

through : (q : Request) (s : StateWords) (t m b : List ℕ) → verdict_on (length m) (state_as s) t q b ≡ pass
    → decision (standing s t m) (call_as q b) ≡ finished (state_as s) t m b (carried (state_as s) t (grant (length m) t q b))
through q s t m b h = ap (λ (d : Decision). finished (state_as s) t m b d) (by_verdict (length m) (state_as s) t q b pass h)

-- the last checks stop it
pub served_late : {q : Request} {s : StateWords} {t m b : List ℕ} (why : code.Refusal) → verdict_on (length m) (state_as s) t q b ≡ pass
    → verdict (lastly (grant (length m) t q b).effect.fill m b) ≡ stop_as why
    → Served q s t m b s t m b (Err why)
served_late {q} {s} {t} {m} {b} why h l = served_by (refused (state_as s) t (refusal_as why)) (through q s t m b h ∙ rw l) refl refl refl

-- or it is granted, and tells the length of what it made
pub served-made : {q : Request} {s : StateWords} {t m b : List ℕ} {s' : StateWords} {t' m' b' : List ℕ} {r : Result Granted code.Refusal} → verdict_on (length m) (state_as s) t q b ≡ pass
    → let g : Grant = grant (length m) t q b in
    verdict (lastly g.effect.fill m b) ≡ pass
    → handed s' t' r ≡ ruled (telling (told_length g.effect.fill m) (carried (state_as s) t g))
    → m' ≡ memory_after g.effect m
    → b' ≡ buffer_after g.effect m b
    → Served q s t m b s' t' m' b' r
served-made {q} {s} {t} {m} {b} h l e g f =
    let a : Grant = grant (length m) t q b in
    served_by (telling (told_length a.effect.fill m) (carried (state_as s) t a)) (through q s t m b h ∙ rw l) e g f

-- ---- a request that is lent no buffer

-- one whose checks and grant do not look at its buffer is decided without it
record Unread (m : ℕ) (s : State) (t : List ℕ) (q : Request) (b : List ℕ) : Type 0 where
  places : places m s t q b ≡ places m s t q []
  grant : grant m t q b ≡ grant m t q []

unread : (m : ℕ) (s : State) (t : List ℕ) (q : Request) (b : List ℕ) → Unread m s t q b → decide m s t q b ≡ decide m s t q []
unfolding decide
unread m s t q b h =
    ap₂ (λ (p : Places) (g : Grant). settle (verdict (need_all at_request (sizes m t ++ p.request) ++ ((p.after ++ p.tokens) ++ (p.rest ++ (nonces_left s t g ∷ []))))) s t g) h.places h.grant

module _ {q : Request} {s : StateWords} {t m : List ℕ} {s' : StateWords} {t' : List ℕ} {r : Result Granted code.Refusal} (none : makes q ≡ false) (places : (b : List ℕ) → places (length m) (state_as s) t q b ≡ places (length m) (state_as s) t q [])
    (grants : (b : List ℕ) → grant (length m) t q b ≡ grant (length m) t q []) where
  -- it is decided as if it brought none, and leaves the one that it brings
  pub served_alone : {m' : List ℕ} → (grant (length m) t q []).effect.fill ≡ unfilled → handed s' t' r ≡ ruling_on (length m) (state_as s) t q [] → m' ≡ memory_after (effect_on (length m) (state_as s) t q []) m → ServedAlone q s t m s' t' m' r
  unfolding ruling_on effect_on
  served_alone z h g b =
      let same : decide (length m) (state_as s) t q b ≡ decide (length m) (state_as s) t q [] = unread (length m) (state_as s) t q b (record { places = places b; grant = grants b }) in
      served none (h ∙ ap ruled (sym same)) (g ∙ ap (λ (d : Decision). memory_after d.effect m) (sym same))
      (by_effect (λ (f : Effect). b ≡ buffer_after f m b) (length m) (state_as s) t q b refl (left b))
    where
      left : (b : List ℕ) → b ≡ buffer_after (grant (length m) t q b).effect m b
      left b = rw (grants b, z) refl

  -- and one that has no effect leaves memory too
  pub served_quiet : (grant (length m) t q []).effect ≡ nothing → handed s' t' r ≡ ruling_on (length m) (state_as s) t q [] → ServedAlone q s t m s' t' m r
  served_quiet z h =
      served_alone (ap (λ (f : Effect). f.fill) z) h (by_effect (λ (f : Effect). m ≡ memory_after f m) (length m) (state_as s) t q [] refl (rw z refl))
