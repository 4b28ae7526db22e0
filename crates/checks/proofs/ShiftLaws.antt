-- An access's tokens between its leases' soundness, 16, and its window, 15: a law for each way out.
-- Assumes nothing.
use mathlib.Core.Path.{◌≡◌, refl, sym, ◌∙◌}
use mathlib.Core.Bool.{Bool, true, false, ◌&&◌}
use mathlib.Core.List.{List, [], ◌∷◌, ◌++◌}
use Prim.Native.Nat.{ℕ}
use Rattle.leases.specs.declared.lease.Window.TheVariants.{Closed, Open, Unsound}
use Rattle.leases.proofs.JudgeLaws.{judged-closed, judged_open, judged-unsound}
use Rattle.machine.specs.Requests.{Shift}
use Rattle.machine.specs.Steps.{pass, stop, Verdict, verdict}
use Rattle.machine.specs.Stops.{at_lease, at_window, Check, leases_sound, need, reachable, Refusal, window_open}
use Rattle.machine.proofs.Decided.{and_then, verdict_append}
use Rattle.checks.specs.Holds.{all_hold, and_hold}
use Rattle.checks.specs.Reached.{reach_verdict}
use Rattle.checks.specs.Shifts.{closed_verdict, judged_for, shift_verdict}
use Rattle.checks.proofs.VerdictLaws.{first_passes, first_stops, parts-pass}

-- facts in two parts hold if both parts do
pub hold_append : (bs cs : List Bool) → all_hold (bs ++ cs) ≡ (all_hold bs && all_hold cs)
hold_append bs cs = go true bs
  where
    with_all : (a : Bool) (cs : List Bool) → and_hold a cs ≡ (a && all_hold cs)
    with_all true cs = refl
    with_all false [] = refl
    with_all false (c ∷ cs) = with_all false cs

    go : (a : Bool) (bs : List Bool) → and_hold a (bs ++ cs) ≡ (and_hold a bs && all_hold cs)
    go a [] = with_all a cs
    go a (b ∷ bs) = go (a && b) bs

module _ (cs : List Check) (m : ℕ) (t : List ℕ) (k u : ℕ) (φ : Shift) where
  abbrev first : List Check
  first = cs ++ (leases_sound φ ∷ [])

  abbrev then : List Check
  then = reachable m t k u ++ (window_open φ k ∷ [])

  -- 12 and 13 stop it
  pub shift_text : {r : Refusal} → verdict cs ≡ stop r → shift_verdict cs m t k u φ ≡ stop r
  unfolding shift_verdict
  shift_text h = first_stops first then (first_stops cs (leases_sound φ ∷ []) h)

  -- one that passes has passed places 2 to 5
  pub shift_reached : shift_verdict cs m t k u φ ≡ pass → reach_verdict m t k u ≡ pass
  unfolding shift_verdict reach_verdict
  shift_reached h = (parts-pass (reachable m t k u) (window_open φ k ∷ []) (parts-pass first then h).1).0

  module _ (read : verdict cs ≡ pass) where
    -- a lease does
    pub shift_unsound : Unsound ≡ judged_for φ k → shift_verdict cs m t k u φ ≡ stop at_lease
    unfolding shift_verdict
    shift_unsound h = first_stops first then (first_passes cs (leases_sound φ ∷ []) read ∙ rw (judged-unsound _ _ _ _ h))

    module _ (sound : (leases_sound φ).holds ≡ true) where
      after : shift_verdict cs m t k u φ ≡ verdict then
      unfolding shift_verdict
      after = first_passes first then (first_passes cs (leases_sound φ ∷ []) read ∙ rw sound)

    -- they pass, and the rest is as without them
    pub shift_read : shift_verdict cs m t k u φ ≡ shift_verdict [] m t k u φ
    unfolding shift_verdict
    shift_read = verdict_append first then ∙ rw (first_passes cs (leases_sound φ ∷ []) read) (sym (verdict_append (leases_sound φ ∷ []) then))

    -- the token is closed, or open
    pub shift_closed : Closed ≡ judged_for φ k → shift_verdict cs m t k u φ ≡ closed_verdict m t k u
    unfolding closed_verdict
    shift_closed h = after (judged-closed _ _ _ _ h).0 ∙ rw (judged-closed _ _ _ _ h).1

    pub shift_open : Open ≡ judged_for φ k → shift_verdict cs m t k u φ ≡ reach_verdict m t k u
    unfolding reach_verdict
    shift_open h = after (judged_open _ _ _ _ h).0 ∙ rw (judged_open _ _ _ _ h).1 (verdict_append (reachable m t k u) (need at_window true ∷ []) ∙ same (verdict (reachable m t k u)))
      where
        same : (v : Verdict) → and_then v pass ≡ v
        same pass = refl
        same (stop r) = refl

-- places 2 to 5 of a closed token stop it, or 15 does
module _ (m : ℕ) (t : List ℕ) (k u : ℕ) where
  pub closed-stop : {r : Refusal} → reach_verdict m t k u ≡ stop r → closed_verdict m t k u ≡ stop r
  unfolding closed_verdict reach_verdict
  closed-stop h = first_stops (reachable m t k u) (need at_window false ∷ []) h

  pub closed-pass : reach_verdict m t k u ≡ pass → closed_verdict m t k u ≡ stop at_window
  unfolding closed_verdict reach_verdict
  closed-pass h = first_passes (reachable m t k u) (need at_window false ∷ []) h
