-- The verdict of a list of checks, part by part.
-- Assumes nothing.
use mathlib.Core.Path.{◌≡◌, refl, sym, ◌∙◌, ap}
use mathlib.Core.Bool.{Bool, true, false, ◌&&◌, cond}
use mathlib.Core.List.{List, [], ◌∷◌, ◌++◌}
use Prim.Native.Nat.{ℕ}
use native.Mathlib.Omega.{arith}
use Rattle.machine.specs.Steps.{pass, stop, Verdict, verdict}
use Rattle.machine.specs.Stops.{Check, need_all, Refusal}
use Rattle.machine.proofs.Decided.{AllTrue, and_then, needed, passed, verdict_append}
use Rattle.checks.specs.Holds.{all_hold, and_hold}

-- the first list decides, or lets the second decide
pub first_stops : (cs ds : List Check) {r : Refusal} → verdict cs ≡ stop r → verdict (cs ++ ds) ≡ stop r
first_stops cs ds h = verdict_append cs ds ∙ ap (λ v. and_then v (verdict ds)) h

pub first_passes : (cs ds : List Check) → verdict cs ≡ pass → verdict (cs ++ ds) ≡ verdict ds
first_passes cs ds h = verdict_append cs ds ∙ ap (λ v. and_then v (verdict ds)) h

-- facts with one refusal stop a request, or let it pass, as one
pub together : (r : Refusal) (bs : List Bool) → verdict (need_all r bs) ≡ cond (all_hold bs) pass (stop r)
together r bs = go true bs
  where
    go : (a : Bool) (bs : List Bool) → cond a (verdict (need_all r bs)) (stop r) ≡ cond (and_hold a bs) pass (stop r)
    go a [] = refl
    go a (b ∷ bs) = both a b ∙ go (a && b) bs
      where
        both : (a b : Bool) → cond a (cond b (verdict (need_all r bs)) (stop r)) (stop r) ≡ cond (a && b) (verdict (need_all r bs)) (stop r)
        both true b = refl
        both false b = refl

pub all_stop : (r : Refusal) (bs : List Bool) → all_hold bs ≡ false → verdict (need_all r bs) ≡ stop r
all_stop r bs h = together r bs ∙ ap (λ b. cond b pass (stop r)) h

pub all_pass : (r : Refusal) (bs : List Bool) → all_hold bs ≡ true → verdict (need_all r bs) ≡ pass
all_pass r bs h = together r bs ∙ ap (λ b. cond b pass (stop r)) h

-- and hold each
pub all_true : (r : Refusal) (bs : List Bool) → all_hold bs ≡ true → AllTrue bs
all_true r bs h = needed r bs (passed (need_all r bs) (all_pass r bs h))

pub all_hold_lem : (bs : List Bool) → AllTrue bs → all_hold bs ≡ true
all_hold_lem [] h = refl
all_hold_lem (b ∷ bs) h = rw h.0 (all_hold_lem bs h.1)

-- a list that passes passes in each part
and_then-pass : (v w : Verdict) → and_then v w ≡ pass → (v ≡ pass) × (w ≡ pass)
and_then-pass pass w h = (refl, h)
and_then-pass (stop r) w h = let z : ◌≡◌ {A = ℕ} 0 1 = cc in absurd (omega arith)

pub parts-pass : (cs ds : List Check) → verdict (cs ++ ds) ≡ pass → (verdict cs ≡ pass) × (verdict ds ≡ pass)
parts-pass cs ds h = and_then-pass (verdict cs) (verdict ds) (sym (verdict_append cs ds) ∙ h)
