-- A request is decided by its verdict, and its verdict by the parts of its checks.
-- Assumes nothing.
use mathlib.Core.Path.{◌≡◌, refl, sym, ◌∙◌, ap}
use mathlib.Core.Bool.{Bool, true, false}
use mathlib.Core.List.{List, [], ◌∷◌, ◌++◌, append_assoc}
use Prim.Native.Nat.{ℕ, ◌≤◌, ◌<◌}
use Rattle.std.specs.Prelude.{Result, Ok, Err}
use borrow.Author.Tests.{le-leb, lt-leb}
use Rattle.checks.specs.Holds.{request_holds}
use Rattle.checks.specs.Refusals.{checked_as, stop_as}
use Rattle.checks.specs.declared.refusal.Refusal as code
use Rattle.checks.specs.declared.refusal.Refusal.TheVariants.{Nonces}
use Rattle.checks.proofs.VerdictLaws.{all_hold_lem, all_pass, all_stop, all_true, first_passes, first_stops, parts-pass}
use Rattle.machine.specs.Operations.{book, carried, Decision, Effect, Grant, grant, nothing}
use Rattle.machine.specs.Parts.{spent, State}
use Rattle.machine.specs.Requests.{Request}
use Rattle.machine.specs.Steps.{decide, pass, refused, settle, stop, Verdict, verdict}
use Rattle.machine.specs.Stops.{at_nonces, at_request, Check, checks, need_all, nonces_left, Places, places, Refusal, sizes}
use Rattle.machine.proofs.Decided.{AllTrue, and_then, needed, Passed, passed, passed-split, verdict_append}
use Rattle.table.specs.States.{state_as}
use Rattle.table.specs.declared.state.StateWords.{StateWords}
use Rattle.rulings.specs.Rulings.{effect_on, ended, first_on, front_on, granted_effect, granting, handed, inner_on, rest_on, ruled, Ruling, ruling_on, tokens_on, verdict_on}

-- ---- what the code's checks come to

module _ {v : Verdict} (r : Result Unit code.Refusal) (is : checked_as r ≡ v) where
  pub told-stop : (why : code.Refusal) → r ≡ Err why → v ≡ stop_as why
  told-stop why h = sym is ∙ ap checked_as h

  pub told-pass : (z : Unit) → r ≡ Ok z → v ≡ pass
  told-pass z h = sym is ∙ ap checked_as h

-- ---- the verdict on a request, part by part

module _ (m : ℕ) (s : State) (t : List ℕ) (q : Request) (b : List ℕ) where
  abbrev p : Places
  p = places m s t q b

  abbrev facts : List Bool
  facts = sizes m t ++ p.request

  abbrev token_checks : List Check
  token_checks = p.after ++ p.tokens

  abbrev left : List Check
  left = p.rest ++ (nonces_left s t (grant m t q b) ∷ [])

  -- place 1 stops it
  pub request-stops : request_holds m s t q b ≡ false → verdict_on m s t q b ≡ stop at_request
  unfolding verdict_on request_holds
  request-stops h = first_stops (need_all at_request facts) (token_checks ++ left) (all_stop at_request facts h)

  module _ (ok : request_holds m s t q b ≡ true) where
    after : verdict_on m s t q b ≡ verdict (token_checks ++ left)
    unfolding verdict_on request_holds
    after = first_passes (need_all at_request facts) (token_checks ++ left) (all_pass at_request facts ok)

    -- a token stops it
    pub token-stops : {r : Refusal} → tokens_on m s t q b ≡ stop r → verdict_on m s t q b ≡ stop r
    unfolding tokens_on
    token-stops h = after ∙ first_stops token_checks left h

    -- or the rest decides
    pub token-passes : tokens_on m s t q b ≡ pass → verdict_on m s t q b ≡ rest_on m s t q b
    unfolding tokens_on rest_on
    token-passes h = after ∙ first_passes token_checks left h

  -- places 1 to 5 at once
  in_order_lem : verdict_on m s t q b ≡ verdict ((need_all at_request facts ++ token_checks) ++ left)
  unfolding verdict_on
  in_order_lem = ap verdict (sym (append_assoc (need_all at_request facts) token_checks left))

  pub first_stop : {r : Refusal} → first_on m s t q b ≡ stop r → verdict_on m s t q b ≡ stop r
  unfolding first_on
  first_stop h = in_order_lem ∙ first_stops (need_all at_request facts ++ token_checks) left h

  pub first_pass : first_on m s t q b ≡ pass → verdict_on m s t q b ≡ rest_on m s t q b
  unfolding first_on rest_on
  first_pass h = in_order_lem ∙ first_passes (need_all at_request facts ++ token_checks) left h

  pub first_request : first_on m s t q b ≡ pass → request_holds m s t q b ≡ true
  unfolding first_on request_holds
  first_request h = all_hold_lem facts (needed at_request facts (passed (need_all at_request facts) (parts-pass (need_all at_request facts) token_checks h).0))

  pub request-true : request_holds m s t q b ≡ true → AllTrue (sizes m t ++ p.request)
  unfolding request_holds
  request-true h = all_true at_request facts h

  -- one whose writes leave the next nonce is not stopped by place 11
  pub rest_alone : (book s t (grant m t q b)).state.next ≡ s.next → s.next ≤ spent → rest_on m s t q b ≡ verdict p.rest
  unfolding rest_on
  rest_alone e h = verdict_append p.rest (nonces_left s t (grant m t q b) ∷ []) ∙ rw (e, le-leb s.next spent h) (same (verdict p.rest))
    where
      same : (v : Verdict) → and_then v pass ≡ v
      same pass = refl
      same (stop r) = refl

  -- ---- all places but 11

  abbrev pub front : List Check
  front = need_all at_request facts ++ (token_checks ++ p.rest)

  -- place 1 stops it
  pub front-request : request_holds m s t q b ≡ false → front_on m s t q b ≡ stop at_request
  unfolding front_on request_holds
  front-request h = first_stops (need_all at_request facts) (token_checks ++ p.rest) (all_stop at_request facts h)

  module _ (ok : request_holds m s t q b ≡ true) where
    front_after : front_on m s t q b ≡ verdict (token_checks ++ p.rest)
    unfolding front_on request_holds
    front_after = first_passes (need_all at_request facts) (token_checks ++ p.rest) (all_pass at_request facts ok)

    -- a token stops it, or the rest decides
    pub front-token : {r : Refusal} → tokens_on m s t q b ≡ stop r → front_on m s t q b ≡ stop r
    unfolding tokens_on
    front-token h = front_after ∙ first_stops token_checks p.rest h

    pub front_inner : tokens_on m s t q b ≡ pass → front_on m s t q b ≡ inner_on m s t q b
    unfolding tokens_on inner_on
    front_inner h = front_after ∙ first_passes token_checks p.rest h

  -- one that passes has every check hold
  pub front-passed : front_on m s t q b ≡ pass → Passed front
  unfolding front_on
  front-passed h = passed front h

  pub front-true : front_on m s t q b ≡ pass → AllTrue (sizes m t ++ p.request)
  front-true h = needed at_request facts (passed-split (need_all at_request facts) (token_checks ++ p.rest) (front-passed h)).0

  pub front-tokens : front_on m s t q b ≡ pass → tokens_on m s t q b ≡ pass
  unfolding front_on tokens_on
  front-tokens h = (parts-pass token_checks p.rest (parts-pass (need_all at_request facts) (token_checks ++ p.rest) h).1).0

  -- and then 11
  front_then : verdict_on m s t q b ≡ and_then (front_on m s t q b) (verdict (nonces_left s t (grant m t q b) ∷ []))
  unfolding verdict_on front_on
  front_then =
      ap verdict (ap (λ (cs : List Check). need_all at_request facts ++ cs) (sym (append_assoc token_checks p.rest _)) ∙ sym (append_assoc (need_all at_request facts) (token_checks ++ p.rest) _))
      ∙ verdict_append front (nonces_left s t (grant m t q b) ∷ [])

  pub front-stop : {r : Refusal} → front_on m s t q b ≡ stop r → verdict_on m s t q b ≡ stop r
  front-stop h = front_then ∙ rw h

  -- one that passes has every check hold
  pub passed_on : verdict_on m s t q b ≡ pass → Passed (checks m s t q b)
  unfolding verdict_on
  passed_on h = passed (checks m s t q b) h

  pub pass-true : verdict_on m s t q b ≡ pass → AllTrue (sizes m t ++ p.request)
  pass-true h = needed at_request facts (passed-split (need_all at_request facts) (token_checks ++ left) (passed_on h)).0

  pub tokens-passed : verdict_on m s t q b ≡ pass → tokens_on m s t q b ≡ pass
  unfolding verdict_on tokens_on
  tokens-passed h = (parts-pass token_checks left (parts-pass (need_all at_request facts) (token_checks ++ left) h).1).0

  -- ---- what the code's checks come to

  module _ (r : Result Unit code.Refusal) (is : checked_as r ≡ verdict_on m s t q b) where
    pub verdict-stop : (why : code.Refusal) → r ≡ Err why → verdict_on m s t q b ≡ stop_as why
    verdict-stop why h = told-stop r is why h

    pub verdict-pass : (z : Unit) → r ≡ Ok z → verdict_on m s t q b ≡ pass
    verdict-pass z h = told-pass r is z h

  -- ---- the decision

  by_verdict : (v : Verdict) → verdict_on m s t q b ≡ v → ruling_on m s t q b ≡ ruled (settle v s t (grant m t q b))
  unfolding ruling_on decide verdict_on
  by_verdict v h = ap (λ (v : Verdict). ruled (settle v s t (grant m t q b))) h

  pub decided-pass : (x : Ruling) → x ≡ granting m s t q b → verdict_on m s t q b ≡ pass → x ≡ ruling_on m s t q b
  unfolding granting
  decided-pass x e h = e ∙ sym (by_verdict pass h)

  -- one that passes all places but 11
  module _ (h : front_on m s t q b ≡ pass) where
    by_nonces : decide m s t q b ≡ ended s t (grant m t q b)
    unfolding decide ended verdict_on
    by_nonces =
        let last : verdict_on m s t q b ≡ verdict (nonces_left s t (grant m t q b) ∷ []) = front_then ∙ rw h in
        ap (λ (v : Verdict). settle v s t (grant m t q b)) last

    pub front-decided : (x : Ruling) → x ≡ ruled (ended s t (grant m t q b)) → x ≡ ruling_on m s t q b
    unfolding ruling_on
    front-decided x e = e ∙ ap ruled (sym by_nonces)

    pub front-effect : effect_on m s t q b ≡ (ended s t (grant m t q b)).effect
    unfolding effect_on
    front-effect = ap (λ (d : Decision). d.effect) by_nonces

  -- the effect of a request that is refused, and of one that is granted
  pub effect-stop : {r : Refusal} → verdict_on m s t q b ≡ stop r → effect_on m s t q b ≡ nothing
  unfolding effect_on decide verdict_on
  effect-stop h = ap (λ (v : Verdict). (settle v s t (grant m t q b)).effect) h

  pub effect-pass : verdict_on m s t q b ≡ pass → effect_on m s t q b ≡ granted_effect m t q b
  unfolding effect_on decide verdict_on granted_effect
  effect-pass h = ap (λ (v : Verdict). (settle v s t (grant m t q b)).effect) h

-- what holds of no effect, and of the effect of a grant, holds of the effect of a request
pub by_effect : (P : Effect → Type 0) (m : ℕ) (s : State) (t : List ℕ) (q : Request) (b : List ℕ) → P nothing → P (grant m t q b).effect → P (effect_on m s t q b)
unfolding effect_on decide
by_effect P m s t q b n g = go (verdict (checks m s t q b))
  where
    go : (v : Verdict) → P (settle v s t (grant m t q b)).effect
    go pass = g
    go (stop r) = n

-- ---- 11

module _ (s : State) (t : List ℕ) (g : Grant) where
  ended_left : (book s t g).state.next ≤ spent → ended s t g ≡ carried s t g
  unfolding ended
  ended_left h = rw (le-leb (book s t g).state.next spent h)

  ended-spent : spent < (book s t g).state.next → ended s t g ≡ refused s t at_nonces
  unfolding ended
  ended-spent h = rw (lt-leb (book s t g).state.next spent h)

  -- enough nonces are left
  pub left_ruled : (book s t g).state.next ≤ spent → (x : Ruling) → x ≡ ruled (carried s t g) → x ≡ ruled (ended s t g)
  left_ruled h x e = e ∙ ap ruled (sym (ended_left h))

  pub left_effect : (book s t g).state.next ≤ spent → (ended s t g).effect ≡ g.effect
  left_effect h = ap (λ (d : Decision). d.effect) (ended_left h)

  -- too few are
  pub spent-effect : spent < (book s t g).state.next → (ended s t g).effect ≡ nothing
  spent-effect h = ap (λ (d : Decision). d.effect) (ended-spent h)

pub spent-ruled : (s : StateWords) (t : List ℕ) (g : Grant) → spent < (book (state_as s) t g).state.next → handed s t (Err Nonces) ≡ ruled (ended (state_as s) t g)
spent-ruled s t g h = ap ruled (sym (ended-spent (state_as s) t g h))

pub decided-stop : (m : ℕ) (s : StateWords) (t : List ℕ) (q : Request) (b : List ℕ) (why : code.Refusal) → verdict_on m (state_as s) t q b ≡ stop_as why
    → handed s t (Err why) ≡ ruling_on m (state_as s) t q b
decided-stop m s t q b why h = sym (by_verdict m (state_as s) t q b (stop_as why) h)
