-- Revoke: the ways out of its checks, and what it leaves.
-- Assumes nothing.
use mathlib.Core.Path.{◌≡◌, refl, sym, ap, ◌∙◌}
use mathlib.Core.Bool.{Bool, true, ◌&&◌, cond}
use mathlib.Core.List.{List, [], ◌∷◌}
use Rattle.std.specs.Prelude.{Ok, Err}
use Prim.Native.Nat.{ℕ, ◌+◌, ◌/◌, ◌≤◌, ◌<◌}
use native.Mathlib.Omega.{arith}
use lib.Dec.{eqb, leb}
use lib.ListN.{length, replicate}
use lib.Seq.{sets}
use borrow.Author.Tests.{eq-eqb, leb-true, ltb-true, ne_eqb}
use Rattle.layout.specs.Entry.{dated, laid_direct}
use Rattle.tokens.specs.Token.{named}
use Rattle.layout.specs.declared.entry.Entry.{Entry}
use Rattle.tokens.specs.declared.token.Named.{Named}
use Rattle.checks.specs.Holds.{request_holds, settings_hold}
use Rattle.checks.specs.Reached.{live_verdict}
use Rattle.checks.specs.declared.refusal.Refusal.TheVariants.{Nonces}
use Rattle.checks.proofs.ReachLaws.{reached_inside}
use Rattle.machine.specs.Issuing.{other_nonce}
use Rattle.machine.specs.Operations.{book, fresh, Grant, grant_revoke, named_entry, number_of}
use Rattle.machine.specs.Parts.{at, size, spent, State}
use Rattle.machine.specs.Requests.{revoke}
use Rattle.machine.specs.Steps.{memory_after, pass, stop, Verdict}
use Rattle.machine.specs.Stops.{at_kind}
use Rattle.machine.specs.Writes.{opened, reissue, write}
use Rattle.machine.proofs.Decided.{Passed}
use Rattle.table.specs.Left.{left_as, left_by}
use Rattle.table.specs.States.{state_as}
use Rattle.entering.specs.Nonces.{Finds, Issuable}
use Rattle.entering.specs.declared.nonces.Found.{Found}
use Rattle.table.specs.declared.state.StateWords.{StateWords}
use Rattle.rulings.specs.Rulings.{ended, front_on, giving_one, handed, inner_on, ruled, tokens_on}
use Rattle.rulings.specs.declared.reply.Granted.{Granted}
use Rattle.rulings.proofs.RulingLaws.{front, front_inner, front-passed, left_effect, left_ruled, spent-effect, spent-ruled}
use Rattle.segments.proofs.SegmentLaws.{leaving}

-- ---- all places

module _ (m : ℕ) (s : State) (t : List ℕ) (k c : ℕ) where
  -- place 1, with the token read as n, as the code's test says
  pub revoke-request : (n : Named) → n ≡ named k → (settings_hold m s t && leb c 3 && eqb n.offset 0) ≡ request_holds m s t (revoke k c) []
  unfolding settings_hold request_holds
  revoke-request n is = rw is

  pub revoke-asked : (n : Named) {set b : Bool} → n ≡ named k → set ≡ settings_hold m s t → (set && leb c 3 && eqb n.offset 0) ≡ b → request_holds m s t (revoke k c) [] ≡ b
  revoke-asked n is setting h = sym (revoke-request n is) ∙ rw setting at h

  pub revoke-token : {v : Verdict} → live_verdict m t k ≡ v → tokens_on m s t (revoke k c) [] ≡ v
  unfolding live_verdict tokens_on
  revoke-token h = h

  -- place 6, where the token is read as n, and its entry as e
  module _ (n : Named) (e : Entry) (is : n ≡ named k) (there : e ≡ at t n.number) (ok : request_holds m s t (revoke k c) [] ≡ true) (live : live_verdict m t k ≡ pass) where
    inner : front_on m s t (revoke k c) [] ≡ cond (eqb e.kind 1) pass (stop at_kind)
    unfolding inner_on
    inner = front_inner m s t (revoke k c) [] ok (revoke-token live) ∙ rw (there, is)

    pub revoke-direct : e.kind ≡ 1 → front_on m s t (revoke k c) [] ≡ pass
    revoke-direct h = inner ∙ rw (eq-eqb e.kind 1 h)

    pub revoke_kind : (e.kind ≡ 1 → ⊥) → front_on m s t (revoke k c) [] ≡ stop at_kind
    revoke_kind h = inner ∙ rw (ne_eqb e.kind 1 h)

-- ---- what a pass says

pub record Revocable (m : ℕ) (s : State) (t : List ℕ) (k c : ℕ) : Type 0 where
  pub segment : (named_entry t k).base + (named_entry t k).length ≤ m
  pub issuable : Issuable t (number_of k) (fresh (named_entry t k) 0)
  pub small : number_of k < 1024
  pub encoded : c ≤ 3
  pub next : s.next ≤ spent

pub revocable : (m : ℕ) (s : State) (t : List ℕ) (k c : ℕ) → front_on m s t (revoke k c) [] ≡ pass → Revocable m s t k c
unfolding size
revocable m s t k c h =
    let all : Passed (front m s t (revoke k c) []) = front-passed m s t (revoke k c) [] h in
    let i : number_of k < length t / 32 = ltb-true _ _ (search) in
    let most : length t / 32 ≤ 1024 = leb-true _ _ (search) in
    record {
      segment = reached_inside m t (number_of k) (search) (search) (search);
      issuable = record { inside = omega arith; laid = laid_direct refl };
      small = omega arith;
      encoded = leb-true c 3 (search);
      next = leb-true s.next spent (search);
    }

-- ---- what is handed back, where the token is read as n, its entry as e, and f is issued anew

module _ (s : StateWords) (t : List ℕ) (k c : ℕ) (n : Named) (e f : Entry) (is : n ≡ named k) (there : e ≡ at t n.number) (anew : f ≡ fresh e 0) where
  abbrev g : Grant
  g = grant_revoke t (number_of k) c

  next : (book (state_as s) t g).state.next ≡ other_nonce (state_as s) t n.number (dated f) + 1
  next = rw (anew, there, is)

  -- no nonce is left for it
  module _ (none : other_nonce (state_as s) t n.number (dated f) ≡ spent) where
    pub revoke-spent : handed s t (Err Nonces) ≡ ruled (ended (state_as s) t g)
    revoke-spent = spent-ruled s t g (omega (arith, next, none))

    pub revoke_stays : (memory : List ℕ) → memory ≡ memory_after (ended (state_as s) t g).effect memory
    revoke_stays memory = rw (spent-effect (state_as s) t g (omega (arith, next, none)))

  -- or one is found
  module _ (new : Found) (found : Finds (state_as s) t n.number f new) where
    left : (book (state_as s) t g).state.next ≤ spent
    left = omega (arith, next, found.nonce, found.left)

    pub revoke-grants : (s' : StateWords) (t' : List ℕ) (i : ℕ) (r : Granted)
        → left_as s' t' (i ∷ []) ≡ left_by (write c (opened (state_as s) t) (reissue n.number (dated f))) → r ≡ giving_one i
        → handed s' t' (Ok r) ≡ ruled (ended (state_as s) t g)
    revoke-grants s' t' i r gave done = left_ruled (state_as s) t g left _ (rw done (ap leaving gave ∙ rw (anew, there, is)))

    pub revoke_clears : (memory memory' : List ℕ) → memory' ≡ sets memory e.base (replicate e.length 0) → memory' ≡ memory_after (ended (state_as s) t g).effect memory
    revoke_clears memory memory' cleared = cleared ∙ rw (left_effect (state_as s) t g left, there, is)
