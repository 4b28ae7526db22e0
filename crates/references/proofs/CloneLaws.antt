-- Clone: its checks, and what it leaves.
-- Assumes nothing.
use mathlib.Core.Path.{◌≡◌, refl, sym, ◌∙◌}
use mathlib.Core.Bool.{Bool, true, ◌&&◌, cond}
use mathlib.Core.List.{List, [], ◌∷◌}
use Rattle.std.specs.Prelude.{Ok}
use Prim.Native.Nat.{ℕ, ◌+◌, ◌*◌, ◌≤◌, ◌<◌}
use lib.Dec.{eqb, ltb}
use lib.ListN.{length}
use borrow.Author.Tests.{le-ltb, lt-ltb, ltb-true}
use Rattle.tokens.specs.Token.{named}
use Rattle.layout.specs.Entry.{recounted}
use Rattle.layout.specs.declared.entry.Entry.{Entry}
use Rattle.tokens.specs.declared.token.Named.{Named}
use Rattle.checks.specs.Holds.{request_holds, settings_hold}
use Rattle.checks.specs.Reached.{live_verdict}
use Rattle.checks.proofs.ReachLaws.{live_in}
use Rattle.machine.specs.Operations.{named_entry, number_of}
use Rattle.machine.specs.Parts.{at, put, State}
use Rattle.machine.specs.Requests.{clone}
use Rattle.machine.specs.Steps.{pass, stop}
use Rattle.machine.specs.Stops.{at_standing, checks, no_offset, Refusal}
use Rattle.machine.proofs.Decided.{Passed}
use Rattle.table.specs.States.{state_as}
use Rattle.table.specs.declared.state.StateWords.{StateWords}
use Rattle.rulings.specs.Rulings.{granting, handed, plainly, tokens_on, verdict_on}
use Rattle.rulings.specs.declared.reply.Granted.{Granted}
use Rattle.rulings.proofs.AllotLaws.{request-limits}
use Rattle.rulings.proofs.RulingLaws.{passed_on, rest_alone, token-passes, tokens-passed}

module _ (m : ℕ) (s : State) (t : List ℕ) (k : ℕ) where
  -- place 1, with the token read as n
  pub clone-request : (n : Named) → n ≡ named k → (settings_hold m s t && eqb n.offset 0) ≡ request_holds m s t (clone k) []
  unfolding settings_hold request_holds
  clone-request n is = rw is

  -- and as its test says, with r for the settings
  pub clone-asked : (n : Named) (r b : Bool) → n ≡ named k → r ≡ settings_hold m s t → (r && eqb n.offset 0) ≡ b → request_holds m s t (clone k) [] ≡ b
  clone-asked n r b is held h = sym (clone-request n is) ∙ rw held at h

  pub clone-token : {r : Refusal} → live_verdict m t k ≡ stop r → tokens_on m s t (clone k) [] ≡ stop r
  unfolding live_verdict tokens_on
  clone-token h = h

  -- the token is live, and its entry is e
  module _ (n : Named) (is : n ≡ named k) (e : Entry) (there : e ≡ at t n.number) (ok : request_holds m s t (clone k) [] ≡ true) (l : live_verdict m t k ≡ pass) where
    counted : verdict_on m s t (clone k) [] ≡ cond (ltb e.count 65535) pass (stop at_standing)
    unfolding live_verdict tokens_on
    counted =
        token-passes m s t (clone k) [] ok l
        ∙ rest_alone m s t (clone k) [] refl (request-limits m s t (clone k) [] (no_offset k ∷ []) refl ok).left
        ∙ rw (there, is)

    pub clone-count : 65535 ≤ e.count → verdict_on m s t (clone k) [] ≡ stop at_standing
    clone-count h = counted ∙ rw (le-ltb e.count 65535 h)

    pub clone-pass : e.count < 65535 → verdict_on m s t (clone k) [] ≡ pass
    clone-pass h = counted ∙ rw (lt-ltb e.count 65535 h)

  -- what a pass says
  module _ (h : verdict_on m s t (clone k) [] ≡ pass) where
    pub clone_in : 32 * number_of k + 32 ≤ length t
    unfolding live_verdict tokens_on
    clone_in = live_in m t k (tokens-passed m s t (clone k) [] h)

    pub clone-few : (named_entry t k).count < 65535
    clone-few = let all : Passed (checks m s t (clone k) []) = passed_on m s t (clone k) [] h in ltb-true _ _ (search)

-- what is handed back, where the token is read as n
pub clone-grants : (m : ℕ) (s : StateWords) (t : List ℕ) (k : ℕ) (n : Named) (i : ℕ) (r : Granted) (t' : List ℕ)
    → n ≡ named k → i ≡ (at t n.number).count → t' ≡ put t n.number (recounted (at t n.number) (i + 1)) → r ≡ plainly 0
    → handed s t' (Ok r) ≡ granting m (state_as s) t (clone k) []
unfolding granting
clone-grants m s t k n i r t' is there now done = rw (done, now, there, is)
