-- Drop: its checks, and what it leaves.
-- Assumes nothing.
use mathlib.Core.Path.{◌≡◌, refl, sym, ◌∙◌, ap}
use mathlib.Core.Bool.{Bool, true, false, not, ◌&&◌, cond}
use mathlib.Core.List.{List, [], ◌∷◌}
use Rattle.std.specs.Prelude.{Ok}
use Prim.Native.Nat.{ℕ, suc, ◌+◌, ◌*◌, ◌≤◌}
use lib.Dec.{eqb}
use lib.ListN.{length}
use borrow.Author.Tests.{ne_eqb}
use Rattle.bits.proofs.TestLaws.{both}
use Rattle.layout.specs.declared.entry.Entry.{Entry}
use Rattle.tokens.specs.Token.{named}
use Rattle.tokens.specs.declared.token.Named.{Named}
use Rattle.checks.specs.Holds.{request_holds, settings_hold}
use Rattle.checks.specs.Reached.{formed_verdict}
use Rattle.checks.proofs.ReachLaws.{formed_in}
use Rattle.machine.specs.Line.{is_locked, line_of}
use Rattle.machine.specs.Operations.{book, granted, grant_release, number_of}
use Rattle.machine.specs.Parts.{at, State}
use Rattle.machine.specs.Requests.{release}
use Rattle.machine.specs.Steps.{pass, stop, Verdict}
use Rattle.machine.specs.Stops.{at_standing, no_offset}
use Rattle.machine.specs.Writes.{opened, written}
use Rattle.machine.proofs.Choices.{by_both}
use Rattle.machine.proofs.WriteLaws.{calm_still, release_calm, Still}
use Rattle.table.specs.Left.{Left, left_by}
use Rattle.table.specs.States.{retotalled, state_as}
use Rattle.table.specs.declared.state.StateWords.{StateWords}
use Rattle.rulings.specs.Rulings.{granting, handed, plainly, Ruling, tokens_on, verdict_on}
use Rattle.rulings.specs.declared.reply.Granted.{Granted}
use Rattle.rulings.proofs.AllotLaws.{request-limits}
use Rattle.rulings.proofs.RulingLaws.{rest_alone, token-passes, tokens-passed}
use Rattle.climbs.specs.Climbs.{Climbed, climbed, leaving}

-- ---- the checks

module _ (m : ℕ) (s : State) (t : List ℕ) (k : ℕ) where
  -- place 1, with the token read as n
  pub drop-request : (n : Named) → n ≡ named k → (settings_hold m s t && eqb n.offset 0) ≡ request_holds m s t (release k) []
  unfolding settings_hold request_holds
  drop-request n is = rw is

  -- and as its test says, with r for the settings
  pub drop_asked : (n : Named) (r b : Bool) → n ≡ named k → r ≡ settings_hold m s t → (r && eqb n.offset 0) ≡ b → request_holds m s t (release k) [] ≡ b
  drop_asked n r b is held h = sym (drop-request n is) ∙ rw held at h

  pub drop_token : {v : Verdict} → formed_verdict m t k ≡ v → tokens_on m s t (release k) [] ≡ v
  unfolding formed_verdict tokens_on
  drop_token h = h

  -- the writes of a drop issue nothing
  still : Still (opened s t) (book s t (grant_release m t (number_of k)))
  still = calm_still 0 (opened s t) (grant_release m t (number_of k)).writes (release_calm m t (number_of k))

  -- the token's line is well-formed, and its entry is e
  module _ (n : Named) (is : n ≡ named k) (e : Entry) (there : e ≡ at t n.number) (ok : request_holds m s t (release k) [] ≡ true) (l : formed_verdict m t k ≡ pass) where
    counted : verdict_on m s t (release k) [] ≡ cond (not (eqb e.count 0)) pass (stop at_standing)
    counted =
        token-passes m s t (release k) [] ok (drop_token l)
        ∙ rest_alone m s t (release k) [] (ap (λ (x : State). x.next) still.state) (request-limits m s t (release k) [] (no_offset k ∷ []) refl ok).left
        ∙ rw (there, is)

    pub drop-count : e.count ≡ 0 → verdict_on m s t (release k) [] ≡ stop at_standing
    drop-count h = counted ∙ rw h

    pub drop-pass : (e.count ≡ 0 → ⊥) → verdict_on m s t (release k) [] ≡ pass
    drop-pass h = counted ∙ rw (ne_eqb e.count 0 h)

  -- what a pass says
  pub drop_in : verdict_on m s t (release k) [] ≡ pass → 32 * number_of k + 32 ≤ length t
  unfolding formed_verdict tokens_on
  drop_in h = formed_in m t k (tokens-passed m s t (release k) [] h)

-- ---- what is handed back, where the token is read as n, its entry as e, and its line's lock is b

module _ (m : ℕ) (s : StateWords) (t : List ℕ) (k : ℕ) (n : Named) (e : Entry) (b : Bool) (is : n ≡ named k) (there : e ≡ at t n.number) (lock : b ≡ is_locked t (line_of m t (number_of k))) where
  -- of what the climb left, with drop's number
  abbrev over : Left → (dropped : ℕ) → Ruling
  over l d = record { state = l.state; table = l.table; reply = granted l.tokens d 0 }

  ruling : granting m (state_as s) t (release k) []
      ≡ over (cond (eqb e.count 1 && b) (leaving (state_as s) s.total t) (climbed (state_as s) s.total (suc (at t n.number).nonce) t n.number)) (cond (eqb e.count 1 && not b) 1 0)
  unfolding granting climbed
  ruling =
      ap (λ (l : Left). over l (grant_release m t (number_of k)).dropped)
      (by_both (λ ws l. left_by (written 0 (opened (state_as s) t) ws) ≡ l) (eqb (at t (number_of k)).count 1 && is_locked t (line_of m t (number_of k))) (λ h. refl) (λ h. refl))
      ∙ rw (lock, there, is)

  pub drop-kept : (r : Granted) → (eqb e.count 1 && b) ≡ true → r ≡ plainly 0 → handed s t (Ok r) ≡ granting m (state_as s) t (release k) []
  drop-kept r h done = let h = both (eqb e.count 1) b h in rw done (sym (ruling ∙ rw (h.0, h.1)))

  -- the drop has climbed, at count 1 or above
  module _ (r : Granted) (k' : ℕ) (t' : List ℕ) (up : Climbed s.total t n.number k' t') (unlocked : (eqb e.count 1 && b) ≡ false) where
    pub drop_one : eqb e.count 1 ≡ true → r ≡ plainly 1 → handed (retotalled s k') t' (Ok r) ≡ granting m (state_as s) t (release k) []
    drop_one h done =
        let free : b ≡ false = rw h at unlocked in
        rw done (ap (λ (l : Left). over l 1) (up (state_as s)) ∙ sym (ruling ∙ rw (h, free)))

    pub drop_more : eqb e.count 1 ≡ false → r ≡ plainly 0 → handed (retotalled s k') t' (Ok r) ≡ granting m (state_as s) t (release k) []
    drop_more h done = rw done (ap (λ (l : Left). over l 0) (up (state_as s)) ∙ sym (ruling ∙ rw h))
