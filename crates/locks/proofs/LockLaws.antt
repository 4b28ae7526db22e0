-- Lock and unlock: their checks, and what they leave.
-- Assumes nothing.
use mathlib.Core.Path.{◌≡◌, refl, sym, ◌∙◌}
use mathlib.Core.Bool.{Bool, true, false, not, ◌&&◌, cond}
use mathlib.Core.List.{List, [], ◌∷◌, ◌++◌}
use Prim.Native.Nat.{ℕ, ◌^◌, ◌<◌}
use Rattle.std.specs.Prelude.{Ok}
use lib.Dec.{eqb, ltb}
use borrow.Author.Tests.{ltb-true}
use Rattle.tokens.specs.Token.{named}
use Rattle.layout.specs.Entry.{relocked}
use Rattle.layout.specs.declared.entry.Entry.{Entry}
use Rattle.tokens.specs.declared.token.Named.{Named}
use Rattle.checks.specs.Holds.{request_holds, settings_hold}
use Rattle.checks.specs.Reached.{reach_verdict}
use Rattle.checks.proofs.VerdictLaws.{all_pass, all_stop, first_passes, first_stops}
use Rattle.machine.specs.Line.{line_of, owner}
use Rattle.machine.specs.Operations.{number_of}
use Rattle.machine.specs.Parts.{at, put, State}
use Rattle.machine.specs.Requests.{lock, unlock}
use Rattle.machine.specs.Steps.{pass, stop}
use Rattle.machine.specs.Stops.{at_request, at_right, at_standing, need_all, no_offset, reachable, settings, sizes, some_task, task_fits}
use Rattle.machine.proofs.Decided.{AllTrue}
use Rattle.table.specs.States.{state_as}
use Rattle.table.specs.declared.state.StateWords.{StateWords}
use Rattle.rulings.specs.Rulings.{first_on, granting, handed, plainly, Ruling, verdict_on}
use Rattle.rulings.specs.declared.reply.Granted.{Granted}
use Rattle.rulings.proofs.AllotLaws.{request-limits}
use Rattle.rulings.proofs.RulingLaws.{first_pass, first_request, pass-true, rest_alone}
use Rattle.locks.specs.Locks.{relocking}

module _ (m : ℕ) (s : State) (t : List ℕ) (k u : ℕ) where
  abbrev own : List Bool
  own = task_fits u ∷ some_task u ∷ no_offset k ∷ []

  abbrev facts : List Bool
  facts = sizes m t ++ (settings s t ++ own)

  -- place 1, with the token read as n
  pub lock-request : (n : Named) → n ≡ named k → (settings_hold m s t && ltb u (2 ^ 55) && not (eqb u 0) && eqb n.offset 0) ≡ request_holds m s t (lock k u) []
  unfolding settings_hold request_holds
  lock-request n is = rw is

  -- and as its test says, with r for the settings
  pub lock_asked : (n : Named) (r b : Bool) → n ≡ named k → r ≡ settings_hold m s t → (r && ltb u (2 ^ 55) && not (eqb u 0) && eqb n.offset 0) ≡ b → request_holds m s t (lock k u) [] ≡ b
  lock_asked n r b is held h = sym (lock-request n is) ∙ rw held at h

  -- it stops both, or the token decides
  pub lock-stop : request_holds m s t (lock k u) [] ≡ false → first_on m s t (lock k u) [] ≡ stop at_request
  unfolding first_on request_holds
  lock-stop h = first_stops (need_all at_request facts) (reachable m t k u) (all_stop at_request facts h)

  pub lock-token : request_holds m s t (lock k u) [] ≡ true → first_on m s t (lock k u) [] ≡ reach_verdict m t k u
  unfolding first_on request_holds reach_verdict
  lock-token h = first_passes (need_all at_request facts) (reachable m t k u) (all_pass at_request facts h)

  -- places 1 to 5 are the same for both
  pub unlock_first : first_on m s t (unlock k u) [] ≡ first_on m s t (lock k u) []
  unfolding first_on
  unlock_first = refl

  -- the last check, where the owner is o and its entry is read as e
  module _ (o : ℕ) (line : line_of m t (number_of k) ≡ owner o) (e : Entry) (is : e ≡ at t o) (h : first_on m s t (lock k u) [] ≡ pass) where
    pub lock_last : verdict_on m s t (lock k u) [] ≡ cond e.lockable pass (stop at_right)
    lock_last =
        first_pass m s t (lock k u) [] h
        ∙ rest_alone m s t (lock k u) [] refl (request-limits m s t (lock k u) [] own refl (first_request m s t (lock k u) [] h)).left
        ∙ rw (line, is)

    pub unlock_last : verdict_on m s t (unlock k u) [] ≡ cond e.locked pass (stop at_standing)
    unlock_last =
        let i = unlock_first ∙ h in
        first_pass m s t (unlock k u) [] i
        ∙ rest_alone m s t (unlock k u) [] refl (request-limits m s t (unlock k u) [] own refl (first_request m s t (unlock k u) [] i)).left
        ∙ rw (line, is)

  -- what a pass says of the task that locks
  pub lock-task : verdict_on m s t (lock k u) [] ≡ pass → u < 2 ^ 55
  lock-task h = let all : AllTrue facts = pass-true m s t (lock k u) [] h in ltb-true u (2 ^ 55) (search)

  -- what is granted, where the owner is o
  module _ (o : ℕ) (line : line_of m t (number_of k) ≡ owner o) where
    pub lock-grants : (x : Ruling) → x ≡ relocking s t o true u → x ≡ granting m s t (lock k u) []
    unfolding granting relocking
    lock-grants x h = h ∙ rw line

    pub unlock-grants : (x : Ruling) → x ≡ relocking s t o false 0 → x ≡ granting m s t (unlock k u) []
    unfolding granting relocking
    unlock-grants x h = h ∙ rw line

-- what is handed back, where the owner's entry is read as e
pub relock_left : (s : StateWords) (t : List ℕ) (o : ℕ) (locked : Bool) (h : ℕ) (e : Entry) (r : Granted) (t' : List ℕ)
    → e ≡ at t o → t' ≡ put t o (relocked e locked h) → r ≡ plainly 0 → handed s t' (Ok r) ≡ relocking (state_as s) t o locked h
unfolding relocking
relock_left s t o locked h e r t' there now done = rw (done, now, there)
