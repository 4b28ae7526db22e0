-- Execute-only: its checks, and what it leaves.
-- Assumes nothing.
use mathlib.Core.Path.{◌≡◌, refl, sym, ◌∙◌}
use mathlib.Core.Bool.{Bool, true, false, ◌&&◌, cond}
use mathlib.Core.List.{List, [], ◌∷◌}
use Prim.Native.Nat.{ℕ}
use native.Mathlib.Omega.{arith}
use lib.Dec.{eqb, leb}
use Rattle.tokens.specs.Permissions.{within, X}
use Rattle.tokens.specs.Token.{named}
use Rattle.layout.specs.declared.entry.Entry.{Entry}
use Rattle.tokens.specs.declared.token.Named.{Named}
use Rattle.checks.specs.Holds.{request_holds, settings_hold}
use Rattle.checks.specs.Reached.{live_verdict}
use Rattle.machine.specs.Issuing.{new_number}
use Rattle.machine.specs.Operations.{grant_derive, named_entry, number_of}
use Rattle.machine.specs.Parts.{at, State}
use Rattle.machine.specs.Requests.{execute_only}
use Rattle.machine.specs.Steps.{pass, stop, Verdict}
use Rattle.machine.specs.Stops.{at_right, encoding_fits, no_offset}
use Rattle.machine.proofs.Decided.{Passed}
use Rattle.rulings.specs.Allotments.{Limits}
use Rattle.rulings.specs.Rulings.{ended, front_on, inner_on, ruled, Ruling, tokens_on}
use Rattle.rulings.proofs.AllotLaws.{front-limits, request-limits, segment-inside}
use Rattle.rulings.proofs.RulingLaws.{front, front_inner, front-passed}
use Rattle.references.specs.Children.{Bearing, bearing_on, child_verdict}
use Rattle.references.proofs.ChildLaws.{child_bears}

module _ (m : ℕ) (s : State) (t : List ℕ) (k c : ℕ) where
  abbrev own : List Bool
  own = encoding_fits c ∷ no_offset k ∷ []

  -- place 1, with the token read as n
  pub execute_request : (n : Named) → n ≡ named k → (settings_hold m s t && leb c 3 && eqb n.offset 0) ≡ request_holds m s t (execute_only k c) []
  unfolding settings_hold request_holds
  execute_request n is = rw is

  -- and as its test says, with r for the settings
  pub execute_asked : (n : Named) (r b : Bool) → n ≡ named k → r ≡ settings_hold m s t → (r && leb c 3 && eqb n.offset 0) ≡ b → request_holds m s t (execute_only k c) [] ≡ b
  execute_asked n r b is held h = sym (execute_request n is) ∙ rw held at h

  pub execute_limits : request_holds m s t (execute_only k c) [] ≡ true → Limits s t
  execute_limits ok = request-limits m s t (execute_only k c) [] own refl ok

  pub execute_token : {v : Verdict} → live_verdict m t k ≡ v → tokens_on m s t (execute_only k c) [] ≡ v
  unfolding live_verdict tokens_on
  execute_token h = h

  -- the token is read as n, its entry as e, and b tells whether X is held
  module _ (n : Named) (e : Entry) (b : Bool) (is : n ≡ named k) (there : e ≡ at t n.number) (right : b ≡ within X e.permissions)
      (ok : request_holds m s t (execute_only k c) [] ≡ true) (l : live_verdict m t k ≡ pass) where
    whole : front_on m s t (execute_only k c) [] ≡ cond b (child_verdict s t e) (stop at_right)
    unfolding inner_on child_verdict
    whole = front_inner m s t (execute_only k c) [] ok (execute_token l) ∙ rw (right, there, is)

    pub execute_right : b ≡ false → front_on m s t (execute_only k c) [] ≡ stop at_right
    execute_right h = whole ∙ rw h

    pub execute_child : b ≡ true → front_on m s t (execute_only k c) [] ≡ child_verdict s t e
    execute_child h = whole ∙ rw h

  -- what a pass says
  pub execute_bears : front_on m s t (execute_only k c) [] ≡ pass → (new : ℕ) → new ≡ new_number s t → Bearing s t (number_of k) new 0 X c
  execute_bears h new found =
      let all : Passed (front m s t (execute_only k c) []) = front-passed m s t (execute_only k c) [] h in
      let i = segment-inside m t (number_of k) (search) (search) (search) (search) in
      child_bears s t k 0 X c new (front-limits m s t (execute_only k c) [] own refl h) (search) (search) (search) (search) (omega arith) (omega arith) found

-- the child is what is granted
pub execute_grants : (s : State) (t : List ℕ) (k c : ℕ) (n : Named) (e : Entry) (x : Ruling) → n ≡ named k → e ≡ at t n.number → x ≡ bearing_on s t n.number 0 e.length X c
    → x ≡ ruled (ended s t (grant_derive t (number_of k) 0 (named_entry t k).length X c))
unfolding bearing_on
execute_grants s t k c n e x is there h = rw is at (rw there at h)
