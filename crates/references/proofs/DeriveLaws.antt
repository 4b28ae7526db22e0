-- Derive: its checks, and what it leaves.
-- Assumes nothing.
use mathlib.Core.Path.{◌≡◌, refl, sym, ◌∙◌}
use mathlib.Core.Bool.{Bool, true, false, not, ◌&&◌, cond}
use mathlib.Core.List.{List, [], ◌∷◌, ◌++◌}
use Prim.Native.Nat.{ℕ, ◌+◌, ◌^◌, ◌≤◌, ◌<◌}
use native.Mathlib.Omega.{arith}
use lib.Dec.{eqb, leb}
use borrow.Author.Tests.{leb-true, not-false, not-true}
use Rattle.tokens.specs.Permissions.{within}
use Rattle.tokens.specs.Token.{named}
use Rattle.layout.specs.declared.entry.Entry.{Entry}
use Rattle.tokens.specs.declared.token.Named.{Named}
use Rattle.checks.specs.Holds.{request_holds, settings_hold}
use Rattle.checks.specs.Reached.{live_verdict}
use Rattle.machine.specs.Issuing.{new_number}
use Rattle.machine.specs.Operations.{grant_derive, number_of}
use Rattle.machine.specs.Parts.{at, most_memory, State}
use Rattle.machine.specs.Requests.{derive}
use Rattle.machine.specs.Steps.{pass, stop, Verdict}
use Rattle.machine.specs.Stops.{at_bounds, at_right, encoding_fits, no_offset, permissions_fit, settings, sizes, some_length}
use Rattle.machine.proofs.Decided.{AllTrue, Passed}
use Rattle.rulings.specs.Allotments.{Limits}
use Rattle.rulings.specs.Rulings.{ended, front_on, inner_on, ruled, Ruling, tokens_on}
use Rattle.rulings.proofs.AllotLaws.{front-limits, request-limits, segment-inside}
use Rattle.rulings.proofs.RulingLaws.{front, front-passed, request-true}
use Rattle.references.specs.Children.{Bearing, bearing_on, child_verdict}
use Rattle.references.proofs.ChildLaws.{child_bears}

module _ (m : ℕ) (s : State) (t : List ℕ) (k o l p c : ℕ) where
  -- place 1, with the token read as n
  pub derive-request : (n : Named) → n ≡ named k → (settings_hold m s t && leb c 3 && leb p 7 && not (eqb l 0) && eqb n.offset 0) ≡ request_holds m s t (derive k o l p c) []
  unfolding settings_hold request_holds
  derive-request n is = rw is

  -- and as its test says, with r for the settings
  pub derive-asked : (n : Named) (r b : Bool) → n ≡ named k → r ≡ settings_hold m s t → (r && leb c 3 && leb p 7 && not (eqb l 0) && eqb n.offset 0) ≡ b → request_holds m s t (derive k o l p c) [] ≡ b
  derive-asked n r b is held h = sym (derive-request n is) ∙ rw held at h

  abbrev own : List Bool
  own = encoding_fits c ∷ permissions_fit p ∷ some_length l ∷ no_offset k ∷ []

  pub derive-limits : request_holds m s t (derive k o l p c) [] ≡ true → Limits s t × (p ≤ 7)
  derive-limits ok =
      let all : AllTrue (sizes m t ++ (settings s t ++ own)) = request-true m s t (derive k o l p c) [] ok in
      (request-limits m s t (derive k o l p c) [] own refl ok, leb-true p 7 (search))

  pub derive-token : {v : Verdict} → live_verdict m t k ≡ v → tokens_on m s t (derive k o l p c) [] ≡ v
  unfolding live_verdict tokens_on
  derive-token h = h

  -- places 7 and 8, where the token is read as n, its entry as e, and b tells whether the rights are held
  module _ (n : Named) (e : Entry) (b : Bool) (is : n ≡ named k) (there : e ≡ at t n.number) (right : b ≡ within p e.permissions) where
    part_of : inner_on m s t (derive k o l p c) [] ≡ cond b (cond (leb (l + o) e.length) (child_verdict s t e) (stop at_bounds)) (stop at_right)
    unfolding inner_on child_verdict
    part_of = rw (right, there, is)

    pub part_right : not b ≡ true → inner_on m s t (derive k o l p c) [] ≡ stop at_right
    part_right h = part_of ∙ rw (not-true b h)

    module _ (a : Bool) (fits : a ≡ leb (l + o) e.length) (held : not b ≡ false) where
      pub part-bounds : not a ≡ true → inner_on m s t (derive k o l p c) [] ≡ stop at_bounds
      part-bounds h = part_of ∙ rw (not-false b held, ← fits, not-true a h)

      pub part-child : not a ≡ false → inner_on m s t (derive k o l p c) [] ≡ child_verdict s t e
      part-child h = part_of ∙ rw (not-false b held, ← fits, not-false a h)

  -- what a pass says
  module _ (h : front_on m s t (derive k o l p c) [] ≡ pass) where
    all : Passed (front m s t (derive k o l p c) [])
    all = front-passed m s t (derive k o l p c) [] h

    sum : l + o ≤ (at t (number_of k)).length
    sum = let a : Passed (front m s t (derive k o l p c) []) = all in leb-true _ _ (search)

    inside : (at t (number_of k)).base + (at t (number_of k)).length ≤ most_memory
    inside = let a : Passed (front m s t (derive k o l p c) []) = all in segment-inside m t (number_of k) (search) (search) (search) (search)

    pub derive-short : (l < 2 ^ 32) × ((o < 2 ^ 32) × (p < 8))
    derive-short = let a : Passed (front m s t (derive k o l p c) []) = all in (omega (arith, inside, sum), (omega (arith, inside, sum), omega (arith, leb-true p 7 (search))))

    pub derive_bears : (new : ℕ) → new ≡ new_number s t → Bearing s t (number_of k) new o p c
    derive_bears new found =
        let a : Passed (front m s t (derive k o l p c) []) = all in
        child_bears s t k o p c new (front-limits m s t (derive k o l p c) [] own refl h) (search) (search) (search) (search) (omega (arith, inside, sum)) derive-short.1.1 found

-- the child is what is granted
pub derive-grants : (s : State) (t : List ℕ) (k o l p c : ℕ) (n : Named) (x : Ruling) → n ≡ named k → x ≡ bearing_on s t n.number o l p c → x ≡ ruled (ended s t (grant_derive t (number_of k) o l p c))
unfolding bearing_on
derive-grants s t k o l p c n x is h = rw is at h
