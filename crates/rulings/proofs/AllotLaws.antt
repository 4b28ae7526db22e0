-- A new number: the ways out of the search for it, and what sizes and settings say.
-- Assumes nothing.
use mathlib.Core.Path.{◌≡◌, refl}
use mathlib.Core.Bool.{Bool, true, false, not}
use mathlib.Core.List.{List, [], ◌∷◌, ◌++◌}
use Rattle.std.specs.Option.{ok_or}
use Prim.Native.Nat.{ℕ, ◌+◌, ◌*◌, ◌/◌, ◌%◌, ◌≤◌, ◌<◌}
use native.Mathlib.Omega.{arith}
use lib.Dec.{eqb, leb}
use lib.ListN.{length}
use borrow.Author.Tests.{eqb-false, eqb-true, leb-true, ltb-true, not-true}
use Rattle.checks.specs.Holds.{request_holds}
use Rattle.checks.specs.declared.refusal.Refusal.TheVariants.{Numbers}
use Rattle.numbers.specs.Searches.{given}
use Rattle.checks.proofs.ReachLaws.{reached_inside}
use Rattle.machine.specs.Issuing.{new_number}
use Rattle.machine.specs.Line.{is_ill, is_paged, line_of}
use Rattle.machine.specs.Parts.{at, most_memory, size, State}
use Rattle.machine.specs.Requests.{Request}
use Rattle.machine.specs.Steps.{pass, verdict}
use Rattle.machine.specs.Stops.{number_left, places, settings, sizes}
use Rattle.machine.proofs.Decided.{AllTrue, true_join, true-split}
use Rattle.machine.proofs.Fuel.{number_first}
use Rattle.rulings.specs.Allotments.{Allots, allot_verdict, Limits}
use Rattle.rulings.specs.Rulings.{front_on}
use Rattle.rulings.proofs.RulingLaws.{front-true, request-true}

-- a number that is found passes, and with none it stops
pub allots : (s : State) (t : List ℕ) → Allots s t (ok_or (given (new_number s t)) Numbers) (allot_verdict s t)
unfolding allot_verdict
allots s t = go (eqb (new_number s t) 0) refl
  where
    go : (b : Bool) → eqb (new_number s t) 0 ≡ b → Allots s t (ok_or (given (new_number s t)) Numbers) (verdict (number_left s t ∷ []))
    go true q = rw q refl
    go false q = rw q (refl, refl)

-- where sizes and settings hold
module _ (m : ℕ) (s : State) (t : List ℕ) (h : AllTrue (sizes m t ++ settings s t)) where
  pub limits : Limits s t
  unfolding size
  limits =
      let whole : length t % 32 ≡ 0 = eqb-true _ _ h.1.1.0 in
      let least : 2 ≤ length t / 32 = leb-true _ _ h.1.1.1.0 in
      let most : length t / 32 ≤ 1024 = leb-true _ _ h.1.1.1.1.0 in
      record { least = omega arith; most = omega arith; inside = ltb-true _ _ h.1.1.1.1.1.0; left = leb-true _ _ h.1.1.1.1.1.1.1.0 }

-- and whatever else a request is judged for, as far as it got
module _ (m : ℕ) (s : State) (t : List ℕ) (q : Request) (b : List ℕ) (own : List Bool) (is : (places m s t q b).request ≡ settings s t ++ own) where
  set-limits : AllTrue (sizes m t ++ (places m s t q b).request) → Limits s t
  set-limits h =
      let all : AllTrue (sizes m t ++ (settings s t ++ own)) = rw is at h in
      let both = true-split (sizes m t) (settings s t ++ own) all in
      limits m s t (true_join (sizes m t) (settings s t) both.0 (true-split (settings s t) own both.1).0)

  pub request-limits : request_holds m s t q b ≡ true → Limits s t
  request-limits h = set-limits (request-true m s t q b h)

  pub front-limits : front_on m s t q b ≡ pass → Limits s t
  front-limits h = set-limits (front-true m s t q b h)

-- an entry that is there and not ill-formed lies in memory
pub segment-inside : (m : ℕ) (t : List ℕ) (n : ℕ) → leb m most_memory ≡ true → not (eqb (at t n).kind 0) ≡ true → not (is_paged (at t n)) ≡ true → not (is_ill (line_of m t n)) ≡ true → (at t n).base + (at t n).length ≤ most_memory
segment-inside m t n h full here formed = omega (arith, leb-true m most_memory h, reached_inside m t n full here formed)

-- a number that is found stands in the table
pub new_in : (s : State) (t : List ℕ) → Limits s t → not (eqb (new_number s t) 0) ≡ true → (32 * new_number s t + 32 ≤ length t) × (new_number s t < 1024)
unfolding size
new_in s t h some =
    let i : new_number s t < length t / 32 = (number_first s t (eqb-false _ _ (not-true _ some))).inside in
    (omega (arith, h.most), omega (arith, h.most))
