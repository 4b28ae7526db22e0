-- What the operations on segments share.
-- Assumes nothing.
use mathlib.Core.Path.{◌≡◌, refl, ap, ◌∙◌, subst}
use mathlib.Core.Bool.{Bool, true, false, ◌&&◌, cond}
use mathlib.Core.List.{List}
use Rattle.std.specs.Prelude.{Option, Some, None, Result, Ok, Err}
use Rattle.std.specs.Option.{ok_or}
use Prim.Native.Nat.{ℕ, ◌+◌, ◌*◌, ◌≤◌}
use native.Mathlib.Omega.{arith}
use lib.ListN.{length}
use Rattle.layout.specs.declared.entry.Entry.{Entry}
use Rattle.machine.specs.Operations.{granted}
use Rattle.machine.specs.Parts.{most_free, State, totalled}
use Rattle.machine.specs.Steps.{Verdict}
use Rattle.machine.specs.Writes.{one_more, opened, reissue, vacated, write}
use Rattle.machine.proofs.TableLaws.{length-put}
use Rattle.table.specs.Left.{Left, left_by}
use Rattle.rulings.specs.Rulings.{Ruling}

-- two facts with one refusal
pub both_hold : (a b : Bool) (x y : Verdict) → cond a (cond b x y) y ≡ cond (a && b) x y
both_hold true b x y = refl
both_hold false b x y = refl

-- a search that is told as an error where it finds nothing: what is known of what it gives
module _ {A E : Type 0} (P : Option A → Type 0) (o : Option A) (e : E) {r : Result A E} (is : r ≡ ok_or o e) (p : P o) where
  pub found_with : {x : A} → r ≡ Ok x → P (Some x)
  found_with {x} h =
      let some : o ≡ Some x = grind arith in
      subst P some p

  pub found-none : {d : E} → r ≡ Err d → P None × (d ≡ e)
  found-none {d} h =
      let none : o ≡ None = grind arith in
      let same : d ≡ e = grind arith in
      (subst P none p, same)

-- what is handed back of what the writes left, where nothing is dropped
abbrev pub leaving : Left → Ruling
leaving l = record { state = l.state; table = l.table; reply = granted l.tokens 0 0 }

-- and where then number i is freed
abbrev pub vacating : ℕ → Left → Ruling
vacating i l = record { state = totalled l.state (one_more (most_free l.table) i l.state.total); table = vacated l.table i; reply = granted l.tokens 0 0 }

-- which is still there once another, number n, is issued anew
pub second_in : (s : State) (t : List ℕ) (n i c : ℕ) (whole : ℕ → Entry) (a : Left) → a ≡ left_by (write c (opened s t) (reissue n whole)) → 32 * i + 32 ≤ length t → 32 * i + 32 ≤ length a.table
second_in s t n i c whole a left h = omega (arith, ap (λ (y : Left). length y.table) left ∙ length-put _ _ _)
