-- Reset: its one check, and what it leaves.
-- Assumes nothing.
use mathlib.Core.Path.{◌≡◌, refl, ap, ◌∙◌}
use mathlib.Core.Bool.{true, ◌&&◌}
use mathlib.Core.List.{List, []}
use Rattle.std.specs.Prelude.{Ok}
use Prim.Native.Nat.{ℕ, ◌/◌, ◌^◌, ◌≤◌, ◌<◌}
use native.Mathlib.Omega.{arith}
use lib.Dec.{leb, ltb}
use lib.ListN.{length}
use borrow.Author.Tests.{le-leb, leb-true, ltb-true}
use Rattle.checks.specs.Holds.{request_holds, sizes_hold}
use Rattle.machine.specs.Parts.{most_memory, size, spent, State}
use Rattle.machine.specs.Requests.{reset}
use Rattle.machine.specs.Steps.{pass}
use Rattle.machine.specs.Stops.{checks}
use Rattle.machine.specs.Writes.{begin, opened, write}
use Rattle.machine.proofs.Decided.{Passed}
use Rattle.table.specs.Left.{left_as, left_by}
use Rattle.table.specs.declared.state.StateWords.{StateWords}
use Rattle.rulings.specs.Rulings.{granting, handed, plainly, rest_on, tokens_on, verdict_on}
use Rattle.rulings.specs.declared.reply.Granted.{Granted}
use Rattle.rulings.proofs.RulingLaws.{passed_on, request-true, token-passes}
use Rattle.segments.proofs.SegmentLaws.{leaving}

module _ (m : ℕ) (s : State) (t : List ℕ) (k0 k1 ν : ℕ) where
  pub reset-request : (sizes_hold m t && leb 1 ν && ltb ν spent) ≡ request_holds m s t (reset k0 k1 ν) []
  unfolding sizes_hold request_holds
  reset-request = refl

  pub reset-pass : request_holds m s t (reset k0 k1 ν) [] ≡ true → verdict_on m s t (reset k0 k1 ν) [] ≡ pass
  unfolding tokens_on rest_on
  reset-pass ok =
      let below : ν < spent = ltb-true _ _ (request-true m s t (reset k0 k1 ν) [] ok).1.1.1.1.1.1.0 in
      token-passes m s t (reset k0 k1 ν) [] ok refl ∙ rw (le-leb ν spent (omega arith))

  -- what a pass says
  pub reset-sizes : verdict_on m s t (reset k0 k1 ν) [] ≡ pass → (32 ≤ length t) × (m < 2 ^ 32)
  unfolding size
  reset-sizes h =
      let all : Passed (checks m s t (reset k0 k1 ν) []) = passed_on m s t (reset k0 k1 ν) [] h in
      let two : 2 ≤ length t / 32 = leb-true _ _ all.1.1.1.0 in
      let most : m ≤ most_memory = leb-true _ _ all.1.0 in
      (omega arith, omega arith)

-- what is handed back
pub reset-grants : (m : ℕ) (s : State) (s' : StateWords) (t : List ℕ) (k0 k1 ν : ℕ) (r : Granted) (t' : List ℕ)
    → left_as s' t' [] ≡ left_by (write 0 (opened s t) (begin m k0 k1 ν)) → r ≡ plainly 0
    → handed s' t' (Ok r) ≡ granting m s t (reset k0 k1 ν) []
unfolding granting
reset-grants m s s' t k0 k1 ν r t' left done = rw done (ap leaving left)
