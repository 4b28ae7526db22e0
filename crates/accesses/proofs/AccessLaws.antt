-- Access: its checks, and what it leaves.
-- Assumes nothing.
use mathlib.Core.Path.{◌≡◌, refl, sym, ◌∙◌}
use mathlib.Core.Bool.{Bool, true, false, ◌&&◌, cond}
use mathlib.Core.List.{List, [], ◌∷◌, ◌++◌}
use Rattle.std.specs.Prelude.{Ok}
use Prim.Native.Nat.{ℕ, zero, suc, ◌+◌, ◌/◌, ◌%◌, ◌^◌, ◌≤◌, ◌<◌}
use native.Mathlib.Omega.{arith}
use Rattle.std.proofs.Math.Bool.{and-true}
use lib.Dec.{eqb, leb, ltb}
use lib.ListN.{length}
use borrow.Author.Tests.{le-leb, leb-true}
use Rattle.tokens.specs.Permissions.{has, within}
use Rattle.tokens.specs.Token.{named}
use Rattle.layout.specs.declared.entry.Entry.{Entry}
use Rattle.tokens.specs.declared.token.Named.{Named}
use Rattle.checks.specs.Holds.{request_holds, settings_hold, shift_holds}
use Rattle.checks.specs.Reached.{reach_verdict}
use Rattle.checks.specs.Shifts.{closed_verdict, judged_for, shift_verdict}
use Rattle.checks.proofs.ShiftLaws.{hold_append, shift_closed, shift_open, shift_unsound}
use Rattle.leases.specs.declared.lease.Window.TheVariants.{Closed, Open, Unsound}
use Rattle.machine.specs.Operations.{transfer}
use Rattle.machine.specs.Parts.{at, State}
use Rattle.machine.specs.Requests.{access, fetching, reading, right_of, Shift, Way, writing}
use Rattle.machine.specs.Steps.{pass, stop, Verdict, verdict}
use Rattle.machine.specs.Stops.{at_bounds, at_lease, at_right, checks, places, settings, shift_fits, sizes, task_fits, transfer_fits}
use Rattle.machine.proofs.Decided.{Passed}
use Rattle.machine.proofs.Grants.{access-inside}
use Rattle.table.specs.States.{state_as}
use Rattle.table.specs.declared.state.StateWords.{StateWords}
use Rattle.rulings.specs.Rulings.{effect_on, granted_effect, granting, handed, plainly, ruling_on, tokens_on, verdict_on}
use Rattle.rulings.specs.declared.reply.Granted.{Granted}
use Rattle.rulings.proofs.AllotLaws.{request-limits}
use Rattle.rulings.proofs.RulingLaws.{decided-pass, effect-pass, passed_on, rest_alone, token-passes}
use Rattle.accesses.specs.Transfers.{start_of}

-- ---- the right, as one bit

bit-held : (x : ℕ) → x < 2 → eqb x 1 ≡ leb 1 x
bit-held zero h = refl
bit-held (suc zero) h = refl
bit-held (suc (suc x)) h = absurd (omega arith)

pub right_held : (w : Way) (p : ℕ) → eqb (has p (right_of w)) 1 ≡ within (right_of w) p
unfolding within
right_held reading p = rw (bit-held (p / 4 % 2) (omega arith), le-leb 0 (p / 2 % 2) (omega arith), le-leb 0 (p / 1 % 2) (omega arith), and-true, and-true)
right_held writing p = rw (bit-held (p / 2 % 2) (omega arith), le-leb 0 (p / 4 % 2) (omega arith), le-leb 0 (p / 1 % 2) (omega arith), and-true)
right_held fetching p = rw (bit-held (p / 1 % 2) (omega arith), le-leb 0 (p / 4 % 2) (omega arith), le-leb 0 (p / 2 % 2) (omega arith))

-- what the code's test of it says
pub held_as : {r b : Bool} (w : Way) (p : ℕ) → r ≡ eqb (has p (right_of w)) 1 → r ≡ b → within (right_of w) p ≡ b
held_as w p h is = sym (h ∙ right_held w p) ∙ is

module _ (m : ℕ) (s : State) (t : List ℕ) (w : Way) (k u : ℕ) (φ : Shift) (b : List ℕ) where
  -- ---- the right and the bounds, with the token read as n, its entry as e, and so many bytes

  module _ (bytes : ℕ) (long : length b ≡ bytes) (n : Named) (e : Entry) (is : n ≡ named k) (there : e ≡ at t n.number) where
    rest_of : verdict (places m s t (access w k u φ) b).rest ≡ cond (within (right_of w) e.permissions) (cond (leb (n.offset + bytes) e.length) pass (stop at_bounds)) (stop at_right)
    rest_of = rw (long, there, is)

    pub transfer_right : within (right_of w) e.permissions ≡ false → verdict (places m s t (access w k u φ) b).rest ≡ stop at_right
    transfer_right h = rest_of ∙ rw h

    module _ (held : within (right_of w) e.permissions ≡ true) where
      pub transfer-out : leb (n.offset + bytes) e.length ≡ false → verdict (places m s t (access w k u φ) b).rest ≡ stop at_bounds
      transfer-out h = rest_of ∙ rw (held, h)

      pub transfer_in : leb (n.offset + bytes) e.length ≡ true → verdict (places m s t (access w k u φ) b).rest ≡ pass
      transfer_in h = rest_of ∙ rw (held, h)

  -- ---- the whole

  pub access-request : (settings_hold m s t && ltb u (2 ^ 55) && leb 1 (length b) && leb (length b) 4096 && shift_holds φ) ≡ request_holds m s t (access w k u φ) b
  unfolding settings_hold request_holds shift_holds
  access-request = sym (hold_append (sizes m t ++ (settings s t ++ (task_fits u ∷ transfer_fits b))) (shift_fits φ))

  tokens_of : {v : Verdict} → shift_verdict [] m t k u φ ≡ v → tokens_on m s t (access w k u φ) b ≡ v
  unfolding shift_verdict tokens_on
  tokens_of h = h

  pub access-unsound : Unsound ≡ judged_for φ k → tokens_on m s t (access w k u φ) b ≡ stop at_lease
  access-unsound j = tokens_of (shift_unsound [] m t k u φ refl j)

  pub access-closed : {v : Verdict} → Closed ≡ judged_for φ k → closed_verdict m t k u ≡ v → tokens_on m s t (access w k u φ) b ≡ v
  access-closed j h = tokens_of (shift_closed [] m t k u φ refl j ∙ h)

  module _ (j : Open ≡ judged_for φ k) where
    pub access-token : {v : Verdict} → reach_verdict m t k u ≡ v → tokens_on m s t (access w k u φ) b ≡ v
    access-token h = tokens_of (shift_open [] m t k u φ refl j ∙ h)

    pub access-rest : request_holds m s t (access w k u φ) b ≡ true → reach_verdict m t k u ≡ pass → verdict_on m s t (access w k u φ) b ≡ verdict (places m s t (access w k u φ) b).rest
    access-rest ok h =
        token-passes m s t (access w k u φ) b ok (access-token h)
        ∙ rest_alone m s t (access w k u φ) b refl (request-limits m s t (access w k u φ) b (task_fits u ∷ (transfer_fits b ++ shift_fits φ)) refl ok).left

  -- what a pass says: the transfer lies in memory, and has at most 4,096 bytes
  module _ (h : verdict_on m s t (access w k u φ) b ≡ pass) where
    pub access-room : (start_of t k + length b ≤ m) × (length b ≤ 4096)
    access-room =
        let all : Passed (checks m s t (access w k u φ) b) = passed_on m s t (access w k u φ) b h in
        (access-inside m s t w k u φ b all, leb-true (length b) 4096 (search))

    pub access-effect : effect_on m s t (access w k u φ) b ≡ transfer w (start_of t k) b
    unfolding granted_effect
    access-effect = effect-pass m s t (access w k u φ) b h

-- what is handed back
pub access-grants : (m : ℕ) (s : StateWords) (t : List ℕ) (w : Way) (k u : ℕ) (φ : Shift) (b : List ℕ) (r : Granted) → r ≡ plainly 0 → verdict_on m (state_as s) t (access w k u φ) b ≡ pass
    → handed s t (Ok r) ≡ ruling_on m (state_as s) t (access w k u φ) b
unfolding granting
access-grants m s t w k u φ b r e h = decided-pass m (state_as s) t (access w k u φ) b (handed s t (Ok r)) (rw e refl) h
