-- The three demands of the exported functions.
-- Assumes nothing.
use mathlib.Core.Path.{◌≡◌, refl, sym, ap, subst, ◌∙◌}
use lib.ListN.{length}
use borrow.Author.Tests.{ne_eqb}
use Rattle.bits.specs.Bytes.{AllBytes}
use Rattle.machine.specs.MachineSystem.{of_machine}
use Rattle.machine.specs.Requests.{Call}
use Rattle.machine.specs.Steps as steps
use Rattle.machine.specs.Steps.{Machine, run, step}
use Rattle.machine.specs.Stops.{at_request}
use Rattle.machine.proofs.Decided.{tells}
use Rattle.machine.proofs.Refused.{refused_keeps, refused-tells}
use Rattle.machine.proofs.Simulation.{shown_claim}
use Rattle.machine.proofs.Theorem as theorem
use Rattle.demands.specs.Demands.{after, asks, Brought, call_of, Demand1, Demand2, Demand3, machine, of_calls, requested, Safe, Standing}
use Rattle.interface.specs.Exported.{answer_size, Asked, carried, known, served, told, unknown}
use Rattle.interface.proofs.CallLaws.{known-sizes}
use Rattle.demands.proofs.CallsShow.{requested_left, shows_machine}
use Rattle.demands.proofs.OneCall.{called_as, state-kept, Whole, whole-bytes}

-- ---- demand 1

safe_as : (κ : Standing) → AllBytes κ.state → (q : Brought) (k : Asked) → asks κ q ≡ k → Safe κ q (carried k κ.state κ.table κ.memory q.buffer q.answer)
unfolding told
safe_as κ h q (known r) e =
    let σ : Machine = machine κ in
    let c : Call = call_of r q in
    let sizes = known-sizes q.request κ.state q.answer q.lent r (sym e) in
    record {
      same = λ no. let kept = refused_keeps σ c no in rw (kept.machine, state-kept κ.state h sizes.0);
      buffer = λ no. (refused_keeps σ c no).buffer;
      answer = λ no. let kept = refused_keeps σ c no in record { place = (steps.answer σ c).reply.bad; told = refused-tells σ c no; bytes = λ m. rw (kept.tokens, kept.dropped, kept.length) };
      unsized = λ no. absurd (no sizes.1);
    }
safe_as κ h q unknown e = record {
  same = λ no. refl;
  buffer = λ no. refl;
  answer = λ no. record { place = 0; told = tells at_request; bytes = λ m. rw m };
  unsized = λ no. rw (ne_eqb (length q.answer) answer_size no);
}

pub demand1 : Demand1
unfolding Demand1
demand1 κ h q = subst (Safe κ q) (sym (called_as κ q (asks κ q) refl)) (safe_as κ h q (asks κ q) refl)

-- ---- demand 2

pub demand2 : Demand2
unfolding Demand2
demand2 κ n h qs b =
    let w : Whole κ = whole-bytes κ h n in
    let left : machine (after κ qs) ≡ run (machine κ) (requested κ qs) = requested_left κ qs w b in
    record {
      left = left;
      called = λ q r e. called_as (after κ qs) q (known r) e ∙ ap (λ (σ : Machine). served (step σ (call_of r q)) (steps.answer σ (call_of r q))) left;
    }

-- ---- demand 3

pub demand3 : Demand3
unfolding Demand3
demand3 = shown_claim of_calls of_machine shows_machine theorem.demand3
