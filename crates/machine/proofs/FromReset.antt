-- What holds from reset on does hold.
-- Assumes nothing.
use mathlib.Core.Path.{sym, ◌∙◌}
use mathlib.Core.List.{◌++◌}
use lib.ListN.{length}
use Rattle.machine.specs.FromReset.{FromReset}
use Rattle.machine.specs.MachineSystem.{reset_call}
use Rattle.machine.specs.Steps.{Machine, run, step}
use Rattle.machine.specs.Stops.{at_request, need_all, settings, sizes}
use Rattle.machine.proofs.Decided.{need_all_lem, passing}
use Rattle.machine.proofs.Settled.{settled-reset, settled-run}
use Rattle.machine.proofs.Runs.{run_long, run-sum, run_well, sum-reset, Well, well_reset}

pub from_reset_lem : FromReset
unfolding FromReset
from_reset_lem σ k0 k1 ν b ok after nr =
    let ρ : Machine = step σ (reset_call k0 k1 ν b) in
    let first : Well ρ = well_reset σ k0 k1 ν b ok in
    let τ : Machine = run ρ after in
    let inv : Well τ = run_well ρ after first nr in
    record {
      settled =
          let bs = sizes (length τ.memory) τ.table ++ settings τ.state τ.table in
          passing (need_all at_request bs) (need_all_lem at_request bs (settled-run ρ after nr (settled-reset σ k0 k1 ν b ok)));
      sum = run-sum ρ after first nr ∙ sum-reset σ k0 k1 ν b ok ∙ sym (run_long ρ after);
      one = inv.tiled;
      some = inv.covered;
      formed = λ n k. (inv.good n).formed;
      storable = λ n k. (inv.good n).storable;
      below = inv.below;
      lockable = λ n. (inv.good n).lockable;
      paged_lockable = λ n. (inv.good n).paged_lockable;
      counted = λ n. (inv.good n).counted;
      inside = inv.inside;
    }
