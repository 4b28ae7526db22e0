-- `leased::northbridge_serve_leased` meets its contract: what is asked is carried out, or refused.
use Rattle.std.proofs.Common.{◌∙◌}
use Rattle.interface.specs.Exported.{with_leases}
use Rattle.interface.proofs.CallLaws.{exported_as, known-sizes}
use Rattle.leased.proofs.northbridge_serve_leased.Goals as goal

pub carry_out-requires : goal.carry_out-requires
carry_out-requires c = known-sizes c.args.request.now c.args.state.now c.args.answer.now (with_leases c.args.leases.now) _ c.in-Some.ensures

pub returns : goal.returns
returns c = c.carry_out.ensures ∙ exported_as _ _ _ _ _ _ _ _ c.in-Some.ensures

pub returns-in_default : goal.returns-in_default
returns-in_default c = rw (c.refuse.ensures.0, c.refuse.ensures.1) (exported_as _ _ _ _ _ _ _ _ c.in_default.ensures)
