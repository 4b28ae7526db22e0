-- `paging::page_in::check_in` meets its contract: a law for each way out.
use Rattle.std.proofs.Common.{refl, sym, ◌∙◌}
use Rattle.std.proofs.lemmas.Result.{err_from_is_err_and}
use Rattle.table.specs.States.{state_as}
use Rattle.rulings.proofs.RulingLaws.{front_inner, front-request, front-token}
use Rattle.paging.proofs.InLaws.{in_request, in_table}
use Rattle.paging.proofs.page_in.check_in.Goals as goal

pub returns-then-not-settings-request : goal.returns-then-not-settings-request
returns-then-not-settings-request c =
    sym (front-request _ _ _ _ _ (in_request _ _ _ c.args.token c.args.donor _ _ c.args.buffer.now c.settings.ensures c.if-not-settings-request.true))

pub returns-in_err-reach_both : goal.returns-in_err-reach_both
returns-in_err-reach_both c =
    let p = err_from_is_err_and c.from_residual.result c.from_residual.ensures.1 in
    rw (p.1, p.2) (sym (front-token _ _ _ _ _ (in_request _ _ _ c.args.token c.args.donor _ _ c.args.buffer.now c.settings.ensures c.if-not-settings-request.false)
    (sym (c.in_err-reach_both.ensures (state_as c.args.s) c.args.request.encoding c.args.buffer.now))))

pub entry_at-e-requires : goal.entry_at-e-requires
entry_at-e-requires c = rw c.args.token.reads (in_table _ _ _ _ _ _ _ _ (sym (c.in_ok-reach_both.ensures (state_as c.args.s) c.args.request.encoding c.args.buffer.now))).0

pub entry_at-d-requires : goal.entry_at-d-requires
entry_at-d-requires c = rw c.args.donor.reads (in_table _ _ _ _ _ _ _ _ (sym (c.in_ok-reach_both.ensures (state_as c.args.s) c.args.request.encoding c.args.buffer.now))).1

pub returns : goal.returns
returns c =
    c.check_pair.ensures _ _ _ _ _ _ _ _ (rw c.args.token.reads at c.entry_at-e.ensures) (rw c.args.donor.reads at c.entry_at-d.ensures) refl
    ∙ sym (front_inner _ _ _ _ _ (in_request _ _ _ c.args.token c.args.donor _ _ c.args.buffer.now c.settings.ensures c.if-not-settings-request.false)
    (sym (c.in_ok-reach_both.ensures (state_as c.args.s) c.args.request.encoding c.args.buffer.now)))
