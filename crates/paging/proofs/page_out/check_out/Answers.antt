-- `paging::page_out::check_out` meets its contract: one law for each way out.
use Rattle.std.proofs.Common.{refl, rules}
use Rattle.std.proofs.lemmas.Result.{err_from_is_err_and}
use Rattle.checks.proofs.ReachLaws.{reach_in}
use Rattle.rulings.proofs.RulingLaws.{front_inner, front-request, front-token}
use Rattle.paging.proofs.OutLaws.{out-limits, out-request, out-token}
use Rattle.paging.proofs.page_out.check_out.Goals as goal

pub returns-then-not-settings-request : goal.returns-then-not-settings-request
returns-then-not-settings-request c =
    front-request _ _ _ _ _ (out-request _ _ _ c.args.token _ c.args.request.page _ c.args.buffer.now (search rules) c.settings.ensures c.if-not-settings-request.true)

pub returns-in_err-reach_open : goal.returns-in_err-reach_open
returns-in_err-reach_open c =
    let p = err_from_is_err_and c.from_residual.result c.from_residual.ensures.1 in
    rw (p.1, p.2)
    (front-token _ _ _ _ _ (out-request _ _ _ c.args.token _ c.args.request.page _ c.args.buffer.now (search rules) c.settings.ensures c.if-not-settings-request.false)
    (out-token _ _ _ _ _ _ _ _ c.in_err-reach_open.ensures))

pub entry_at-e-requires : goal.entry_at-e-requires
entry_at-e-requires c = rw c.args.token.reads (reach_in _ _ _ _ c.in_ok-reach_open.ensures.0)

pub check_idle-requires : goal.check_idle-requires
check_idle-requires c =
    out-limits _ _ _ _ _ _ _ _ (out-request _ _ _ c.args.token _ c.args.request.page _ c.args.buffer.now (search rules) c.settings.ensures c.if-not-settings-request.false)

pub returns : goal.returns
returns c =
    rw
    (front_inner _ _ _ _ _ (out-request _ _ _ c.args.token _ c.args.request.page _ c.args.buffer.now (search rules) c.settings.ensures c.if-not-settings-request.false)
    (out-token _ _ _ _ _ _ _ _ c.in_ok-reach_open.ensures.0))
    (c.check_idle.ensures _ _ _ _ _ _ (rw c.args.token.reads at c.entry_at-e.ensures) refl)
