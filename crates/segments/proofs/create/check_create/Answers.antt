-- `segments::create::check_create` meets its contract: one law for each way out.
use Rattle.std.proofs.Common.{rules}
use Rattle.std.proofs.lemmas.Result.{err_from_is_err_and}
use Rattle.checks.proofs.ReachLaws.{reach_in}
use Rattle.rulings.proofs.RulingLaws.{front_inner, front-request, front-token}
use Rattle.segments.proofs.CreateLaws.{create-asked, create-limits, create-token}
use Rattle.segments.proofs.create.check_create.Goals as goal

pub returns-then-not-settings-request : goal.returns-then-not-settings-request
returns-then-not-settings-request c = front-request _ _ _ _ _ (create-asked _ _ _ c.args.token c.args.request (search rules) c.settings.ensures c.if-not-settings-request.true)

pub returns-in_err-reach_open : goal.returns-in_err-reach_open
returns-in_err-reach_open c =
    let p = err_from_is_err_and c.from_residual.result c.from_residual.ensures.1 in
    rw (p.1, p.2)
    (front-token _ _ _ _ _ (create-asked _ _ _ c.args.token c.args.request (search rules) c.settings.ensures c.if-not-settings-request.false) (create-token _ _ _ c.args.token c.args.request c.in_err-reach_open.ensures))

pub entry_at-e-requires : goal.entry_at-e-requires
entry_at-e-requires c = rw c.args.token.reads (reach_in _ _ _ _ c.in_ok-reach_open.ensures.0)

pub check_cut-requires : goal.check_cut-requires
check_cut-requires c = create-limits _ _ _ c.args.token c.args.request (create-asked _ _ _ c.args.token c.args.request (search rules) c.settings.ensures c.if-not-settings-request.false)

pub returns : goal.returns
returns c =
    rw
    (front_inner _ _ _ _ _ (create-asked _ _ _ c.args.token c.args.request (search rules) c.settings.ensures c.if-not-settings-request.false) (create-token _ _ _ c.args.token c.args.request c.in_ok-reach_open.ensures.0))
    (c.check_cut.ensures _ c.args.token (rw c.args.token.reads at c.entry_at-e.ensures))
