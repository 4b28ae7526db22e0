-- `references::derive::check_derive` meets its contract: one law for each way out.
use Rattle.std.proofs.lemmas.Result.{err_from_is_err_and}
use Rattle.checks.proofs.ReachLaws.{live_in}
use Rattle.rulings.proofs.RulingLaws.{front_inner, front-request, front-token}
use Rattle.references.proofs.DeriveLaws.{derive-asked, derive-limits, derive-token}
use Rattle.references.proofs.derive.check_derive.Goals as goal

pub check_part-requires-clause-limits : goal.check_part-requires-clause-limits
check_part-requires-clause-limits c = derive-limits _ _ _ _ _ _ _ _ (derive-asked _ _ _ _ c.args.request.offset _ _ _ _ _ _ c.args.token.reads c.settings.ensures c.if-not-settings-request.false)

pub check_part-requires-clause-token_bound : goal.check_part-requires-clause-token_bound
check_part-requires-clause-token_bound c = live_in _ _ _ c.in_ok-reach_near.ensures.0

pub returns-then-not-settings-request : goal.returns-then-not-settings-request
returns-then-not-settings-request c = front-request _ _ _ _ _ (derive-asked _ _ _ _ c.args.request.offset _ _ _ _ _ _ c.args.token.reads c.settings.ensures c.if-not-settings-request.true)

pub returns-in_err-reach_near : goal.returns-in_err-reach_near
returns-in_err-reach_near c =
    let p = err_from_is_err_and c.from_residual.result c.from_residual.ensures.1 in
    rw (p.1, p.2)
    (front-token _ _ _ _ _ (derive-asked _ _ _ _ c.args.request.offset _ _ _ _ _ _ c.args.token.reads c.settings.ensures c.if-not-settings-request.false) (derive-token _ _ _ _ _ _ _ _ c.in_err-reach_near.ensures))

pub returns : goal.returns
returns c =
    rw
    (front_inner _ _ _ _ _ (derive-asked _ _ _ _ c.args.request.offset _ _ _ _ _ _ c.args.token.reads c.settings.ensures c.if-not-settings-request.false) (derive-token _ _ _ _ _ _ _ _ c.in_ok-reach_near.ensures.0))
    (c.check_part.ensures _)
