-- `segments::revoke::check_revoke` meets its contract: a law for each way out.
use Rattle.std.proofs.Common.{sym}
use Rattle.std.proofs.lemmas.Result.{err_from_is_err_and}
use Rattle.checks.proofs.ReachLaws.{live_in}
use Rattle.rulings.proofs.RulingLaws.{front-request, front-token}
use Rattle.segments.proofs.RevokeLaws.{revoke-asked, revoke-direct, revoke_kind, revoke-token}
use Rattle.segments.proofs.revoke.check_revoke.Goals as goal

pub returns-then-not-settings-encoding : goal.returns-then-not-settings-encoding
returns-then-not-settings-encoding c = sym (front-request _ _ _ _ _ (revoke-asked _ _ _ _ _ _ c.args.token.reads c.settings.ensures c.if-not-settings-encoding.true))

pub returns-in_err-reach_near : goal.returns-in_err-reach_near
returns-in_err-reach_near c =
    let p = err_from_is_err_and c.from_residual.result c.from_residual.ensures.1 in
    rw (p.1, p.2)
    (sym (front-token _ _ _ _ _ (revoke-asked _ _ _ _ _ _ c.args.token.reads c.settings.ensures c.if-not-settings-encoding.false) (revoke-token _ _ _ _ _ c.in_err-reach_near.ensures)))

pub entry_at-e-requires : goal.entry_at-e-requires
entry_at-e-requires c = rw c.args.token.reads (live_in _ _ _ c.in_ok-reach_near.ensures.0)

pub returns-then-e-ne-DIRECT : goal.returns-then-e-ne-DIRECT
returns-then-e-ne-DIRECT c =
    sym (revoke_kind _ _ _ _ _ _ _ c.args.token.reads c.entry_at-e.ensures (revoke-asked _ _ _ _ _ _ c.args.token.reads c.settings.ensures c.if-not-settings-encoding.false) c.in_ok-reach_near.ensures.0 c.if-e-ne-DIRECT.true)

pub returns : goal.returns
returns c =
    sym (revoke-direct _ _ _ _ _ _ _ c.args.token.reads c.entry_at-e.ensures (revoke-asked _ _ _ _ _ _ c.args.token.reads c.settings.ensures c.if-not-settings-encoding.false) c.in_ok-reach_near.ensures.0 c.if-e-ne-DIRECT.false)
