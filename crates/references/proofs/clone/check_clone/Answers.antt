-- `references::clone::check_clone` meets its contract: a law for each way out.
use Rattle.std.proofs.Common.{sym}
use Rattle.std.proofs.lemmas.Result.{err_from_is_err_and}
use Rattle.checks.proofs.ReachLaws.{live_in}
use Rattle.rulings.proofs.RulingLaws.{request-stops, token-stops}
use Rattle.references.proofs.CloneLaws.{clone-asked, clone-count, clone-pass, clone-token}
use Rattle.references.proofs.clone.check_clone.Goals as goal

pub entry_at-e-requires : goal.entry_at-e-requires
entry_at-e-requires c = rw c.args.token.reads (live_in _ _ _ c.in_ok-reach_near.ensures.0)

pub returns-then-not-settings-token : goal.returns-then-not-settings-token
returns-then-not-settings-token c = sym (request-stops _ _ _ _ _ (clone-asked _ _ _ _ _ _ _ c.args.token.reads c.settings.ensures c.if-not-settings-token.true))

pub returns-in_err-reach_near : goal.returns-in_err-reach_near
returns-in_err-reach_near c =
    let p = err_from_is_err_and c.from_residual.result c.from_residual.ensures.1 in
    rw (p.1, p.2) (sym (token-stops _ _ _ _ _ (clone-asked _ _ _ _ _ _ _ c.args.token.reads c.settings.ensures c.if-not-settings-token.false) (clone-token _ _ _ _ c.in_err-reach_near.ensures)))

pub returns-then-e-ge65535 : goal.returns-then-e-ge65535
returns-then-e-ge65535 c =
    sym (clone-count _ _ _ _ _ c.args.token.reads c.entry_at-e.result c.entry_at-e.ensures (clone-asked _ _ _ _ _ _ _ c.args.token.reads c.settings.ensures c.if-not-settings-token.false) c.in_ok-reach_near.ensures.0 c.if-e-ge65535.true)

pub returns : goal.returns
returns c =
    sym (clone-pass _ _ _ _ _ c.args.token.reads c.entry_at-e.result c.entry_at-e.ensures (clone-asked _ _ _ _ _ _ _ c.args.token.reads c.settings.ensures c.if-not-settings-token.false) c.in_ok-reach_near.ensures.0 c.if-e-ge65535.false)
