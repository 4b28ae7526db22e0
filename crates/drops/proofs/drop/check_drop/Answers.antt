-- `drops::drop::check_drop` meets its contract: a law for each way out.
use Rattle.std.proofs.lemmas.Result.{err_from_is_err_and}
use Rattle.rulings.proofs.RulingLaws.{request-stops, token-stops}
use Rattle.checks.proofs.ReachLaws.{formed_in}
use Rattle.drops.proofs.DropLaws.{drop_asked, drop-count, drop-pass, drop_token}
use Rattle.drops.proofs.drop.check_drop.Goals as goal

pub entry_at-e-requires : goal.entry_at-e-requires
entry_at-e-requires c = rw c.args.token.reads (formed_in _ _ _ c.in_ok-locked.ensures.0)

pub returns-then-not-settings-token : goal.returns-then-not-settings-token
returns-then-not-settings-token c = request-stops _ _ _ _ _ (drop_asked _ _ _ _ _ _ _ c.args.token.reads c.settings.ensures c.if-not-settings-token.true)

pub returns-in_err-locked : goal.returns-in_err-locked
returns-in_err-locked c =
    let p = err_from_is_err_and c.from_residual.result c.from_residual.ensures.1 in
    rw (p.1, p.2) (token-stops _ _ _ _ _ (drop_asked _ _ _ _ _ _ _ c.args.token.reads c.settings.ensures c.if-not-settings-token.false) (drop_token _ _ _ _ c.in_err-locked.ensures))

pub returns-then-e-eq0 : goal.returns-then-e-eq0
returns-then-e-eq0 c =
    drop-count _ _ _ _ _ c.args.token.reads c.entry_at-e.result c.entry_at-e.ensures
    (drop_asked _ _ _ _ _ _ _ c.args.token.reads c.settings.ensures c.if-not-settings-token.false) c.in_ok-locked.ensures.0 c.if-e-eq0.true

pub returns : goal.returns
returns c = (
  drop-pass _ _ _ _ _ c.args.token.reads c.entry_at-e.result c.entry_at-e.ensures
      (drop_asked _ _ _ _ _ _ _ c.args.token.reads c.settings.ensures c.if-not-settings-token.false) c.in_ok-locked.ensures.0 c.if-e-eq0.false,
  c.in_ok-locked.ensures.1,
)
