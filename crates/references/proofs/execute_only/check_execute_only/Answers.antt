-- `references::execute_only::check_execute_only` meets its contract: a law for each way out.
use Rattle.std.proofs.lemmas.Result.{err_from_is_err_and}
use Rattle.checks.proofs.ReachLaws.{live_in}
use Rattle.rulings.proofs.RulingLaws.{front-request, front-token}
use Rattle.references.proofs.ExecuteOnlyLaws.{execute_asked, execute_child, execute_limits, execute_right, execute_token}
use Rattle.references.proofs.execute_only.check_execute_only.Goals as goal

pub entry_at-e-requires : goal.entry_at-e-requires
entry_at-e-requires c = rw c.args.token.reads (live_in _ _ _ c.in_ok-reach_near.ensures.0)

pub allot_child-requires : goal.allot_child-requires
allot_child-requires c = execute_limits _ _ _ _ _ (execute_asked _ _ _ _ _ _ _ _ c.args.token.reads c.settings.ensures c.if-not-settings-encoding.false)

pub returns-then-not-settings-encoding : goal.returns-then-not-settings-encoding
returns-then-not-settings-encoding c = front-request _ _ _ _ _ (execute_asked _ _ _ _ _ _ _ _ c.args.token.reads c.settings.ensures c.if-not-settings-encoding.true)

pub returns-in_err-reach_near : goal.returns-in_err-reach_near
returns-in_err-reach_near c =
    let p = err_from_is_err_and c.from_residual.result c.from_residual.ensures.1 in
    rw (p.1, p.2)
    (front-token _ _ _ _ _ (execute_asked _ _ _ _ _ _ _ _ c.args.token.reads c.settings.ensures c.if-not-settings-encoding.false) (execute_token _ _ _ _ _ c.in_err-reach_near.ensures))

pub returns-then-not-within : goal.returns-then-not-within
returns-then-not-within c =
    execute_right _ _ _ _ _ _ c.entry_at-e.result _ c.args.token.reads c.entry_at-e.ensures c.within.ensures (execute_asked _ _ _ _ _ _ _ _ c.args.token.reads c.settings.ensures c.if-not-settings-encoding.false) c.in_ok-reach_near.ensures.0 c.if-not-within.true

pub returns : goal.returns
returns c =
    rw
    (execute_child _ _ _ _ _ _ c.entry_at-e.result _ c.args.token.reads c.entry_at-e.ensures c.within.ensures (execute_asked _ _ _ _ _ _ _ _ c.args.token.reads c.settings.ensures c.if-not-settings-encoding.false) c.in_ok-reach_near.ensures.0 c.if-not-within.false)
    c.allot_child.ensures
