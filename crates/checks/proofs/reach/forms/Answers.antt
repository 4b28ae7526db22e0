-- `forms` meets its contract: one law for each way out.
use Rattle.std.proofs.Common.{sym}
use borrow.Author.Tests.{eqb-false, eqb-true}
use Rattle.checks.proofs.ReachLaws.{formed-dead, formed-stop, live_is_formed}
use Rattle.checks.proofs.reach.forms.Goals as goal

pub returns-in-Err : goal.returns-in-Err
returns-in-Err c = formed-dead _ _ _ _ (eqb-true _ _ (sym c.if-is_dead.ensures)) c.in-Err.ensures

pub returns-in-Err-2 : goal.returns-in-Err-2
returns-in-Err-2 c = formed-stop _ _ _ _ (eqb-false _ _ (sym c.if-is_dead.ensures)) c.in-Err.ensures

pub returns-in-Ok : goal.returns-in-Ok
returns-in-Ok c =
    let a = c.args in
    let k = c.in-Ok.ensures in
    (live_is_formed a.memory a.table.now a.token.word k.0, rw (k.1.0, c.entry_at.ensures))
