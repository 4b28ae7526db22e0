-- `check_owner` meets its contract: place 1 is one test, and then the token decides.
use Rattle.checks.proofs.ReachLaws.{reaches_as}
use Rattle.locks.proofs.LockLaws.{lock_asked, lock-stop, lock-token}
use Rattle.locks.proofs.lock.check_owner.Goals as goal

pub returns-then-not-settings-task : goal.returns-then-not-settings-task
returns-then-not-settings-task c = lock-stop _ _ _ _ _ (lock_asked _ _ _ _ _ _ _ _ c.args.token.reads c.settings.ensures c.if-not-settings-task.true)

pub returns : goal.returns
returns c =
    reaches_as _ _ _ _ _ (lock-token _ _ _ _ _ (lock_asked _ _ _ _ _ _ _ _ c.args.token.reads c.settings.ensures c.if-not-settings-task.false)) c.reach_open.ensures
