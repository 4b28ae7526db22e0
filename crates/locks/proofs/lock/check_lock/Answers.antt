-- `check_lock` meets its contract: Lockable is the one check more.
use Rattle.std.proofs.Common.{◌∙◌}
use Rattle.std.proofs.lemmas.Result.{err_from_is_err_and}
use Rattle.rulings.proofs.RulingLaws.{first_stop}
use Rattle.locks.proofs.LockLaws.{lock_last}
use Rattle.locks.proofs.lock.check_lock.Goals as goal

pub returns-in_err-owner : goal.returns-in_err-owner
returns-in_err-owner c =
    let p = err_from_is_err_and c.from_residual.result c.from_residual.ensures.1 in
    rw (p.1, p.2) (first_stop _ _ _ _ _ c.in_err-owner.ensures)

pub returns-then-e : goal.returns-then-e
returns-then-e c =
    let k = c.in_ok-owner.ensures in
    (lock_last _ _ _ _ _ _ k.1.0 c.entry_at-e.result c.entry_at-e.ensures k.0 ∙ rw c.if-e.true, k.1)

pub returns-else-e : goal.returns-else-e
returns-else-e c =
    let k = c.in_ok-owner.ensures in
    lock_last _ _ _ _ _ _ k.1.0 c.entry_at-e.result c.entry_at-e.ensures k.0 ∙ rw c.if-e.false
