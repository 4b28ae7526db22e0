-- `unlock` meets its contract: it is decided by its verdict, and the owner's lock is cleared.
use Rattle.std.proofs.Common.{refl}
use Rattle.std.proofs.lemmas.Result.{err_from_is_err_and}
use Rattle.locks.proofs.LockLaws.{unlock-grants}
use Rattle.rulings.proofs.RulingLaws.{decided-pass, decided-stop}
use Rattle.rulings.proofs.ServedLaws.{served_quiet}
use Rattle.locks.proofs.lock.unlock.Goals as goal

pub returns-in_err-owner : goal.returns-in_err-owner
returns-in_err-owner c =
    let p = err_from_is_err_and c.from_residual.result c.from_residual.ensures.1 in
    rw (p.1, p.2) (served_quiet refl (λ b. refl) (λ b. refl) refl (decided-stop _ _ _ _ _ _ (rw c.from.ensures at c.in_err-owner.ensures)))

pub returns : goal.returns
returns c =
    let k = rw c.from.ensures at c.in_ok-owner.ensures in
    served_quiet refl (λ b. refl) (λ b. refl) refl (decided-pass _ _ _ _ _ _ (unlock-grants _ _ _ _ _ _ k.1.0 _ (c.relock_at.ensures _)) k.0)
