-- `drops::drop::drop` meets its contract: it is decided by its verdict.
use Rattle.std.proofs.Common.{refl}
use Rattle.std.proofs.lemmas.Result.{err_from_is_err_and}
use Rattle.rulings.proofs.RulingLaws.{decided-pass, decided-stop}
use Rattle.rulings.proofs.ServedLaws.{served_quiet}
use Rattle.drops.proofs.drop.drop.Goals as goal

pub returns-in_err-locked : goal.returns-in_err-locked
returns-in_err-locked c =
    let p = err_from_is_err_and c.from_residual.result c.from_residual.ensures.1 in
    rw (p.1, p.2) (served_quiet refl (λ b. refl) (λ b. refl) refl (decided-stop _ _ _ _ _ _ (rw c.from-token.ensures at c.in_err-locked.ensures)))

pub returns : goal.returns
returns c =
    served_quiet refl (λ b. refl) (λ b. refl) refl
    (decided-pass _ _ _ _ _ _ (rw c.from-token.ensures at c.grant_drop.ensures) (rw c.from-token.ensures at c.in_ok-locked.ensures.0))
