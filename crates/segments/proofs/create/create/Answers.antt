-- `segments::create::create` meets its contract: it is decided by its verdict.
use Rattle.std.proofs.Common.{refl}
use Rattle.std.proofs.lemmas.Result.{err_from_is_err_and}
use Rattle.rulings.specs.Asked.{create_as}
use Rattle.rulings.proofs.RulingLaws.{decided-stop, front-decided, front-stop}
use Rattle.rulings.proofs.ServedLaws.{served_quiet}
use Rattle.segments.proofs.create.create.Goals as goal

pub returns-in_err-new : goal.returns-in_err-new
returns-in_err-new c =
    let p = err_from_is_err_and c.from_residual.result c.from_residual.ensures.1 in
    rw (p.1, p.2) (served_quiet refl (λ b. refl) (λ b. refl) refl (decided-stop _ _ _ _ _ _ (front-stop _ _ _ (create_as c.args.request) _ (rw c.from-token.ensures at c.in_err-new.ensures))))

pub returns : goal.returns
returns c =
    served_quiet refl (λ b. refl) (λ b. refl) refl
    (front-decided _ _ _ (create_as c.args.request) _ (rw c.from-token.ensures at c.in_ok-new.ensures.0) _ (rw c.from-token.ensures at c.grant_create.ensures))
