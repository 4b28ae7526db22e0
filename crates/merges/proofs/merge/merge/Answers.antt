-- `merges::merge::merge` meets its contract: it is decided by its verdict.
use Rattle.std.proofs.Common.{refl}
use Rattle.std.proofs.lemmas.Result.{err_from_is_err_and}
use Rattle.rulings.specs.Asked.{merge_as}
use Rattle.rulings.proofs.RulingLaws.{decided-stop, front-decided, front-stop}
use Rattle.rulings.proofs.ServedLaws.{served_quiet}
use Rattle.merges.proofs.merge.merge.Goals as goal

pub returns-in_err-pair : goal.returns-in_err-pair
returns-in_err-pair c =
    let p = err_from_is_err_and c.from_residual.result c.from_residual.ensures.1 in
    rw (p.1, p.2) (served_quiet refl (λ b. refl) (λ b. refl) refl (decided-stop _ _ _ _ _ _ (front-stop _ _ _ _ _ c.in_err-pair.ensures)))

pub returns : goal.returns
returns c = served_quiet refl (λ b. refl) (λ b. refl) refl (front-decided _ _ _ (merge_as c.args.request) _ c.in_ok-pair.ensures.0 _ c.grant_merge.ensures)
