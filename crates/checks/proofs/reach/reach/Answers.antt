-- `reach` meets its contract: what stops places 2 to 4 stops it.
use Rattle.std.proofs.lemmas.Result.{err_from_is_err_and}
use Rattle.checks.proofs.ReachLaws.{reach-stop, read_as}
use Rattle.checks.proofs.reach.reach.Goals as goal

pub returns-in_err-owner : goal.returns-in_err-owner
returns-in_err-owner c =
    let p = err_from_is_err_and c.from_residual.result c.from_residual.ensures.1 in
    rw (p.1, p.2) (reach-stop _ _ _ _ _ (c.in_err-owner.ensures _ (read_as _ _ c.args.token.reads)))
