-- `paging::page_out::page_out` meets its contract: it is decided by its verdict, and so is what it does to memory and buffer.
use Rattle.std.proofs.Common.{refl}
use Rattle.std.proofs.lemmas.Result.{err_from_is_err_and}
use Rattle.rulings.proofs.RulingLaws.{front-decided, front-effect, front-stop}
use Rattle.rulings.proofs.ServedLaws.{served, served-stop}
use Rattle.paging.proofs.page_out.page_out.Goals as goal

pub returns-in_err-new : goal.returns-in_err-new
returns-in_err-new c =
    let p = err_from_is_err_and c.from_residual.result c.from_residual.ensures.1 in
    rw (p.1, p.2) (served-stop _ (front-stop _ _ _ _ _ (rw c.from-token.ensures at c.in_err-new.ensures)))

pub returns : goal.returns
returns c =
    let v = rw c.from-token.ensures at c.in_ok-new.ensures.0 in
    served refl (front-decided _ _ _ _ _ v _ (rw c.from-token.ensures at c.grant_out.ensures.outcome)) (rw (front-effect _ _ _ _ _ v) (rw c.from-token.ensures at c.grant_out.ensures.memory_left)) (rw (front-effect _ _ _ _ _ v) (rw c.from-token.ensures at c.grant_out.ensures.buffer_left))
