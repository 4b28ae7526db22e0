-- `accesses::access::access` meets its contract: it is decided by its verdict.
use Rattle.std.proofs.Common.{refl}
use Rattle.std.proofs.lemmas.Result.{err_from_is_err_and}
use Rattle.rulings.proofs.ServedLaws.{served, served-stop}
use Rattle.accesses.proofs.AccessLaws.{access-effect, access-grants, access-room}
use Rattle.accesses.proofs.access.access.Goals as goal

pub carry-requires : goal.carry-requires
carry-requires c = let q = c.in_ok-start.ensures _ c.settings-set.ensures in rw q.1 (access-room _ _ _ _ _ _ _ _ q.0)

pub returns-in_err-start : goal.returns-in_err-start
returns-in_err-start c =
    let p = err_from_is_err_and c.from_residual.result c.from_residual.ensures.1 in
    rw (p.1, p.2) (served-stop _ (c.in_err-start.ensures _ c.settings-set.ensures))

pub returns : goal.returns
returns c =
    let q = c.in_ok-start.ensures _ c.settings-set.ensures in
    let e = access-effect _ _ _ _ _ _ _ _ q.0 in
    served refl (access-grants _ _ _ _ _ _ _ _ _ c.plain.ensures q.0) (rw e (rw q.1 at c.carry.ensures.memory_left)) (rw e (rw q.1 at c.carry.ensures.buffer_left))
