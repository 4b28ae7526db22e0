-- `paging::page_in::page_in` meets its contract: it is decided by its verdict, and so is what it does to memory.
use Rattle.std.proofs.Common.{◌≡◌, refl, sym}
use Rattle.std.proofs.lemmas.Result.{err_from_is_err_and}
use Rattle.machine.specs.Operations.{Effect}
use Rattle.machine.specs.Steps.{buffer_after}
use Rattle.rulings.proofs.RulingLaws.{by_effect, front-decided, front-effect, front-stop}
use Rattle.rulings.proofs.ServedLaws.{served, served-stop}
use Rattle.paging.proofs.page_in.page_in.Goals as goal

pub returns-in_err-check_in : goal.returns-in_err-check_in
returns-in_err-check_in c =
    let p = err_from_is_err_and c.from_residual.result c.from_residual.ensures.1 in
    rw (p.1, p.2) (served-stop _ (front-stop _ _ _ _ _ (rw (c.from-token.ensures, c.from-donor.ensures) at (sym c.in_err-check_in.ensures))))

pub returns : goal.returns
returns c =
    let v = rw (c.from-token.ensures, c.from-donor.ensures) at (sym c.in_ok-check_in.ensures) in
    served refl (front-decided _ _ _ _ _ v _ (rw (c.from-token.ensures, c.from-donor.ensures) at c.grant_in.ensures.outcome)) (rw (front-effect _ _ _ _ _ v) (rw (c.from-token.ensures, c.from-donor.ensures) at c.grant_in.ensures.memory_left))
    (by_effect (λ (f : Effect). c.args.buffer.now ≡ buffer_after f c.args.memory.now c.args.buffer.now) _ _ _ _ _ refl refl)
