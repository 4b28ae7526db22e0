-- `segments::revoke::revoke` meets its contract: it is decided by its verdict, and so is what it does to memory.
use Rattle.std.proofs.Common.{refl, sym}
use Rattle.std.proofs.lemmas.Result.{err_from_is_err_and}
use Rattle.machine.specs.Requests.{revoke}
use Rattle.rulings.proofs.RulingLaws.{decided-stop, effect-stop, front-decided, front-effect, front-stop}
use Rattle.rulings.proofs.ServedLaws.{served_alone}
use Rattle.segments.proofs.revoke.revoke.Goals as goal

pub returns-in_err-check_revoke : goal.returns-in_err-check_revoke
returns-in_err-check_revoke c =
    let p = err_from_is_err_and c.from_residual.result c.from_residual.ensures.1 in
    let v = front-stop _ _ _ (revoke c.args.token c.args.encoding) _ (sym (rw c.from-token.ensures at c.in_err-check_revoke.ensures)) in
    rw (p.1, p.2) (served_alone refl (λ b. refl) (λ b. refl) refl (decided-stop _ _ _ _ _ _ v) (rw (effect-stop _ _ _ _ _ v)))

pub returns : goal.returns
returns c =
    let v = sym (rw c.from-token.ensures at c.in_ok-check_revoke.ensures) in
    served_alone refl (λ b. refl) (λ b. refl) refl (front-decided _ _ _ (revoke c.args.token c.args.encoding) _ v _ (rw c.from-token.ensures at c.grant_revoke.ensures.outcome))
    (rw (front-effect _ _ _ (revoke c.args.token c.args.encoding) _ v) (rw c.from-token.ensures at c.grant_revoke.ensures.memory_left))
