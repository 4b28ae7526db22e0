-- `references::clone::clone` meets its contract: it is decided by its verdict.
use Rattle.std.proofs.Common.{refl, sym, length}
use Rattle.std.proofs.lemmas.Result.{err_from_is_err_and}
use Rattle.rulings.proofs.RulingLaws.{decided-pass, decided-stop}
use Rattle.rulings.proofs.ServedLaws.{served_quiet}
use Rattle.references.proofs.CloneLaws.{clone-few, clone_in}
use Rattle.references.proofs.clone.clone.Goals as goal

pub grant_clone-requires-clause-in_bounds : goal.grant_clone-requires-clause-in_bounds
grant_clone-requires-clause-in_bounds c = rw c.from-token.result.reads (clone_in _ _ _ _ (sym c.in_ok-check_clone.ensures))

pub grant_clone-requires-clause-has_room : goal.grant_clone-requires-clause-has_room
grant_clone-requires-clause-has_room c = rw c.from-token.result.reads (clone-few _ _ _ _ (sym c.in_ok-check_clone.ensures))

pub returns-in_err-check_clone : goal.returns-in_err-check_clone
returns-in_err-check_clone c =
    let p = err_from_is_err_and c.from_residual.result c.from_residual.ensures.1 in
    rw (p.1, p.2) (served_quiet refl (λ b. refl) (λ b. refl) refl (decided-stop _ _ _ _ _ _ (sym (rw c.from-token.ensures at c.in_err-check_clone.ensures))))

pub returns : goal.returns
returns c =
    served_quiet refl (λ b. refl) (λ b. refl) refl
    (decided-pass _ _ _ _ _ _ (rw c.from-token.ensures at (c.grant_clone.ensures (length c.args.memory.now) c.args.s)) (sym (rw c.from-token.ensures at c.in_ok-check_clone.ensures)))
