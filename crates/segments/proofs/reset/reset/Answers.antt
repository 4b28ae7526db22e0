-- `segments::reset::reset` meets its contract: it is decided by its verdict.
use Rattle.std.proofs.Common.{refl, sym}
use Rattle.std.proofs.lemmas.Result.{err_from_is_err_and}
use Rattle.table.specs.States.{state_as}
use Rattle.rulings.proofs.RulingLaws.{decided-pass, decided-stop}
use Rattle.rulings.proofs.ServedLaws.{served_quiet}
use Rattle.segments.proofs.ResetLaws.{reset-grants, reset-sizes}
use Rattle.segments.proofs.reset.reset.Goals as goal

pub returns-in_err-check_reset : goal.returns-in_err-check_reset
returns-in_err-check_reset c =
    let p = err_from_is_err_and c.from_residual.result c.from_residual.ensures.1 in
    rw (p.1, p.2) (served_quiet refl (λ b. refl) (λ b. refl) refl (decided-stop _ _ _ _ _ _ (sym (c.in_err-check_reset.ensures _))))

pub begin-requires : goal.begin-requires
begin-requires c = reset-sizes _ (state_as c.args.s.now) _ _ _ _ (sym (c.in_ok-check_reset.ensures _))

pub returns : goal.returns
returns c =
    served_quiet refl (λ b. refl) (λ b. refl) refl
    (decided-pass _ _ _ _ _ _ (reset-grants _ _ _ _ _ _ _ _ _ c.begin.ensures c.plain.ensures) (sym (c.in_ok-check_reset.ensures _)))
