-- `paging::page_in::reach_both` meets its contract: one law for each way out.
use Rattle.std.proofs.Common.{sym, ◌∙◌}
use Rattle.std.proofs.lemmas.Result.{err_from_is_err_and}
use Rattle.paging.proofs.InLaws.{in_first, in_second}
use Rattle.paging.proofs.page_in.reach_both.Goals as goal

pub returns-in_err-reach_paged : goal.returns-in_err-reach_paged
returns-in_err-reach_paged c =
    let p = err_from_is_err_and c.from_residual.result c.from_residual.ensures.1 in
    λ s n b. rw (p.1, p.2) (sym (in_first _ _ _ _ _ _ _ _ (sym c.in_err-reach_paged.ensures)))

pub returns : goal.returns
returns c = λ s n b. c.reach_paged-2.ensures ∙ sym (in_second _ _ _ _ _ _ _ _ (sym c.in_ok-reach_paged.ensures))
