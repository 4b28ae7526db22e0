-- `images::load::check_load` meets its contract: place 1 is one test, then the text is judged, and then the token decides.
use Rattle.std.proofs.Common.{sym, ◌∙◌}
use Rattle.std.specs.Prelude.{Ok, Err}
use Rattle.std.proofs.lemmas.Result.{err_from_is_err_and}
use Rattle.rulings.proofs.RulingLaws.{request-stops}
use Rattle.images.proofs.ImageLaws.{load-request, load-text, told_lem}
use Rattle.images.proofs.load.check_load.Goals as goal

pub returns-then-not-set-request : goal.returns-then-not-set-request
returns-then-not-set-request c = λ s e.
    let token = c.from-token in
    request-stops _ _ _ _ _ (sym (load-request _ _ _ _ _ _ _) ∙ (rw (e, token.result.reads, token.ensures, c.shift_fits.ensures) at c.if-not-set-request.true))

pub returns-in_err-end : goal.returns-in_err-end
returns-in_err-end c = λ s e.
    let token = c.from-token in
    let p = err_from_is_err_and c.from_residual.result c.from_residual.ensures.1 in
    rw (p.1, p.2) (load-text _ s _ _ _ _ _ (sym (load-request _ _ _ _ _ _ _) ∙ (rw (e, token.result.reads, token.ensures, c.shift_fits.ensures) at c.if-not-set-request.false)) (told_lem _ _ (Err c.in_err-end.field-0.0) c.judge.ensures c.in_err-end.ensures.cases))

pub returns : goal.returns
returns c = λ s e.
    let token = c.from-token in
    let good = told_lem _ _ (Ok c.in_ok-end.end) c.judge.ensures c.in_ok-end.ensures.cases in
    (rw token.ensures at c.load_token.ensures) s _ _ good.1 good.0 (rw (token.result.reads, token.ensures) at c.judge_leases-window.ensures) (sym (load-request _ _ _ _ _ _ _) ∙ (rw (e, token.result.reads, token.ensures, c.shift_fits.ensures) at c.if-not-set-request.false))
