-- `images::dump::check_dump` meets its contract: place 1 is one test, and then the token decides.
use Rattle.std.proofs.Common.{sym, ◌∙◌}
use Rattle.rulings.proofs.RulingLaws.{request-stops}
use Rattle.images.proofs.ImageLaws.{dump-request}
use Rattle.images.proofs.dump.check_dump.Goals as goal

pub returns-then-not-set-request : goal.returns-then-not-set-request
returns-then-not-set-request c = λ s b e.
    let token = c.from-token in
    request-stops _ _ _ _ _ (sym (dump-request _ _ _ _ _ _ _) ∙ (rw (e, token.result.reads, token.ensures, c.shift_fits.ensures) at c.if-not-set-request.true))

pub returns : goal.returns
returns c = λ s b e.
    let token = c.from-token in
    (rw token.ensures at c.dump_token.ensures) s _ b (rw (token.result.reads, token.ensures) at c.judge_leases-window.ensures) (sym (dump-request _ _ _ _ _ _ _) ∙ (rw (e, token.result.reads, token.ensures, c.shift_fits.ensures) at c.if-not-set-request.false))
