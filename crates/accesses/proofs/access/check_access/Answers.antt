-- `accesses::access::check_access` meets its contract: place 1 is one test, and then the leases and the token decide.
use Rattle.std.proofs.Common.{refl, sym, ◌∙◌}
use Rattle.rulings.proofs.RulingLaws.{request-stops}
use Rattle.accesses.proofs.AccessLaws.{access-request}
use Rattle.accesses.proofs.access.check_access.Goals as goal

pub returns-then-not-set-request : goal.returns-then-not-set-request
returns-then-not-set-request c s e =
    request-stops _ _ _ _ _ (sym (access-request _ _ _ _ _ _ _ _) ∙ rw (e, c.shift_fits.ensures) at c.if-not-set-request.true)

pub returns : goal.returns
returns c s e =
    let token = c.from-token in
    (rw token.ensures at c.check_token.ensures) s _ _ refl (rw (token.result.reads, token.ensures) at c.judge_leases-window.ensures) (sym (access-request _ _ _ _ _ _ _ _) ∙ rw (e, c.shift_fits.ensures) at c.if-not-set-request.false)
