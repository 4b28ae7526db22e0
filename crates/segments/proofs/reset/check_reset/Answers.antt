-- `segments::reset::check_reset` meets its contract: one test decides.
use Rattle.std.proofs.Common.{sym, ◌∙◌}
use Rattle.rulings.proofs.RulingLaws.{request-stops}
use Rattle.segments.proofs.ResetLaws.{reset-pass, reset-request}
use Rattle.segments.proofs.reset.check_reset.Goals as goal

pub returns-then-not-sizes-nonce : goal.returns-then-not-sizes-nonce
returns-then-not-sizes-nonce c = λ s. sym (request-stops _ _ _ _ _ (sym (reset-request _ _ _ _ _ _) ∙ rw c.sizes.ensures at c.if-not-sizes-nonce.true))

pub returns : goal.returns
returns c = λ s. sym (reset-pass _ _ _ _ _ _ (sym (reset-request _ _ _ _ _ _) ∙ rw c.sizes.ensures at c.if-not-sizes-nonce.false))
