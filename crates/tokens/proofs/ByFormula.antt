-- 02's paper 7: every verdict is as before.
-- Assumes nothing.
use mathlib.Core.Path.{sym}
use Rattle.tokens.specs.ByFormula.{AsBefore, verdict}
use Rattle.tokens.specs.Permissions.{within}
use Rattle.tokens.proofs.PermissionLaws.{rule}

pub as_before : AsBefore
unfolding AsBefore within
as_before wanted held = sym (rule verdict tt wanted held)
