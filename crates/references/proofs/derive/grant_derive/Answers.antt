-- `references::derive::grant_derive` meets its contract: the part lies in the segment, so that its numbers fit.
use Rattle.std.proofs.Common.{arith}
use Rattle.references.proofs.DeriveLaws.{derive_bears, derive-grants, derive-short}
use Rattle.references.proofs.derive.grant_derive.Goals as goal

pub overflow_cast-part : goal.overflow_cast-part
overflow_cast-part c = omega (arith, (derive-short _ _ _ _ _ _ _ _ c.requires.0).1.0)

pub overflow_cast-part-2 : goal.overflow_cast-part-2
overflow_cast-part-2 c = omega (arith, (derive-short _ _ _ _ _ _ _ _ c.requires.0).0)

pub overflow_cast-part-3 : goal.overflow_cast-part-3
overflow_cast-part-3 c = omega (arith, (derive-short _ _ _ _ _ _ _ _ c.requires.0).1.1)

pub grant_child-requires : goal.grant_child-requires
grant_child-requires c = rw c.args.token.reads (derive_bears _ _ _ _ _ _ _ _ c.requires.0 _ c.requires.1)

pub returns : goal.returns
returns c = derive-grants _ _ _ _ _ _ _ _ _ c.args.token.reads c.grant_child.ensures
