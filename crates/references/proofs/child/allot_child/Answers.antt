-- `references::child::allot_child` meets its contract: the count is judged first.
use Rattle.references.proofs.ChildLaws.{child-allot, child-count}
use Rattle.references.proofs.child.allot_child.Goals as goal

pub returns-then-e-ge65535 : goal.returns-then-e-ge65535
returns-then-e-ge65535 c = child-count _ _ c.args.e c.if-e-ge65535.true

pub returns : goal.returns
returns c = rw (child-allot _ _ c.args.e c.if-e-ge65535.false) c.allot.ensures
