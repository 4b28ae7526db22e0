-- `references::derive::check_part` meets its contract: one law for each way out.
use Rattle.references.proofs.DeriveLaws.{part-bounds, part-child, part_right}
use Rattle.references.proofs.derive.check_part.Goals as goal

pub returns-then-not-within : goal.returns-then-not-within
returns-then-not-within c =
    λ m. part_right m _ _ _ _ _ _ _ _ c.entry_at-e.result _ c.args.token.reads c.entry_at-e.ensures c.within.ensures (rw c.if-not-within.true)

pub returns-then-not-inside : goal.returns-then-not-inside
returns-then-not-inside c =
    λ m. part-bounds m _ _ _ _ _ _ _ _ c.entry_at-e.result _ c.args.token.reads c.entry_at-e.ensures c.within.ensures _ (rw c.from.ensures at c.inside.ensures) (rw c.if-not-within.false) (rw c.if-not-inside.true)

pub returns : goal.returns
returns c =
    λ m. rw
    (part-child m _ _ _ _ _ _ _ _ c.entry_at-e.result _ c.args.token.reads c.entry_at-e.ensures c.within.ensures _ (rw c.from.ensures at c.inside.ensures) (rw c.if-not-within.false) (rw c.if-not-inside.false))
    c.allot_child.ensures
