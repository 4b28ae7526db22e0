-- `climbs::climb::fall` meets its contract: from an entry that is freed the climb goes on to its parent.
use Rattle.climbs.proofs.ClimbLaws.{fall_in, fall_up}
use Rattle.climbs.proofs.climb.fall.Goals as goal

pub settle-requires : goal.settle-requires
settle-requires c =
    let v = c.vacate-freed.ensures in
    fall_in _ _ _ c.entry_at-e.result c.linked.result _ _ _ c.entry_at-e.ensures c.linked.ensures c.if-e-linked.true v.value v.table_after c.parent_number-p.ensures

pub returns-then-e-linked : goal.returns-then-e-linked
returns-then-e-linked c =
    let v = c.vacate-freed.ensures in
    fall_up _ _ _ c.entry_at-e.result c.linked.result _ _ _ c.entry_at-e.ensures c.linked.ensures c.if-e-linked.true v.value v.table_after c.parent_number-p.ensures _ _ c.settle.ensures
