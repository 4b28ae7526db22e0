-- `table::entries::part_at` meets its contract: the array is the whole slice.
use native.Mathlib.Nat.{add-sub_cancel_left}
use Rattle.table.proofs.entries.part_at.Goals as goal

pub returns : goal.returns
returns c = rw add-sub_cancel_left at (rw c.unwrap.ensures at c.as_array.ensures.cases).same
