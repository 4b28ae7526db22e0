-- `table::cut::cut_at` meets its contract: the part has 32 bytes.
use Rattle.std.proofs.Common.{◌≡◌, ◌*◌, ◌/◌, ap, arith}
use Rattle.layout.specs.Entry.{entry_of}
use Rattle.machine.specs.Parts.{size}
use Rattle.machine.proofs.TableLaws.{at_in}
use Rattle.table.proofs.cut.cut_at.Goals as goal

pub returns : goal.returns
unfolding size
returns c =
    let a = c.args in
    let p = c.requires in
    let whole : 32 * (a.byte / 32) ≡ a.byte = omega arith in (
      c.read_cut.ensures.0,
      rw (at_in a.table.now (a.byte / 32) (omega arith), whole) (ap entry_of (rw c.part_at.ensures at c.read_cut.ensures.1)),
    )
