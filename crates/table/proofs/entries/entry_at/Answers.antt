-- `table::entries::entry_at` meets its contract: the part has 32 bytes.
use Rattle.std.proofs.Common.{arith}
use Rattle.machine.specs.Parts.{size}
use Rattle.machine.proofs.TableLaws.{at_in}
use Rattle.table.proofs.entries.entry_at.Goals as goal

pub returns : goal.returns
unfolding size
returns c = rw (at_in c.args.table.now c.args.n (omega arith)) (rw c.part_at.ensures at c.load.ensures)
