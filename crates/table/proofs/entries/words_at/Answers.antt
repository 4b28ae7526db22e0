-- `table::entries::words_at` meets its contract: the part has 32 bytes.
use Rattle.std.proofs.Common.{ap, arith}
use Rattle.layout.specs.Entry.{entry_of}
use Rattle.machine.specs.Parts.{size}
use Rattle.machine.proofs.TableLaws.{at_in}
use Rattle.table.proofs.entries.words_at.Goals as goal

pub returns : goal.returns
unfolding size
returns c = rw (at_in c.args.table.now c.args.n (omega arith)) (ap entry_of (rw c.part_at.ensures at c.read_words.ensures))
