-- The loop's invariant of `table::line::climb`: the line of the entry at the byte, whose parts are read, ends where that of entry n does. The nonce
-- falls at each link.
use Rattle.std.proofs.Common.{◌/◌}
use Rattle.machine.specs.Parts.{at}
use Rattle.table.proofs.CutLaws.{Climbing}
use Rattle.table.proofs.line.climb.Given as goal

abbrev pub invariant-loop-c : goal.invariant-loop-c
invariant-loop-c l = Climbing l.memory l.table l.n l.room l.byte l.c

abbrev pub decreases-loop-c : goal.decreases-loop-c
decreases-loop-c l = (at l.table (l.byte / 32)).nonce
