-- The loop's invariant of `table::line::trace`: the line of entry k, which is in the table, ends where that of entry n does. The nonce falls at each
-- link.
use Rattle.std.proofs.Common.{◌≡◌, ◌+◌, ◌*◌, ◌≤◌, false, length}
use Rattle.machine.specs.Line.{is_paged, line_of}
use Rattle.machine.specs.Parts.{at}
use Rattle.table.proofs.line.trace.Given as goal

abbrev pub invariant-loop-e : goal.invariant-loop-e
invariant-loop-e l = (32 * l.k + 32 ≤ length l.table) × (line_of l.memory l.table l.n ≡ line_of l.memory l.table l.k) × (is_paged (at l.table l.k) ≡ false)

abbrev pub decreases-loop-e : goal.decreases-loop-e
decreases-loop-e l = (at l.table l.k).nonce
