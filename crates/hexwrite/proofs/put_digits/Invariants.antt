-- The loop's invariant: the digits of the first i bytes are stored, and the bytes summed.
use Rattle.hexwrite.proofs.WriteLaws.{Put, Total}
use Rattle.hexwrite.proofs.put_digits.Given as goal

abbrev pub invariant-loop-i : goal.invariant-loop-i
invariant-loop-i l = Put l.initial.out l.bytes l.out l.at l.i × Total l.bytes l.total l.i
