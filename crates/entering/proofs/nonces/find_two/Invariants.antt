-- The part is tried with the one nonce, and the rest with the other: all before were passed over.
use Rattle.std.proofs.Common.{◌-◌}
use Rattle.layout.specs.Entry.{dated, entry_of, words_number}
use Rattle.machine.specs.Parts.{spent}
use Rattle.table.specs.States.{state_as}
use Rattle.entering.proofs.NonceLaws.{Tries}
use Rattle.entering.proofs.nonces.find_two.Given as goal

abbrev pub invariant-loop-two : goal.invariant-loop-two
invariant-loop-two l =
    Tries (state_as l.s) l.n l.k (dated (entry_of (words_number l.first))) (dated (entry_of (words_number l.second))) l.last l.kept l.one l.two

abbrev pub decreases-loop-two : goal.decreases-loop-two
decreases-loop-two l = spent - l.two
