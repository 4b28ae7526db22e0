-- The search goes on from the nonce.
use Rattle.std.proofs.Common.{◌≡◌, ◌-◌, ◌≤◌}
use Rattle.layout.specs.Entry.{dated, entry_of, words_number}
use Rattle.machine.specs.Issuing.{pass_over}
use Rattle.machine.specs.Parts.{spent}
use Rattle.table.specs.States.{state_as}
use Rattle.entering.proofs.nonces.find_anew.Given as goal

abbrev pub invariant-loop-next : goal.invariant-loop-next
invariant-loop-next l =
    (l.next ≤ spent)
    × (pass_over (spent - l.s.next) (state_as l.s) l.n (dated (entry_of (words_number l.w))) l.old l.s.next
    ≡ pass_over (spent - l.next) (state_as l.s) l.n (dated (entry_of (words_number l.w))) l.old l.next)
