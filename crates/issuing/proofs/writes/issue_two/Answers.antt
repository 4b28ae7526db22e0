-- `issue_two` meets its contract: one issue after the other; where the first is issued anew, the new number stays the same.
use Rattle.std.proofs.Common.{◌∙◌}
use Rattle.layout.specs.Entry.{entry_of, words_number}
use Rattle.issuing.proofs.WriteLaws.{new_kept, two_left}
use Rattle.issuing.proofs.writes.issue_two.Goals as goal

pub returns-clause-second_given : goal.returns-clause-second_given
returns-clause-second_given c = λ is full.
    let a = c.args in
    let p = c.requires.issues_two in
    let number = c.requires.number_value in
    let new = new_kept _ _ _ _ a.encoding _ _ p.found.one full p.first.laid (is ∙ number) in
    rw (c.one_less-s.ensures, ← is, ← new)
    (two_left _ _ _ _ _ _ _ _ _ (entry_of (words_number a.first)) (entry_of (words_number a.second)) a.new _ _ _ _ p.found c.enter-earlier.ensures.value c.enter-later.ensures.value c.enter-earlier.ensures.table_after c.enter-later.ensures.table_after)
