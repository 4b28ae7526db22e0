-- `issued_indirect` meets its contract: its fields fit, so that the words are read as the entry that was packed.
use Rattle.std.proofs.Common.{ap, rules, ◌∙◌}
use Rattle.layout.specs.Entry.{indirect_number}
use Rattle.layout.proofs.EntryLaws.{indirect-issued}
use Rattle.layout.proofs.entry.issued_indirect.Goals as goal

pub returns : goal.returns
returns c = indirect-issued _ _ _ _ (search rules) (search rules) (search rules) c.requires (c.indirect_words.ensures ∙ ap indirect_number c.indirect.ensures)
