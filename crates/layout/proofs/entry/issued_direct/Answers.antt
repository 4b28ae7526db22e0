-- `issued_direct` meets its contract: its fields fit, so that the words are read as the entry that was packed.
use Rattle.std.proofs.Common.{ap, rules, ◌∙◌}
use Rattle.layout.specs.Entry.{direct_number}
use Rattle.layout.proofs.EntryLaws.{direct-issued}
use Rattle.layout.proofs.entry.issued_direct.Goals as goal

pub returns : goal.returns
returns c = direct-issued _ _ _ _ _ (search rules) (search rules) (search rules) c.requires (c.direct_words.ensures ∙ ap direct_number c.direct.ensures)
