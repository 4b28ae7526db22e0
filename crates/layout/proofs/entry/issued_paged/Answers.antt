-- `issued_paged` meets its contract: its fields fit, so that the words are read as the entry that was packed.
use Rattle.std.proofs.Common.{ap, rules, ◌∙◌}
use Rattle.layout.specs.Entry.{paged_number}
use Rattle.layout.proofs.EntryLaws.{paged-issued}
use Rattle.layout.proofs.entry.issued_paged.Goals as goal

pub returns : goal.returns
returns c = paged-issued _ _ _ _ _ (search rules) (search rules) (search rules) c.requires (c.paged_words.ensures ∙ ap paged_number c.paged.ensures)
