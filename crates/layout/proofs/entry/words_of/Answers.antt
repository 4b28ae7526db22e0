-- `words_of` meets its contract: the type picks the arm.
use Rattle.std.proofs.Common.{arith, sym, ◌∙◌}
use Rattle.layout.proofs.EntryLaws.{as_free, number_as}
use Rattle.layout.proofs.entry.words_of.Goals as goal

pub returns-in-1 : goal.returns-in-1
returns-in-1 c = c.direct_words.ensures ∙ sym (number_as _ c.in-1.is)

pub returns-in-2 : goal.returns-in-2
returns-in-2 c = c.indirect_words.ensures ∙ sym (number_as _ c.in-2.is)

pub returns-in-3 : goal.returns-in-3
returns-in-3 c = c.paged_words.ensures ∙ sym (number_as _ c.in-3.is)

pub returns-in_default : goal.returns-in_default
returns-in_default c = c.free_words.ensures ∙ as_free c.args.e (omega arith) (omega arith) (omega arith)
