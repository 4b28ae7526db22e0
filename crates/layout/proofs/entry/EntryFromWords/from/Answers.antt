-- `Entry::from` meets its contract: the type picks the arm.
use Rattle.std.proofs.Common.{arith, rules, sym, ◌∙◌}
use Rattle.layout.proofs.EntryLaws.{entry_read, other_at}
use Rattle.layout.proofs.entry.EntryFromWords.from.Goals as goal

pub returns-in-1 : goal.returns-in-1
returns-in-1 c = c.direct_of.ensures ∙ sym (entry_read _ (search rules) (sym c.kind_in.ensures ∙ c.in-1.is))

pub returns-in-2 : goal.returns-in-2
returns-in-2 c = c.indirect_of.ensures ∙ sym (entry_read _ (search rules) (sym c.kind_in.ensures ∙ c.in-2.is))

pub returns-in-3 : goal.returns-in-3
returns-in-3 c = c.paged_of.ensures ∙ sym (entry_read _ (search rules) (sym c.kind_in.ensures ∙ c.in-3.is))

pub returns-in_default : goal.returns-in_default
returns-in_default c = rw c.kind_in.ensures at c.end_of.ensures ∙ other_at c.args.w (search rules) (omega arith) (omega arith) (omega arith)
