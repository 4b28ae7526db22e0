-- `recounted` meets its contract: the type picks the arm.
use Rattle.std.proofs.Common.{arith, refl, rules, sym, ◌∙◌}
use Rattle.layout.proofs.EntryLaws.{other-words, recount-direct, recount-indirect, recount-paged}
use Rattle.layout.proofs.entry.recounted.Goals as goal

pub returns-in-1 : goal.returns-in-1
returns-in-1 c = recount-direct c.args.w _ _ (search rules) (search rules) (search rules) (sym c.kind_in.ensures ∙ c.in-1.is) (rw c.from.ensures at c.replaced.ensures)

pub returns-in-2 : goal.returns-in-2
returns-in-2 c = recount-indirect c.args.w _ _ (search rules) (search rules) (search rules) (sym c.kind_in.ensures ∙ c.in-2.is) (rw c.from-in-2.ensures at c.replaced-in-2.ensures)

pub returns-in-3 : goal.returns-in-3
returns-in-3 c = recount-paged c.args.w _ (search rules) (sym c.kind_in.ensures ∙ c.in-3.is)

pub returns-in_default : goal.returns-in_default
returns-in_default c = other-words c.args.w _ (search rules) (omega arith) (omega arith) (omega arith) refl c.tag_of.ensures c.free_words.ensures
