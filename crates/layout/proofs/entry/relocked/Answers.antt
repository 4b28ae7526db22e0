-- `relocked` meets its contract: the type picks the arm.
use Rattle.std.proofs.Common.{arith, refl, rules, sym, ◌∙◌}
use Rattle.layout.proofs.EntryLaws.{other-words, relock_direct, relock_flag}
use Rattle.layout.proofs.entry.relocked.Goals as goal

pub returns-in-1 : goal.returns-in-1
returns-in-1 c = relock_direct c.args.w _ c.args.holder _ (search rules) (search rules) c.with_locked.ensures _ _ (search rules) (search rules) c.requires (sym c.kind_in.ensures ∙ c.in-1.is) c.two_fields.ensures (rw c.low.ensures.value at c.two_fields-in-1.ensures)

pub returns-in-2 : goal.returns-in-2
returns-in-2 c = relock_flag c.args.w _ c.args.holder _ (search rules) (search rules) c.with_locked-in-2.ensures (omega arith) (omega arith)

pub returns-in_default : goal.returns-in_default
returns-in_default c = other-words c.args.w _ (search rules) (omega arith) (omega arith) (omega arith) refl c.tag_of.ensures c.free_words.ensures
