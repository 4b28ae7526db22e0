-- `count_of` meets its contract: the type picks the arm.
use Rattle.std.proofs.Common.{ap, arith, rules, sym, ◌∙◌}
use Rattle.layout.specs.declared.entry.Entry.{Entry}
use Rattle.layout.proofs.EntryLaws.{direct_at, direct_read, indirect_at, indirect_read, no_base_at}
use Rattle.layout.proofs.entry.count_of.Goals as goal

pub returns-in-1 : goal.returns-in-1
unfolding direct_read
returns-in-1 c = c.low.ensures.value ∙ ap (λ (e : Entry). e.count) (direct_at c.args.w (search rules) (sym c.kind_in.ensures ∙ c.in-1.is))

pub returns-in-2 : goal.returns-in-2
unfolding indirect_read
returns-in-2 c = c.low-in-2.ensures.value ∙ ap (λ (e : Entry). e.count) (indirect_at c.args.w (search rules) (sym c.kind_in.ensures ∙ c.in-2.is))

pub returns-in_default : goal.returns-in_default
returns-in_default c = (no_base_at c.args.w (search rules) (omega arith) (omega arith)).1
