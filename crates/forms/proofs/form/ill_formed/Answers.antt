-- `ill_formed` meets its contract: the type picks the cases.
use Rattle.std.proofs.Common.{arith, refl, sym, ◌∙◌}
use Rattle.layout.proofs.FormLaws.{ill_as, ill-above}
use Rattle.forms.proofs.form.ill_formed.Goals as goal

pub returns-in-0 : goal.returns-in-0
returns-in-0 c = sym (ill_as _ _ c.in-0.is)

pub returns-in-1 : goal.returns-in-1
returns-in-1 c = c.ill_direct.ensures ∙ sym (ill_as _ _ c.in-1.is)

pub returns-in-2 : goal.returns-in-2
returns-in-2 c = c.ill_indirect.ensures ∙ sym (ill_as _ _ c.in-2.is)

pub returns-in-3 : goal.returns-in-3
returns-in-3 c = c.ill_paged.ensures ∙ sym (ill_as _ _ c.in-3.is)

pub returns-in_default : goal.returns-in_default
returns-in_default c =
    sym (ill_as _ c.args.e refl ∙ ill-above _ c.args.e _ (omega arith) (omega arith) (omega arith) (omega arith))
