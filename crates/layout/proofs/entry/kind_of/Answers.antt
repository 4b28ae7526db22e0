-- `kind_of` meets its contract: every type has the field there.
use Rattle.std.proofs.Common.{ap, rules, ◌∙◌}
use Rattle.layout.specs.declared.entry.Entry.{Entry}
use Rattle.layout.proofs.EntryLaws.{shared-read}
use Rattle.layout.proofs.entry.kind_of.Goals as goal

pub returns : goal.returns
returns c = c.kind_in.ensures ∙ ap (λ (e : Entry). e.kind) (shared-read c.args.w (search rules))
