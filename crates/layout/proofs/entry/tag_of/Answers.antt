-- `tag_of` meets its contract: every type has the field there.
use Rattle.std.proofs.Common.{ap, rules, ◌∙◌}
use Rattle.layout.specs.declared.entry.Entry.{Entry}
use Rattle.layout.proofs.EntryLaws.{shared-read}
use Rattle.layout.proofs.entry.tag_of.Goals as goal

pub returns : goal.returns
returns c = c.low.ensures.value ∙ ap (λ (e : Entry). e.tag) (shared-read c.args.w (search rules))
