-- `entry_named` meets its contract: beyond the table nothing is named.
use Rattle.std.proofs.Common.{Bool, not, ◌&&◌, eqb, ◌∙◌, ap}
use Rattle.checks.proofs.ReachLaws.{entry_in, entry-out}
use Rattle.checks.proofs.reach.entry_named.Goals as goal

pub returns-then-number-table-clause-names : goal.returns-then-number-table-clause-names
returns-then-number-table-clause-names c = λ k is. entry-out _ k _ _ is c.if-number-table.true

pub returns-clause-names : goal.returns-clause-names
returns-clause-names c = λ k is.
    ap (λ (b : Bool). not (eqb c.entry_at-e.result.kind 0) && b) c.has_tag.ensures
    ∙ entry_in _ k _ _ is c.entry_at-e.result c.entry_at-e.ensures c.if-number-table.false
