-- `accesses::access::check_transfer` meets its contract: a law for each way out.
use Rattle.std.proofs.Common.{sym, ◌∙◌}
use Rattle.rulings.specs.Asked.{way_as}
use Rattle.accesses.proofs.AccessLaws.{held_as, transfer_in, transfer-out, transfer_right}
use Rattle.accesses.proofs.access.check_transfer.Goals as goal

pub returns-then-not-holds : goal.returns-then-not-holds
returns-then-not-holds c m u s φ b long =
    let a = c.args in
    let e = c.entry_at-e in
    transfer_right m s _ (way_as a.way) _ u φ b _ long _ e.result a.token.reads e.ensures (held_as (way_as a.way) _ c.holds.ensures c.if-not-holds.true)

pub returns-then-not-inside : goal.returns-then-not-inside
returns-then-not-inside c m u s φ b long =
    let a = c.args in
    let e = c.entry_at-e in
    transfer-out m s _ (way_as a.way) _ u φ b _ long _ e.result a.token.reads e.ensures (held_as (way_as a.way) _ c.holds.ensures c.if-not-holds.false) (sym c.inside.ensures ∙ c.if-not-inside.true)

pub returns : goal.returns
returns c m u s φ b long =
    let a = c.args in
    let e = c.entry_at-e in
    (transfer_in m s _ (way_as a.way) _ u φ b _ long _ e.result a.token.reads e.ensures (held_as (way_as a.way) _ c.holds.ensures c.if-not-holds.false) (sym c.inside.ensures ∙ c.if-not-inside.false), rw (e.ensures, a.token.reads))
