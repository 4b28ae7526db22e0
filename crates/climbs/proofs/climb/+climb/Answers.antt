-- `climbs::climb::climb` meets its contract: one law for each way out.
use Rattle.std.proofs.Common.{arith, eqb, ◌∙◌}
use borrow.Author.Tests.{eqb-false}
use Rattle.climbs.proofs.ClimbLaws.{climb_at_less, climb_at_none, climb-gone, climb_next, climb-there, climb_up, count_one, neither}
use Rattle.climbs.proofs.climb.+climb.Goals as goal

pub returns-then-e-eq0 : goal.returns-then-e-eq0
returns-then-e-eq0 t c = rw c.ended.ensures (climb_at_none _ _ _ c.entry_at-e.result (omega arith) c.entry_at-e.ensures c.if-e-eq0.true)

pub returns-then-e : goal.returns-then-e
returns-then-e t c = rw c.ended-then-e.ensures (climb_at_less _ _ _ c.entry_at-e.result _ _ (omega arith) c.entry_at-e.ensures c.if-e-eq0.false c.if-e.true c.words_at.ensures c.recount.ensures)

pub climb-requires : goal.climb-requires
climb-requires t c =
    let some = eqb-false c.args.calls 0 (neither (eqb c.args.calls 0) (eqb c.args.n 0) c.if-calls-n.false).0 in (
      omega arith,
      (climb-there _ _ c.entry_at-e.result c.linked-up.result _ c.entry_at-e.ensures c.linked-up.ensures c.empty.ensures _ c.parent_number-p.ensures c.if-not-up.false, omega arith),
    )

pub returns-then-not-up : goal.returns-then-not-up
returns-then-not-up t c =
    climb-gone _ _ c.entry_at-e.result c.linked-up.result _ c.entry_at-e.ensures c.if-e-eq0.false c.if-e.false c.linked-up.ensures c.empty.ensures
    _ _ (omega arith) (c.ended-then-not-up.ensures ∙ c.counted.ensures) c.if-not-up.true

pub returns-then-calls-n : goal.returns-then-calls-n
returns-then-calls-n t c =
    climb_next _ _ c.entry_at-e.result c.linked-up.result _ c.entry_at-e.ensures c.if-e-eq0.false c.if-e.false c.linked-up.ensures c.empty.ensures _ _ (omega arith) c.counted-then-calls-n.ensures
    _ c.parent_number-p.ensures c.if-not-up.false _ c.onward.ensures

pub returns : goal.returns
returns t c =
    let n = neither (eqb c.args.calls 0) (eqb c.args.n 0) c.if-calls-n.false in
    climb_up _ _ c.entry_at-e.result c.linked-up.result _ c.entry_at-e.ensures c.if-e-eq0.false c.if-e.false c.linked-up.ensures c.empty.ensures
    _ _ (omega arith) (omega (arith, count_one c.args.n n.1, eqb-false c.args.calls 0 n.0)) _ c.parent_number-p.ensures c.if-not-up.false _ _ c.climb.ensures
