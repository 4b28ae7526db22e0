-- `altering::writes::begin` meets its contract: the table is cleared, then holds the root.
use Rattle.std.proofs.Common.{refl, arith}
use Rattle.layout.specs.Entry.{laid_direct}
use Rattle.layout.proofs.EntryLaws.{laid-words}
use Rattle.table.specs.States.{state_as}
use Rattle.altering.proofs.WriteLaws.{begin_left}
use Rattle.altering.proofs.writes.begin.Goals as goal

pub returns : goal.returns
returns c =
    let w = c.issued_direct in
    begin_left (state_as c.args.s.now) _ _ _ _ _ _ _ _ c.most_free-total.ensures c.clear.ensures
    (c.put_words.ensures _ (laid-words w.result (omega (arith, w.type_inv)) (laid_direct refl) w.ensures))
