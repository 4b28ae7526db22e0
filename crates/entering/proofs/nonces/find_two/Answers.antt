-- `find_two` meets its contract: in each turn both do, or one is passed over.
use Rattle.std.proofs.Common.{not, eqb}
use borrow.Author.Tests.{eqb-false, not-true}
use Rattle.layout.specs.Entry.{entry_of, words_number}
use Rattle.bits.proofs.TestLaws.{both}
use Rattle.entering.proofs.NonceLaws.{found-both, found_none, tries_on}
use Rattle.entering.proofs.nonces.find_two.Goals as goal

pub returns-then-t-last : goal.returns-then-t-last
returns-then-t-last c =
    let t = c.two_tags-t in
    let two = both (not (eqb t.result.first c.held-last.result)) (not (eqb t.result.second c.held-kept.result)) c.if-t-last.true in
    found-both _ _ _ _ _ _ c.requires.next_le_spent.1 _ _ c.held-last.ensures c.held-kept.ensures _ c.loop-two-test.true c.loop-two.invariant (t.ensures.0 _ c.stamped-a.ensures) (t.ensures.1 _ c.stamped-b.ensures)
    (eqb-false _ _ (not-true _ two.0)) (eqb-false _ _ (not-true _ two.1))

pub loop-two-preserved : goal.loop-two-preserved
loop-two-preserved c =
    rw (c.rest_next-two.ensures, c.part_next-one.ensures)
    (tries_on _ _ _ _ _ _ _ _ _ _ _ c.loop-two.invariant c.loop-two-test.true (c.two_tags-t.ensures.0 _ c.stamped-a.ensures) (c.two_tags-t.ensures.1 _ c.stamped-b.ensures) c.if-t-last.false)

pub returns : goal.returns
returns c =
    let a = c.args in
    found_none _ _ _ _ (entry_of (words_number a.first)) (entry_of (words_number a.second)) c.requires.next_le_spent.1 _ _ c.held-last.ensures c.held-kept.ensures _ _ c.loop-two-test.false c.loop-two.invariant
