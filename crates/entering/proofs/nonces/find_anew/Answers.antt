-- `find_anew` meets its contract: in each turn the nonce does, or is passed over.
use Rattle.std.proofs.Common.{◌≡◌, sym, ◌∙◌, arith}
use Rattle.layout.specs.Entry.{entry_of, words_number}
use Rattle.machine.specs.Parts.{spent}
use Rattle.entering.proofs.NonceLaws.{finds, finds_none, pass-found, pass_none, pass_on}
use Rattle.entering.proofs.nonces.find_anew.Goals as goal

pub returns-then-tag-old : goal.returns-then-tag-old
returns-then-tag-old c = λ t held.
    let i = c.loop-next.invariant.1 in
    finds _ t _ _ _ held _ c.loop-next-test.true c.tag_under-tag.ensures (pass-found _ _ _ _ _ _ _ i c.loop-next-test.true c.tag_under-tag.ensures c.if-tag-old.true)

pub loop-next-preserved : goal.loop-next-preserved
loop-next-preserved c = (omega arith, pass_on _ _ _ _ _ _ _ c.loop-next.invariant.1 c.loop-next-test.true c.tag_under-tag.ensures c.if-tag-old.false)

pub returns : goal.returns
returns c = λ t held.
    let end : c.loop-next.next ≡ spent = omega (arith, c.loop-next.invariant.0) in
    finds_none _ t _ _ (entry_of (words_number c.args.w)) held (sym (pass_none _ _ _ _ _ _ c.loop-next.invariant.1 (omega (arith, end))) ∙ end)
