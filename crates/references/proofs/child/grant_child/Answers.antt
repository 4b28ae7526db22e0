-- `references::child::grant_child` meets its contract: the sums fit, and both entries stand in the table.
use Rattle.std.proofs.lemmas.Result.{err_from_is_err_and}
use Rattle.layout.specs.Entry.{entry_of, words_number}
use Rattle.references.proofs.ChildLaws.{child-grants, child-spent}
use Rattle.references.proofs.child.grant_child.Goals as goal

pub returns-in_err-found : goal.returns-in_err-found
returns-in_err-found c =
    let p = err_from_is_err_and c.from_residual.result c.from_residual.ensures.1 in
    let none = c.in_err-found.ensures.ok_part in
    rw (p.1, p.2)
    (child-spent c.args.s.now _ _ _ _ _ _ _ (entry_of (words_number c.words_at-w.result)) (entry_of (words_number c.issued_indirect-child.result)) _ c.words_at-w.ensures (rw c.tag_of.ensures at c.token_of-parent.ensures) (rw c.base_of.ensures at c.issued_indirect-child.ensures) c.requires.number
    _ (rw none at c.find.ensures) (rw none at c.in_err-found.ensures.value))

pub returns : goal.returns
returns c =
    child-grants c.args.s.now _ _ _ _ _ _ _ (entry_of (words_number c.words_at-w.result)) (entry_of (words_number c.issued_indirect-child.result)) _ c.words_at-w.ensures (rw c.tag_of.ensures at c.token_of-parent.ensures) (rw c.base_of.ensures at c.issued_indirect-child.ensures) c.requires.number
    c.in_ok-found.found _ _ _ _ _ _ (rw c.in_ok-found.ensures.ok_part at c.find.ensures) c.give-given.ensures c.count_of.ensures c.recount.ensures c.giving.ensures
