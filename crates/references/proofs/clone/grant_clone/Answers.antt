-- `references::clone::grant_clone` meets its contract: the count has room.
use Rattle.std.proofs.Common.{◌<◌, arith}
use Rattle.references.proofs.CloneLaws.{clone-grants}
use Rattle.references.proofs.clone.grant_clone.Goals as goal

pub overflow_add-count_of : goal.overflow_add-count_of
overflow_add-count_of c =
    let few : c.count_of.result < 65535 = rw (c.count_of.ensures, c.words_at-w.ensures) c.requires.has_room in
    omega (arith, few)

pub returns : goal.returns
returns c =
    λ m s. clone-grants m s _ _ c.args.token.named _ _ _ c.args.token.reads (rw c.words_at-w.ensures at c.count_of.ensures) (rw c.words_at-w.ensures at c.recount.ensures) c.plain.ensures
