-- `images::load::load_rest` meets its contract: a law for each way out.
use borrow.Author.Tests.{le-leb, lt-leb}
use Rattle.machine.specs.Requests.{writing}
use Rattle.accesses.proofs.AccessLaws.{held_as}
use Rattle.images.proofs.ImageLaws.{load_in, load-out, load_right}
use Rattle.images.proofs.load.load_rest.Goals as goal

pub returns-then-not-holds : goal.returns-then-not-holds
returns-then-not-holds c =
    let e = c.entry_at-e in
    λ m u s φ b ends. load_right m s _ _ u φ b _ ends _ e.result c.args.token.reads e.ensures (held_as writing _ c.holds.ensures c.if-not-holds.true)

pub returns-then-end-segment : goal.returns-then-end-segment
returns-then-end-segment c =
    let e = c.entry_at-e in
    λ m u s φ b ends. load-out m s _ _ u φ b _ ends _ e.result c.args.token.reads e.ensures (held_as writing _ c.holds.ensures c.if-not-holds.false) (lt-leb _ _ (rw c.from-segment.ensures.1 at c.if-end-segment.true))

pub returns : goal.returns
returns c =
    let e = c.entry_at-e in
    λ m u s φ b ends. (load_in m s _ _ u φ b _ ends _ e.result c.args.token.reads e.ensures (held_as writing _ c.holds.ensures c.if-not-holds.false) (le-leb _ _ (rw c.from-segment.ensures.1 at c.if-end-segment.false)), (rw (c.from-segment.ensures.0, e.ensures, c.args.token.reads), rw (c.from-segment.ensures.1, e.ensures, c.args.token.reads)))
