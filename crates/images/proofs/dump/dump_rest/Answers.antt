-- `images::dump::dump_rest` meets its contract: a law for each way out.
use Rattle.machine.specs.Requests.{reading}
use Rattle.accesses.proofs.AccessLaws.{held_as}
use Rattle.images.proofs.ImageLaws.{dump-held, dump_right}
use Rattle.images.proofs.dump.dump_rest.Goals as goal

pub returns-then-not-holds : goal.returns-then-not-holds
returns-then-not-holds c =
    let e = c.entry_at-e in
    λ m u s φ b. dump_right m s _ _ u φ b _ e.result c.args.token.reads e.ensures (held_as reading _ c.holds.ensures c.if-not-holds.true)

pub returns : goal.returns
returns c =
    let e = c.entry_at-e in
    λ m u s φ b. (dump-held m s _ _ u φ b _ e.result c.args.token.reads e.ensures (held_as reading _ c.holds.ensures c.if-not-holds.false), (rw (c.from.ensures.0, e.ensures, c.args.token.reads), rw (c.from.ensures.1, e.ensures, c.args.token.reads)))
