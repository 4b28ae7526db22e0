-- `drops::drop::grant_drop` meets its contract: a law for each way out.
use Rattle.std.proofs.Common.{eq-eqb, ne_eqb}
use Rattle.drops.proofs.DropLaws.{drop_in, drop-kept, drop_more, drop_one}
use Rattle.drops.proofs.drop.grant_drop.Goals as goal

pub entry_at-e-requires : goal.entry_at-e-requires
entry_at-e-requires c = rw c.args.token.reads (drop_in _ _ _ _ c.requires.token_value)

pub returns-then-one-locked : goal.returns-then-one-locked
returns-then-one-locked c =
    drop-kept _ _ _ _ c.args.token.named c.entry_at-e.result _ c.args.token.reads c.entry_at-e.ensures c.requires.locked_value _ c.if-one-locked.true c.plain.ensures

pub fall-s-requires : goal.fall-s-requires
fall-s-requires c = rw c.args.token.reads (drop_in _ _ _ _ c.requires.token_value)

pub returns-then-one : goal.returns-then-one
returns-then-one c =
    drop_one _ _ _ _ c.args.token.named c.entry_at-e.result _ c.args.token.reads c.entry_at-e.ensures c.requires.locked_value _ _ _ c.fall-s.ensures c.if-one-locked.false (eq-eqb _ _ c.if-one.true) c.plain-then-one.ensures

pub returns-else-one : goal.returns-else-one
returns-else-one c =
    drop_more _ _ _ _ c.args.token.named c.entry_at-e.result _ c.args.token.reads c.entry_at-e.ensures c.requires.locked_value _ _ _ c.fall-s.ensures c.if-one-locked.false (ne_eqb _ _ c.if-one.false) c.plain-else-one.ensures
