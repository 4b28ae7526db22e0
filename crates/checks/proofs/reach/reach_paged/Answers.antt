-- `reach_paged` meets its contract: one law for each way out.
use Rattle.std.proofs.Common.{sym, ◌∙◌}
use Rattle.std.proofs.lemmas.Result.{err_from_is_err_and}
use Rattle.checks.proofs.ReachLaws.{ill_named, page-ill, page-named, page-other, page_out_lem, read_as, unpaged}
use Rattle.checks.proofs.reach.reach_paged.Goals as goal

pub returns-then-not-entry_named : goal.returns-then-not-entry_named
returns-then-not-entry_named c = sym (page-named _ _ _ _ (sym (c.if-not-entry_named.ensures.names _ (read_as _ _ c.args.token.reads))))

pub returns-in_err-reach_open : goal.returns-in_err-reach_open
returns-in_err-reach_open c =
    let p = err_from_is_err_and c.from_residual.result c.from_residual.ensures.1 in
    rw (p.1, p.2) (sym (page-other _ _ _ _ (sym (c.if-not-entry_named.ensures.names _ (read_as _ _ c.args.token.reads))) (unpaged _ _ c.args.token.reads _ c.if-not-is_paged.ensures) ∙ c.in_err-reach_open.ensures))

pub returns-then-not-is_paged : goal.returns-then-not-is_paged
returns-then-not-is_paged c =
    sym (page-other _ _ _ _ (sym (c.if-not-entry_named.ensures.names _ (read_as _ _ c.args.token.reads))) (unpaged _ _ c.args.token.reads _ c.if-not-is_paged.ensures) ∙ c.in_ok-reach_open.ensures.0)

pub returns-then-ill_formed : goal.returns-then-ill_formed
returns-then-ill_formed c =
    sym (page-ill _ _ _ _ (sym (c.if-not-entry_named.ensures.names _ (read_as _ _ c.args.token.reads))) (unpaged _ _ c.args.token.reads _ c.if-not-is_paged.ensures) (ill_named _ _ c.args.token.reads _ _ c.entry_at.result c.entry_at.ensures c.if-ill_formed.ensures))

pub returns : goal.returns
returns c =
    sym (page_out_lem _ _ _ _ (sym (c.if-not-entry_named.ensures.names _ (read_as _ _ c.args.token.reads))) (unpaged _ _ c.args.token.reads _ c.if-not-is_paged.ensures) (ill_named _ _ c.args.token.reads _ _ c.entry_at.result c.entry_at.ensures c.if-ill_formed.ensures))
