-- `merges::merge::check_merge` meets its contract: a law for each way out.
use Rattle.std.proofs.Common.{sym, ◌∙◌}
use Rattle.std.proofs.lemmas.Result.{err_from_is_err_and}
use Rattle.checks.proofs.ReachLaws.{reach_in}
use Rattle.rulings.proofs.RulingLaws.{front-request}
use Rattle.merges.proofs.MergeLaws.{both-pass, first-stops, merge-asked, numbered, second-stops}
use Rattle.merges.proofs.merge.check_merge.Goals as goal

pub returns-then-not-settings-request : goal.returns-then-not-settings-request
returns-then-not-settings-request c = front-request _ _ _ _ _ (merge-asked _ _ _ c.args.request c.from-a.result c.from-b.result c.from-a.ensures c.from-b.ensures c.settings.ensures c.if-not-settings-request.true)

pub returns-in_err-reach_open : goal.returns-in_err-reach_open
returns-in_err-reach_open c =
    let p = err_from_is_err_and c.from_residual.result c.from_residual.ensures.1 in
    rw (p.1, p.2) (first-stops _ _ _ c.args.request c.from-a.result c.from-b.result c.from-a.ensures c.from-b.ensures (merge-asked _ _ _ c.args.request c.from-a.result c.from-b.result c.from-a.ensures c.from-b.ensures c.settings.ensures c.if-not-settings-request.false) c.in_err-reach_open.ensures)

pub returns-in_err-reach_open-2 : goal.returns-in_err-reach_open-2
returns-in_err-reach_open-2 c =
    let p = err_from_is_err_and c.from_residual-in_err-reach_open-2.result c.from_residual-in_err-reach_open-2.ensures.1 in
    rw (p.1, p.2) (second-stops _ _ _ c.args.request c.from-a.result c.from-b.result c.from-a.ensures c.from-b.ensures (merge-asked _ _ _ c.args.request c.from-a.result c.from-b.result c.from-a.ensures c.from-b.ensures c.settings.ensures c.if-not-settings-request.false) c.in_ok-reach_open.ensures.0 c.in_err-reach_open-2.ensures)

pub entry_at-requires : goal.entry_at-requires
entry_at-requires c = rw c.from-a.result.reads (reach_in _ _ _ _ c.in_ok-reach_open.ensures.0)

pub entry_at-requires-2 : goal.entry_at-requires-2
entry_at-requires-2 c = rw c.from-b.result.reads (reach_in _ _ _ _ c.in_ok-reach_open-2.ensures.0)

pub returns-in_err-neighbours : goal.returns-in_err-neighbours
returns-in_err-neighbours c =
    let p = err_from_is_err_and c.from_residual-in_err-neighbours.result c.from_residual-in_err-neighbours.ensures.1 in
    let n = numbered c.from-a.result _ c.from-a.ensures in
    let k = numbered c.from-b.result _ c.from-b.ensures in
    rw (p.1, p.2)
    (both-pass _ _ _ c.args.request c.from-a.result c.from-b.result c.from-a.ensures c.from-b.ensures (merge-asked _ _ _ c.args.request c.from-a.result c.from-b.result c.from-a.ensures c.from-b.ensures c.settings.ensures c.if-not-settings-request.false) c.in_ok-reach_open.ensures.0 c.in_ok-reach_open-2.ensures.0
    ∙ sym (c.in_err-neighbours.ensures _ _ _ _ _ _ _ (rw n at c.entry_at.ensures) (rw k at c.entry_at-2.ensures)))

pub returns : goal.returns
returns c =
    let n = numbered c.from-a.result _ c.from-a.ensures in
    let k = numbered c.from-b.result _ c.from-b.ensures in (
      both-pass _ _ _ c.args.request c.from-a.result c.from-b.result c.from-a.ensures c.from-b.ensures (merge-asked _ _ _ c.args.request c.from-a.result c.from-b.result c.from-a.ensures c.from-b.ensures c.settings.ensures c.if-not-settings-request.false) c.in_ok-reach_open.ensures.0 c.in_ok-reach_open-2.ensures.0
          ∙ sym (c.in_ok-neighbours.ensures _ _ _ _ _ _ _ (rw n at c.entry_at.ensures) (rw k at c.entry_at-2.ensures)),
      (n, k),
    )
