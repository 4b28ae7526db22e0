-- `reach_live` meets its contract: one law for each way out.
use Rattle.std.proofs.Common.{sym, ◌∙◌, ap}
use Rattle.machine.specs.Line as line
use Rattle.machine.specs.Steps.{stop}
use Rattle.machine.specs.Stops.{at_form, at_line}
use Rattle.checks.proofs.ReachLaws.{live-dead, live-ill, live-named, live-owner, live-paged}
use Rattle.checks.proofs.reach.reach_live.Goals as goal

pub returns-then-not-entry_named : goal.returns-then-not-entry_named
returns-then-not-entry_named c = λ k is. live-named _ _ _ (sym (c.if-not-entry_named.ensures.names k is))

pub returns-then-is_paged : goal.returns-then-is_paged
returns-then-is_paged c = λ k is. live-paged _ _ _ (sym (c.if-not-entry_named.ensures.names k is)) (sym (rw is.numbered at c.if-is_paged.ensures))

pub returns-in-Ok : goal.returns-in-Ok
returns-in-Ok c = λ k is.
    let l = sym (rw is.numbered at c.in-Ok.ensures.result_value) in
    (live-owner _ _ _ (sym (c.if-not-entry_named.ensures.names k is)) (sym (rw is.numbered at c.if-is_paged.ensures)) _ l, (l, c.in-Ok.ensures.result_in_bounds))

pub returns-in-Err-Dead : goal.returns-in-Err-Dead
returns-in-Err-Dead c = λ k is.
    let l = sym (rw is.numbered at (rw c.in-Err-Dead.field-0-is at c.in-Err-Dead.ensures.result_value)) in
    live-dead _ _ _ (sym (c.if-not-entry_named.ensures.names k is)) (sym (rw is.numbered at c.if-is_paged.ensures)) _ l
    ∙ ap (λ (b : line.Bad). stop (at_line b)) (sym (rw is.numbered at c.bad.ensures))

pub returns-in-Err-Ill : goal.returns-in-Err-Ill
returns-in-Err-Ill c = λ k is.
    let l = sym (rw is.numbered at (rw c.in-Err-Ill.field-0-is at c.in-Err-Ill.ensures.result_value)) in
    live-ill _ _ _ (sym (c.if-not-entry_named.ensures.names k is)) (sym (rw is.numbered at c.if-is_paged.ensures)) _ l
    ∙ ap (λ (b : line.Bad). stop (at_form b)) (sym (rw is.numbered at c.bad-in-Err-Ill.ensures))
