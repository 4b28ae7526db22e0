-- `calls::call::carry_out` meets its contract: the state's words, one step, and the words of state and answer.
use Rattle.std.proofs.Common.{rules}
use Rattle.interface.proofs.CallLaws.{step_carried, stored-state}
use Rattle.calls.proofs.call.carry_out.Goals as goal

pub returns : goal.returns
returns c =
    let a = c.args in
    let x = c.read_state-words in
    let r = c.serve-reply in
    let kept = stored-state c.leaves.result _ a.state.now _ _ _ x.result r.new.s r.result _ _ _ _ (search rules) c.requires.0 x.ensures r.ensures (λ h σ b. c.leaves.ensures h σ b _) c.put_state.ensures in
    step_carried _ _ _ _ _ a.answer.now x.result r.new.s r.result _ _ _ _ _ _ x.ensures r.ensures kept c.write_answer.ensures
