-- `hexwrite::write_data` meets its contract: one record more in each turn.
use Rattle.std.proofs.Common.{◌∙◌}
use Rattle.hexwrite.proofs.WriteLaws.{writing_done, writing_more}
use Rattle.hexwrite.proofs.write_data.Goals as goal

pub loop-i-preserved : goal.loop-i-preserved
loop-i-preserved c =
    let w = c.loop-i.invariant in
    let s = c.in-Some.ensures.steps in
    (writing_more c.in-Some.part.now w.0 w.1 s.0.1.0 s.0.1.1 s.0.1.2 s.1 s.2 c.write_record.ensures, s.0.0 ∙ w.1)

pub returns : goal.returns
returns c = writing_done c.loop-i.invariant.0 c.in-None.ensures.steps.0.1.0
