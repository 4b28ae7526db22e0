-- The loop's invariant: what the rest says decides it.
use Rattle.hexread.proofs.JudgeLaws.{Judging}
use Rattle.std.proofs.Common.{length}
use Rattle.hexread.proofs.text.judge.Given as goal

abbrev pub invariant-loop-address : goal.invariant-loop-address
invariant-loop-address l = Judging l.text l.rest l.page l.best

abbrev pub decreases-loop-address : goal.decreases-loop-address
decreases-loop-address l = length l.rest
