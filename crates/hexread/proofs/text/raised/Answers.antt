-- `hexread::text::raised` meets its contract: a law for each way out.
use Rattle.std.proofs.Common.{rules}
use Rattle.hexread.proofs.JudgeLaws.{raised-cases}
use Rattle.hexread.proofs.text.raised.Goals as goal

pub returns-then-count-eq0 : goal.returns-then-count-eq0
returns-then-count-eq0 c = search (rules, raised-cases)

pub returns : goal.returns
returns c = search (rules, raised-cases)
