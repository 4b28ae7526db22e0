-- `hexwrite::put_digits` meets its contract: one byte more in each turn.
use Rattle.std.proofs.Common.{rules}
use Rattle.hexwrite.proofs.WriteLaws.{put-cases, total-cases}
use Rattle.hexwrite.proofs.put_digits.Goals as goal

pub loop-i-preserved : goal.loop-i-preserved
loop-i-preserved c = search (rules, put-cases, total-cases)
