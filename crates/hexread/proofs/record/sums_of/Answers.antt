-- `hexread::record::sums_of` meets its contract: one pair more in each turn.
use Rattle.std.proofs.Common.{rules}
use Rattle.hexread.proofs.ValueLaws.{sums-cases}
use Rattle.hexread.proofs.record.sums_of.Goals as goal

pub loop-i-preserved : goal.loop-i-preserved
loop-i-preserved c = search (rules, sums-cases)

pub returns : goal.returns
returns c = search (rules, sums-cases)
