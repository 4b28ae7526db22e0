-- `hexread::record::ruled` meets its contract: a law for each way out.
use Rattle.std.proofs.Common.{rules}
use Rattle.hexread.proofs.RecordLaws.{address_small, ruled-cases}
use Rattle.hexread.proofs.record.ruled.Goals as goal

pub faulty-requires : goal.faulty-requires
faulty-requires c = search (rules, address_small)

pub returns-then-faulty : goal.returns-then-faulty
returns-then-faulty c = search (rules, ruled-cases)

pub returns-then-total-ne0 : goal.returns-then-total-ne0
returns-then-total-ne0 c = search (rules, ruled-cases)

pub returns-in-0 : goal.returns-in-0
returns-in-0 c = search (rules, ruled-cases)

pub returns-in-1 : goal.returns-in-1
returns-in-1 c = search (rules, ruled-cases)

pub returns-in_default : goal.returns-in_default
returns-in_default c = search (rules, ruled-cases)
