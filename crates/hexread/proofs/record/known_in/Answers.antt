-- `hexread::record::known_in` meets its contract: a law for each kind of record.
use Rattle.std.proofs.Common.{rules}
use Rattle.hexread.proofs.LineLaws.{known-cases, known-long}
use Rattle.hexread.proofs.record.known_in.Goals as goal

pub word-requires-in_default : goal.word-requires-in_default
word-requires-in_default c = search (rules, known-long)

pub returns-in-0 : goal.returns-in-0
returns-in-0 c = search (rules, known-cases)

pub returns-in-1 : goal.returns-in-1
returns-in-1 c = search (rules, known-cases)

pub returns-in_default : goal.returns-in_default
returns-in_default c = search (rules, known-cases)
