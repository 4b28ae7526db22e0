-- `hexread::record::record_of` meets its contract: a law for each way out.
use Rattle.hexread.proofs.RecordLaws.{of-large, ruled-asked}
use Rattle.hexread.proofs.record.record_of.Goals as goal

pub returns-then-high-gt4095 : goal.returns-then-high-gt4095
returns-then-high-gt4095 c = of-large c.requires c.sums_of-high.ensures c.then-high-gt4095.either

pub ruled-requires : goal.ruled-requires
ruled-requires c = ruled-asked c.requires c.sums_of-high.ensures c.if-high-gt4095.false c.if-low-gt4095.false
