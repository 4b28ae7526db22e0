-- `hexread::record::record_in` meets its contract: a law for each way out.
use Rattle.std.proofs.Common.{rules}
use Rattle.hexread.proofs.LineLaws.{in-cases, part-asked}
use Rattle.hexread.proofs.record.record_in.Goals as goal
use Rattle.hexread.proofs.record.record_in.Goals.{then-text-lt12-via-then-text-lt12, then-text-lt12-via-else-text-lt12+then-text-ne58, then-size-gt255-via-then-size-gt255, then-size-gt255-via-else-size-gt255+then-text-end, then-size-gt255-via-else-size-gt255+else-text-end+then-text-end-ne10}

pub returns-then-text-lt12 : goal.returns-then-text-lt12
returns-then-text-lt12 c = elim c.then-text-lt12.branch [ then-text-lt12-via-then-text-lt12 w ↦ search (rules, in-cases) | then-text-lt12-via-else-text-lt12+then-text-ne58 w ↦ search (rules, in-cases) ]

pub returns-then-size-gt255 : goal.returns-then-size-gt255
returns-then-size-gt255 c =
    elim c.then-size-gt255.branch [
      | then-size-gt255-via-then-size-gt255 w ↦ search (rules, in-cases)
      | then-size-gt255-via-else-size-gt255+then-text-end w ↦ search (rules, in-cases)
      | then-size-gt255-via-else-size-gt255+else-text-end+then-text-end-ne10 w ↦ search (rules, in-cases)
    ]

pub record_of-requires : goal.record_of-requires
record_of-requires c = part-asked c.args.text.now c.pair-size.ensures.0 c.if-size-gt255.false c.if-text-end.false

pub returns : goal.returns
returns c = search (rules, in-cases)
