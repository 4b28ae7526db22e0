-- `hexread::digits::value` meets its contract.
use Rattle.hexread.proofs.ValueLaws.{value-told}
use Rattle.hexread.proofs.digits.value.Goals as goal

pub returns : goal.returns
returns c = value-told c.args.c c.ranges.c.fits (rw (← c.from.ensures) c.from-2.ensures)
