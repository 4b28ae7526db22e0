-- `bits::slice::clear_from` meets its contract: the part is cleared, and what stands around it stays.
use Rattle.bits.proofs.PartLaws.{part-cleared}
use Rattle.bits.proofs.slice.clear_from.Goals as goal

pub returns : goal.returns
returns c = part-cleared _ _ _ _ c.requires c.clear.ensures
