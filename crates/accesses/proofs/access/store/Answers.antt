-- `accesses::access::store` meets its contract: the part of memory has the buffer's length.
use Rattle.bits.proofs.PartLaws.{part-sets}
use Rattle.accesses.proofs.access.store.Goals as goal

pub returns : goal.returns
returns c = part-sets _ _ _ _ c.copy.ensures c.requires.0
