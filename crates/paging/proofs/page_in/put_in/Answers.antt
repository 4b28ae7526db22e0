-- `paging::page_in::put_in` meets its contract: the part of memory has the buffer's length.
use Rattle.bits.proofs.PartLaws.{part-sets}
use Rattle.paging.proofs.page_in.put_in.Goals as goal

pub returns : goal.returns
returns c = part-sets _ _ _ _ c.copy_long.ensures c.requires
