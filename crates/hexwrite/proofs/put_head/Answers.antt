-- `hexwrite::put_head` meets its contract: its characters, one after the other.
use Rattle.hexwrite.proofs.WriteLaws.{head-put}
use Rattle.hexwrite.proofs.put_head.Goals as goal

pub returns : goal.returns
returns c = head-put c.args.kind c.args.address c.args.count c.put_char.ensures c.put_byte.ensures c.put_byte-2.ensures c.put_byte-3.ensures c.put_byte-4.ensures
