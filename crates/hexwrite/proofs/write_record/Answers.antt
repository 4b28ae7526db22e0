-- `hexwrite::write_record` meets its contract: its parts, one after the other.
use Rattle.std.proofs.Common.{refl}
use Rattle.hexwrite.proofs.WriteLaws.{record_put}
use Rattle.hexwrite.proofs.write_record.Goals as goal

pub returns : goal.returns
returns c = record_put c.args.bytes.now c.args.kind c.args.address _ _ _ refl c.put_digits-total.ensures.1 c.check_byte.ensures c.put_head.ensures c.put_digits-total.ensures.0 c.put_byte.ensures c.put_char.ensures
