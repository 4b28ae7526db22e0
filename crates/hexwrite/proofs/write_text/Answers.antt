-- `hexwrite::write_text` meets its contract: its parts, one after the other.
use Rattle.hexwrite.proofs.WriteLaws.{text-put}
use Rattle.hexwrite.proofs.write_text.Goals as goal

pub returns : goal.returns
returns c = text-put c.args.bytes.now c.div_ceil.ensures c.write_record.ensures c.write_data.ensures c.write_record-2.ensures
