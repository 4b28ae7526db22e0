-- `write_words` meets its contract.
use Rattle.std.proofs.Common.{rules}
use Rattle.layout.proofs.WordLaws.{words-written}
use Rattle.layout.proofs.entry.write_words.Goals as goal

pub returns : goal.returns
returns c = words-written c.args.part.now c.args.w c.requires (search rules) c.put.ensures c.put-2.ensures c.put-3.ensures c.put-4.ensures
