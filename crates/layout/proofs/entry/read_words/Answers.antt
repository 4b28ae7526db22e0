-- `read_words` meets its contract.
use Rattle.std.proofs.Common.{rules}
use Rattle.layout.specs.Entry.{words_number}
use Rattle.layout.proofs.WordLaws.{words-read}
use Rattle.layout.proofs.entry.read_words.Goals as goal

pub returns : goal.returns
unfolding words_number
returns c = words-read c.args.part.now (search rules) c.get.ensures c.get-2.ensures c.get-3.ensures c.get-4.ensures
