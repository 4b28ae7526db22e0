-- `paged_words` meets its contract: its words are the small fields in another grouping.
use Rattle.layout.specs.Entry.{words_number}
use Rattle.layout.proofs.EntryLaws.{paged-words}
use Rattle.layout.proofs.entry.paged_words.Goals as goal

pub returns : goal.returns
unfolding words_number
returns c = paged-words c.args.e c.two_fields.ensures (rw c.from.ensures at c.three_fields.ensures) c.two_fields-2.ensures c.last_word.ensures
