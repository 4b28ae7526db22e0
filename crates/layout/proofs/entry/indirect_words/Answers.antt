-- `indirect_words` meets its contract: its words are the small fields in another grouping.
use Rattle.layout.specs.Entry.{words_number}
use Rattle.layout.proofs.EntryLaws.{indirect-words}
use Rattle.layout.proofs.entry.indirect_words.Goals as goal

pub returns : goal.returns
unfolding words_number
returns c = indirect-words c.args.e (rw c.from.ensures at c.three_fields.ensures) (rw (c.low.ensures.value, c.from-length.ensures) at c.two_fields.ensures) (rw (c.from-length.ensures, c.from-2.ensures) at c.three_fields-2.ensures) c.last_word.ensures
