-- `direct_words` meets its contract: its words are the small fields in another grouping.
use Rattle.layout.specs.Entry.{words_number}
use Rattle.layout.proofs.EntryLaws.{direct-words}
use Rattle.layout.proofs.entry.direct_words.Goals as goal

pub returns : goal.returns
unfolding words_number
returns c = direct-words c.args.e (rw (c.from-length.ensures, c.from.ensures) at c.three_fields.ensures) (rw (c.from-length.ensures, c.from-2.ensures) at c.three_fields-2.ensures) c.two_fields.ensures c.last_word.ensures
