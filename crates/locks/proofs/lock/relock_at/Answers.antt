-- `relock_at` meets its contract: the entry's words get another lock.
use Rattle.layout.specs.Entry.{entry_of, words_number}
use Rattle.locks.proofs.LockLaws.{relock_left}
use Rattle.locks.proofs.lock.relock_at.Goals as goal

pub returns : goal.returns
returns c = λ s. relock_left s _ _ _ _ (entry_of (words_number c.words_at.result)) _ _ c.words_at.ensures c.relock.ensures c.plain.ensures
