-- `allot` meets its contract: what the search found is the verdict's.
use Rattle.rulings.proofs.AllotLaws.{allots}
use Rattle.rulings.proofs.allot.allot.Goals as goal

pub returns : goal.returns
returns c = rw (c.ok_or.ensures.value, c.new_number.ensures) (allots _ _)
