-- `free_in` meets its contract: the first that is free is found.
use Rattle.std.proofs.Common.{arith, sym, ap, ◌∙◌}
use Rattle.numbers.specs.Searches.{given}
use Rattle.numbers.proofs.SearchLaws.{first_here}
use Rattle.numbers.proofs.numbers.free_in.Goals as goal

pub returns-then-is_free : goal.returns-then-is_free
returns-then-is_free c = first_here _ _ _ (omega arith) (omega arith) (sym c.if-is_free.ensures) ∙ ap given c.loop-n.invariant.1.1
