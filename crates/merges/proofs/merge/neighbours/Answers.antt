-- `merges::merge::neighbours` meets its contract: one law for each way out.
use Rattle.std.proofs.Common.{sym}
use Rattle.merges.proofs.MergeLaws.{neighbour_bounds, neighbour_kind, neighbour_pass, neighbour_standing}
use Rattle.merges.proofs.merge.neighbours.Goals as goal

pub returns-then-d-e : goal.returns-then-d-e
returns-then-d-e c = λ m s t i j u x d e. sym (neighbour_kind _ _ _ _ _ _ _ _ _ d e c.if-d-e.true)

pub returns-then-e-end : goal.returns-then-e-end
returns-then-e-end c = λ m s t i j u x d e. sym (neighbour_bounds _ _ _ _ _ _ _ _ _ d e c.if-d-e.false c.if-e-end.true)

pub returns-then-d-e-2 : goal.returns-then-d-e-2
returns-then-d-e-2 c = λ m s t i j u x d e. sym (neighbour_standing _ _ _ _ _ _ _ _ _ d e c.if-d-e.false c.if-e-end.false c.if-d-e-2.true)

pub returns : goal.returns
returns c = λ m s t i j u x d e. sym (neighbour_pass _ _ _ _ _ _ _ _ _ d e c.if-d-e.false c.if-e-end.false c.if-d-e-2.false)
