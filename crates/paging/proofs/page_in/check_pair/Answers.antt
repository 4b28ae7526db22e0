-- `paging::page_in::check_pair` meets its contract: one law for each way out.
use Rattle.paging.proofs.InLaws.{pair-bounds, pair_kind, pair-pass, pair_standing}
use Rattle.paging.proofs.page_in.check_pair.Goals as goal

pub returns-then-not-e-d : goal.returns-then-not-e-d
returns-then-not-e-d c = λ m s t j k u x b e d n. pair_kind _ _ _ _ _ _ _ _ _ _ _ e d n c.if-not-e-d.true

pub returns-then-not-bytes-e : goal.returns-then-not-bytes-e
returns-then-not-bytes-e c = λ m s t j k u x b e d n. pair-bounds _ _ _ _ _ _ _ _ _ _ _ e d n c.if-not-e-d.false c.if-not-bytes-e.true

pub returns-then-not-d : goal.returns-then-not-d
returns-then-not-d c = λ m s t j k u x b e d n. pair_standing _ _ _ _ _ _ _ _ _ _ _ e d n c.if-not-e-d.false c.if-not-bytes-e.false c.if-not-d.true

pub returns : goal.returns
returns c = λ m s t j k u x b e d n. pair-pass _ _ _ _ _ _ _ _ _ _ _ e d n c.if-not-e-d.false c.if-not-bytes-e.false c.if-not-d.false
