-- `segments::create::check_cut` meets its contract: one law for each way out.
use Rattle.segments.proofs.CreateLaws.{cut-allot, cut-bounds, cut_kind, cut_right, cut_standing}
use Rattle.segments.proofs.create.check_cut.Goals as goal

pub returns-then-e-ne-DIRECT : goal.returns-then-e-ne-DIRECT
returns-then-e-ne-DIRECT c = λ m x here. cut_kind _ _ _ x c.args.request _ here c.if-e-ne-DIRECT.true

pub returns-then-not-within : goal.returns-then-not-within
returns-then-not-within c = λ m x here. cut_right _ _ _ x c.args.request _ here c.if-e-ne-DIRECT.false c.within.ensures c.if-not-within.true

pub returns-then-request-e : goal.returns-then-request-e
returns-then-request-e c = λ m x here. cut-bounds _ _ _ x c.args.request _ here c.if-e-ne-DIRECT.false c.within.ensures c.if-not-within.false c.if-request-e.true

pub returns-then-e : goal.returns-then-e
returns-then-e c = λ m x here. cut_standing _ _ _ x c.args.request _ here c.if-e-ne-DIRECT.false c.within.ensures c.if-not-within.false c.if-request-e.false c.if-e.true

pub returns : goal.returns
returns c =
    λ m x here. rw
    (cut-allot m _ _ x c.args.request _ here c.if-e-ne-DIRECT.false c.within.ensures c.if-not-within.false c.if-request-e.false c.if-e.false)
    c.allot.ensures
