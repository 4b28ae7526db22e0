-- `paging::page_out::check_idle` meets its contract: one law for each way out.
use Rattle.std.proofs.Common.{rules}
use Rattle.paging.proofs.OutLaws.{idle-allot, idle-bounds, idle_kind, idle_standing}
use Rattle.paging.proofs.page_out.check_idle.Goals as goal

pub returns-then-e-ne-DIRECT : goal.returns-then-e-ne-DIRECT
returns-then-e-ne-DIRECT c = λ m k u f d b here long. search (rules, idle_kind)

pub returns-then-bytes-e : goal.returns-then-bytes-e
returns-then-bytes-e c = λ m k u f d b here long. search (rules, idle-bounds)

pub returns-then-not-e : goal.returns-then-not-e
returns-then-not-e c = λ m k u f d b here long. search (rules, idle_standing)

pub returns : goal.returns
returns c = λ m k u f d b here long. rw (idle-allot m _ _ k u f d b _ _ here long c.if-e-ne-DIRECT.false c.if-bytes-e.false (rw c.if-not-e.false)) c.allot.ensures
