-- `leases::lease::judge_leases` meets its contract: one lease more in each turn, and then all of them are seen.
use Rattle.std.proofs.Common.{sym, ◌∙◌, arith}
use Rattle.leases.proofs.JudgeLaws.{lease_chunk, seen_all, seen_none, seen_other, seen-ours}
use Rattle.leases.proofs.lease.judge_leases.Goals as goal
use Rattle.leases.proofs.lease.judge_leases.Goals.{then-is_for, else-is_for}

pub loop-bytes-init : goal.loop-bytes-init
loop-bytes-init c = seen_none _ _ _ _

pub loop-bytes-preserved : goal.loop-bytes-preserved
loop-bytes-preserved c =
    let l = c.loop-bytes in
    let lease = lease_chunk c.args.leases.now l.bytes-index c.as_chunks.ensures.front (omega arith) c.read-lease.ensures in
    let is = rw lease at c.is_for.ensures in
    elim c.if-is_for.branch [
      | then-is_for w ↦ rw (w.held-is, w.admitted-is, w.covers-admitted.ensures, c.is_sound-sound.ensures, lease) (seen-ours _ _ _ _ l.bytes-index _ _ _ l.invariant (sym is ∙ w.if-is_for.true))
      | else-is_for w ↦ rw (w.held-is, w.admitted-is, c.is_sound-sound.ensures, lease) (seen_other _ _ _ _ l.bytes-index _ _ _ l.invariant (sym is ∙ w.if-is_for.false))
    ]

pub returns : goal.returns
returns c = let l = c.loop-bytes in c.told.ensures ∙ seen_all _ _ _ _ l.bytes-index _ _ _ (omega arith) l.invariant
