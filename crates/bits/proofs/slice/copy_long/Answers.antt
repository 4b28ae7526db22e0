-- `bits::slice::copy_long` meets its contract: each turn copies 4,096 bytes more, and the last call the rest.
use Rattle.std.proofs.Common.{◌≡◌, ◌+◌, ◌*◌, arith}
use Rattle.bits.proofs.PartLaws.{more_copied}
use Rattle.bits.proofs.slice.copy_long.Goals as goal

pub loop-i-preserved : goal.loop-i-preserved
loop-i-preserved c =
    let l = c.loop-i in
    let e : 4096 * (l.i + 1) ≡ 4096 * l.i + 4096 = omega arith in
    rw e (more_copied l.to _ _ (4096 * l.i) (4096 * l.i + 4096) (omega arith) (omega arith) (omega arith) l.invariant c.copy.ensures)
