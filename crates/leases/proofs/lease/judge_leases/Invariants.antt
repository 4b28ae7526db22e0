-- The loop's invariant: what the leases before the next come to.
use Rattle.leases.proofs.JudgeLaws.{Seen}
use Rattle.leases.proofs.lease.judge_leases.Given as goal

abbrev pub invariant-loop-bytes : goal.invariant-loop-bytes
invariant-loop-bytes l = Seen l.leases l.number l.tag l.minute l.bytes-index l.sound l.held l.admitted
