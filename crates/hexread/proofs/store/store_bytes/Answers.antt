-- `hexread::store::store_bytes` meets its contract: one byte more in each turn.
use Rattle.std.proofs.Common.{arith}
use Rattle.hexread.proofs.StoreLaws.{copy_done, copy_more, copy-small}
use Rattle.hexread.proofs.store.store_bytes.Goals as goal

pub overflow_cast-byte : goal.overflow_cast-byte
overflow_cast-byte c = omega (arith, copy-small c.args.to.now c.args.chars.now c.loop-i.i c.requires.0 c.requires.1 c.loop-i-test.true c.pair.ensures.0)

pub loop-i-preserved : goal.loop-i-preserved
loop-i-preserved c = copy_more c.args.to.now c.args.chars.now c.loop-i.i c.requires.0 c.requires.1 c.loop-i.invariant c.loop-i-test.true c.pair.ensures.0

pub returns : goal.returns
returns c = copy_done c.args.to.now c.args.chars.now c.loop-i.i c.requires.0 c.requires.1 c.loop-i.invariant c.loop-i-test.false
