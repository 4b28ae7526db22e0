-- `packed_in` meets its contract: no shift and no sum loses a bit.
use Rattle.std.proofs.Common.{arith}
use Rattle.tokens.proofs.TokenLaws.{token-made, upper_fits, whole_fits}
use Rattle.tokens.proofs.token.packed_in.Goals as goal

pub overflow_add-result : goal.overflow_add-result
overflow_add-result c = omega (arith, upper_fits c.args.number c.args.offset c.args.e c.args.n c.requires.0 c.requires.1)

pub overflow_add-result-2 : goal.overflow_add-result-2
overflow_add-result-2 c = omega (arith, whole_fits c.args.number c.args.offset c.args.e c.args.n c.requires.0 c.requires.1)

pub returns : goal.returns
returns c = token-made _ _ _ c.args.n c.requires.0 c.requires.1
