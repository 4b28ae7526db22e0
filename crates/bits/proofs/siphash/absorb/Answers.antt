-- `bits::siphash::absorb` meets its contract: each turn takes in one word more.
use Rattle.std.proofs.Common.{refl, ◌∙◌, ap, rules, arith, ◌≡◌, ◌/◌, length}
use Rattle.bits.specs.SipHash.{absorb}
use Rattle.bits.proofs.SipLaws.{absorb_more}
use Rattle.bits.proofs.siphash.absorb.Goals as goal

pub loop-word-init : goal.loop-word-init
unfolding absorb
loop-word-init c = refl

pub loop-word-preserved : goal.loop-word-preserved
loop-word-preserved c = search (rules, absorb_more)

pub returns : goal.returns
returns c = let e : c.loop-word.word-index ≡ length c.args.message.now / 8 = omega arith in c.loop-word.invariant ∙ ap (λ n. absorb n c.args.message.now c.args.v) e
