-- `two_tags` meets its contract: each hash has its own five words, as in `tag`.
use Rattle.std.proofs.Common.{rules}
use Rattle.tags.proofs.TagLaws.{hash_tag}
use Rattle.tags.proofs.tag.two_tags.Goals as goal

pub returns : goal.returns
returns c = (
  hash_tag c.args.k0 c.args.k1 c.args.number c.args.w (search rules) (search rules)
      (rw (c.finish.ensures, c.compress.ensures, c.compress-w5.ensures, c.compress-w4.ensures, c.swapped-7.ensures, c.compress-w3.ensures, c.swapped-5.ensures, c.compress-w2.ensures, c.swapped-3.ensures, c.compress-w1.ensures, c.swapped.ensures, c.start-zero.ensures)),
  hash_tag c.args.k0 c.args.k1 c.args.other c.args.v (search rules) (search rules)
      (rw (c.finish-2.ensures, c.compress-2.ensures, c.compress-v5.ensures, c.compress-v4.ensures, c.swapped-8.ensures, c.compress-v3.ensures, c.swapped-6.ensures, c.compress-v2.ensures, c.swapped-4.ensures, c.compress-v1.ensures, c.swapped-2.ensures, c.start-zero.ensures)),
)
