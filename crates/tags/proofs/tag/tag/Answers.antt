-- `tag` meets its contract: the five words are those of the 40 bytes.
use Rattle.std.proofs.Common.{rules}
use Rattle.tags.proofs.TagLaws.{hash_tag}
use Rattle.tags.proofs.tag.tag.Goals as goal

pub returns : goal.returns
returns c =
    hash_tag c.args.k0 c.args.k1 c.args.number c.args.w (search rules) (search rules)
    (rw (c.finish.ensures, c.compress.ensures, c.compress-five.ensures, c.compress-four.ensures, c.swapped-4.ensures, c.compress-three.ensures, c.swapped-3.ensures, c.compress-two.ensures, c.swapped-2.ensures, c.compress-one.ensures, c.swapped.ensures, c.start.ensures))
