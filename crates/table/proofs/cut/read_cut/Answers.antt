-- `table::cut::read_cut` meets its contract: the parts are read one after another.
use Rattle.std.proofs.Common.{arith, rules, ◌∙◌}
use Rattle.table.proofs.CutLaws.{big_four, cut-read, low_four, low_two}
use Rattle.table.proofs.cut.read_cut.Goals as goal

pub returns : goal.returns
returns c =
    let up = big_four _ _ _ _ _ (search rules) (search rules) (search rules) (search rules) (c.from-2.ensures ∙ c.from_be_bytes.ensures) in
    let len = big_four _ _ _ _ _ (search rules) (search rules) (search rules) (search rules) (c.from-3.ensures ∙ c.from_be_bytes-2.ensures) in
    let y = low_two _ _ _ (search rules) (search rules) (c.from-5.ensures ∙ c.from_le_bytes.ensures) in
    let z = low_four _ _ _ _ _ (search rules) (search rules) (search rules) (search rules) (c.from-6.ensures ∙ c.from_le_bytes-2.ensures) in (
      record { a = omega arith; hi = search rules; up = up.0; len = len.0; x = search rules; y = y.1.1; z = z.0; d = omega arith },
      cut-read c.args.part.now (search rules) _
          c.get.ensures
          c.from.ensures
          up.1.0
          len.1.1.0
          len.1.1.1
          c.from-4.ensures
          y
          z.1
          c.get-2.ensures,
    )
