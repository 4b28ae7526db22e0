-- `images::dump::dump_image` meets its contract: it is decided by its verdict, and then by its text's room.
use Rattle.std.proofs.Common.{refl, sym, ◌∙◌, arith}
use Rattle.std.proofs.lemmas.Result.{err_from_is_err_and}
use Rattle.rulings.proofs.ServedLaws.{served_late, served-made, served-stop}
use Rattle.images.proofs.ImageLaws.{dump-handed, dump-inside, few_bytes, text_in, text_out}
use Rattle.images.proofs.dump.dump_image.Goals as goal

pub write_image-requires : goal.write_image-requires
write_image-requires c =
    let a = c.args in
    let q = c.in_ok-segment.ensures _ a.buffer.now c.settings-set.ensures in
    let few = few_bytes _ _ (sym c.fits.ensures ∙ c.if-not-fits.false) in
    (rw (q.1.0, q.1.1) (dump-inside _ _ _ _ _ _ _ q.0), (omega (arith, few.0), few.1))

pub returns-in_err-segment : goal.returns-in_err-segment
returns-in_err-segment c =
    let p = err_from_is_err_and c.from_residual.result c.from_residual.ensures.1 in
    rw (p.1, p.2) (served-stop _ (c.in_err-segment.ensures _ c.args.buffer.now c.settings-set.ensures))

pub returns-then-not-fits : goal.returns-then-not-fits
returns-then-not-fits c =
    let a = c.args in
    let q = c.in_ok-segment.ensures _ a.buffer.now c.settings-set.ensures in
    served_late _ q.0 (text_out a.memory.now _ _ (dump-inside _ _ _ _ _ _ _ q.0) a.buffer.now (rw q.1.1 at (sym c.fits.ensures ∙ c.if-not-fits.true)))

pub returns : goal.returns
returns c =
    let a = c.args in
    let q = c.in_ok-segment.ensures _ a.buffer.now c.settings-set.ensures in
    let inside = dump-inside _ _ _ _ _ _ _ q.0 in
    served-made q.0 (text_in a.memory.now _ _ inside a.buffer.now (rw q.1.1 at (sym c.fits.ensures ∙ c.if-not-fits.false)))
    (dump-handed a.s _ a.request.token a.buffer.now a.memory.now _ inside (rw q.1.1 at c.text_length.ensures.0))
    refl
    (rw (q.1.0, q.1.1) at c.write_image.ensures)
