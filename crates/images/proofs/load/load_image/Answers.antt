-- `images::load::load_image` meets its contract: it is decided by its verdict.
use Rattle.std.proofs.Common.{refl}
use Rattle.std.proofs.lemmas.Result.{err_from_is_err_and}
use Rattle.rulings.proofs.ServedLaws.{served, served-stop}
use Rattle.images.proofs.ImageLaws.{load-buffer, load-effect, load_fits, load-handed, load-room}
use Rattle.images.proofs.load.load_image.Goals as goal

pub store_image-requires-clause-segment_in_bounds : goal.store_image-requires-clause-segment_in_bounds
store_image-requires-clause-segment_in_bounds c =
    let q = c.in_ok-segment.ensures _ c.settings-set.ensures in
    rw (q.1.0, q.1.1) (load-room _ _ _ _ _ _ _ q.0)

pub store_image-requires-clause-fits : goal.store_image-requires-clause-fits
store_image-requires-clause-fits c =
    let q = c.in_ok-segment.ensures _ c.settings-set.ensures in
    rw q.1.1 (load_fits _ _ _ _ _ _ _ q.0)

pub returns-in_err-segment : goal.returns-in_err-segment
returns-in_err-segment c =
    let p = err_from_is_err_and c.from_residual.result c.from_residual.ensures.1 in
    rw (p.1, p.2) (served-stop _ (c.in_err-segment.ensures _ c.settings-set.ensures))

pub returns : goal.returns
returns c =
    let q = c.in_ok-segment.ensures _ c.settings-set.ensures in
    served refl (load-handed _ _ _ _ _ _ _ q.0) (rw (load-effect _ _ _ _ _ _ _ q.0) (rw q.1.0 at c.store_image.ensures)) (load-buffer _ _ _ _ _ _ _ _)
