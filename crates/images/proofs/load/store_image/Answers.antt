-- `images::load::store_image` meets its contract: the part of memory is the segment.
use Rattle.images.proofs.ImageLaws.{stored_back}
use Rattle.images.proofs.load.store_image.Goals as goal

pub returns : goal.returns
returns c = stored_back _ _ _ _ _ c.requires.segment_in_bounds c.requires.fits c.store.ensures
