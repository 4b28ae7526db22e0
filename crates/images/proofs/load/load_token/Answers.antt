-- `images::load::load_token` meets its contract: a law for each way out.
use Rattle.std.proofs.lemmas.Result.{err_from_is_err_and}
use Rattle.images.proofs.ImageLaws.{load-rest, load-token}
use Rattle.images.proofs.load.load_token.Goals as goal

pub load_rest-requires : goal.load_rest-requires
load_rest-requires c = c.in_ok-reach_segment.ensures.there

pub returns-in_err-reach_segment : goal.returns-in_err-reach_segment
returns-in_err-reach_segment c = λ s φ b ends read j ok.
    let p = err_from_is_err_and c.from_residual.result c.from_residual.ensures.1 in
    rw (p.1, p.2) (load-token _ s _ _ _ φ b ok read (c.in_err-reach_segment.ensures.reaches φ j))

pub returns : goal.returns
returns c = λ s φ b ends read j ok. rw (load-rest _ _ _ _ _ φ _ ok read (c.in_ok-reach_segment.ensures.reaches φ j).0) (c.load_rest.ensures c.args.memory c.args.task s φ b ends)
