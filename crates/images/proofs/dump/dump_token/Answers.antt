-- `images::dump::dump_token` meets its contract: a law for each way out.
use Rattle.std.proofs.lemmas.Result.{err_from_is_err_and}
use Rattle.rulings.proofs.RulingLaws.{token-stops}
use Rattle.images.proofs.ImageLaws.{dump-rest, dump-token}
use Rattle.images.proofs.dump.dump_token.Goals as goal

pub dump_rest-requires : goal.dump_rest-requires
dump_rest-requires c = c.in_ok-reach_segment.ensures.there

pub returns-in_err-reach_segment : goal.returns-in_err-reach_segment
returns-in_err-reach_segment c = λ s φ b j ok.
    let p = err_from_is_err_and c.from_residual.result c.from_residual.ensures.1 in
    rw (p.1, p.2) (token-stops _ s _ _ b ok (dump-token _ _ _ _ _ φ _ (c.in_err-reach_segment.ensures.reaches φ j)))

pub returns : goal.returns
returns c = λ s φ b j ok. rw (dump-rest _ _ _ _ _ φ _ ok (c.in_ok-reach_segment.ensures.reaches φ j).0) (c.dump_rest.ensures c.args.memory c.args.task s φ b)
