-- `merges::merge::grant_merge` meets its contract: sums, numbers and the nonce fit.
use Rattle.std.proofs.Common.{ap, refl}
use Rattle.std.proofs.lemmas.Result.{err_from_is_err_and}
use Rattle.entering.specs.Nonces.{Sought}
use Rattle.layout.specs.Entry.{dated, entry_of, laid_direct, words_number}
use Rattle.layout.specs.declared.entry.Entry.{Entry}
use Rattle.segments.proofs.SegmentLaws.{found-none, found_with, second_in}
use Rattle.merges.proofs.MergeLaws.{merge-grants, merge-spent, mergeable}
use Rattle.merges.proofs.merge.grant_merge.Goals as goal

pub entry_at-d-requires : goal.entry_at-d-requires
entry_at-d-requires c = (mergeable _ _ _ c.args.request c.args.pair c.requires).first

pub entry_at-requires : goal.entry_at-requires
entry_at-requires c = (mergeable _ _ _ c.args.request c.args.pair c.requires).second

pub joined-whole-requires : goal.joined-whole-requires
joined-whole-requires c =
    let p = mergeable _ _ _ c.args.request c.args.pair c.requires in
    rw (c.entry_at-d.ensures, c.entry_at.ensures) (p.sum, p.rights)

pub find_anew-requires-clause-next_le_spent : goal.find_anew-requires-clause-next_le_spent
find_anew-requires-clause-next_le_spent c = (mergeable _ _ _ c.args.request c.args.pair c.requires).next

pub returns-in_err-found : goal.returns-in_err-found
returns-in_err-found c =
    let p = err_from_is_err_and c.from_residual.result c.from_residual.ensures.1 in
    let n = found-none (Sought _ _ _ _) _ _ c.ok_or.ensures.value (c.find_anew.ensures _ (ap (λ (e : Entry). e.tag) c.entry_at-d.ensures)) c.in_err-found.was in
    rw (p.1, p.2, n.1) (merge-spent _ _ _ c.args.request c.args.pair _ _ _ c.requires c.entry_at-d.ensures c.entry_at.ensures c.joined-whole.ensures n.0)

pub reissue-new-requires : goal.reissue-new-requires
reissue-new-requires c =
    let p = mergeable _ _ _ c.args.request c.args.pair c.requires in
    record {
      issuable = record { inside = p.first; laid = rw c.joined-whole.ensures (laid_direct refl) };
      small = p.small;
      encoded = p.encoded;
      found = found_with (Sought _ _ _ _) _ _ c.ok_or.ensures.value (c.find_anew.ensures _ (ap (λ (e : Entry). e.tag) c.entry_at-d.ensures)) c.in_ok-found.was;
    }

pub vacate-s-requires : goal.vacate-s-requires
vacate-s-requires c =
    let p = mergeable _ _ _ c.args.request c.args.pair c.requires in
    second_in _ _ _ _ _ (dated (entry_of (words_number c.joined-whole.result))) _ c.reissue-new.ensures p.second

pub returns : goal.returns
returns c =
    let f = found_with (Sought _ _ _ _) _ _ c.ok_or.ensures.value (c.find_anew.ensures _ (ap (λ (e : Entry). e.tag) c.entry_at-d.ensures)) c.in_ok-found.was in
    merge-grants _ _ _ c.args.request c.args.pair _ _ _ c.requires c.entry_at-d.ensures c.entry_at.ensures c.joined-whole.ensures _ f c.reissue-new.new.s _ _ _ _ _ c.reissue-new.ensures c.vacate-s.ensures.value c.vacate-s.ensures.table_after c.giving.ensures
