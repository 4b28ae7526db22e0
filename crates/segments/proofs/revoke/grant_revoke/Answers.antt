-- `segments::revoke::grant_revoke` meets its contract: the segment lies in memory, and the nonce has room.
use Rattle.std.proofs.Common.{ap}
use Rattle.std.proofs.lemmas.Result.{err_from_is_err_and}
use Rattle.entering.specs.Nonces.{Sought}
use Rattle.layout.specs.declared.entry.Entry.{Entry}
use Rattle.segments.proofs.RevokeLaws.{revocable, revoke_clears, revoke-grants, revoke-spent, revoke_stays}
use Rattle.segments.proofs.SegmentLaws.{found-none, found_with}
use Rattle.segments.proofs.revoke.grant_revoke.Goals as goal

pub entry_at-e-requires : goal.entry_at-e-requires
entry_at-e-requires c = rw c.args.token.reads (revocable _ _ _ _ _ c.requires).issuable.inside

pub find_anew-requires-clause-next_le_spent : goal.find_anew-requires-clause-next_le_spent
find_anew-requires-clause-next_le_spent c = (revocable _ _ _ _ _ c.requires).next

pub returns-in_err-found-clause-outcome : goal.returns-in_err-found-clause-outcome
returns-in_err-found-clause-outcome c =
    let p = err_from_is_err_and c.from_residual.result c.from_residual.ensures.1 in
    let n = found-none (Sought _ _ _ _) _ _ c.ok_or.ensures.value (c.find_anew.ensures _ (ap (λ (e : Entry). e.tag) c.entry_at-e.ensures)) c.in_err-found.was in
    rw (p.1, p.2, n.1)
    (revoke-spent _ _ _ _ _ _ _ c.args.token.reads c.entry_at-e.ensures c.fresh-w.ensures n.0)

pub returns-in_err-found-clause-memory_left : goal.returns-in_err-found-clause-memory_left
returns-in_err-found-clause-memory_left c =
    let n = found-none (Sought _ _ _ _) _ _ c.ok_or.ensures.value (c.find_anew.ensures _ (ap (λ (e : Entry). e.tag) c.entry_at-e.ensures)) c.in_err-found.was in
    revoke_stays _ _ _ _ _ _ _ c.args.token.reads c.entry_at-e.ensures c.fresh-w.ensures n.0 _

pub reissue-anew-requires : goal.reissue-anew-requires
reissue-anew-requires c =
    let p = revocable _ _ _ _ _ c.requires in
    record {
      issuable = rw (c.fresh-w.ensures, c.entry_at-e.ensures, c.args.token.reads) p.issuable;
      small = rw c.args.token.reads p.small;
      encoded = p.encoded;
      found = found_with (Sought _ _ _ _) _ _ c.ok_or.ensures.value (c.find_anew.ensures _ (ap (λ (e : Entry). e.tag) c.entry_at-e.ensures)) c.in_ok-found.was;
    }

pub clear_from-requires : goal.clear_from-requires
clear_from-requires c = rw (c.entry_at-e.ensures, c.args.token.reads) (revocable _ _ _ _ _ c.requires).segment

pub returns-clause-outcome : goal.returns-clause-outcome
returns-clause-outcome c =
    let f = found_with (Sought _ _ _ _) _ _ c.ok_or.ensures.value (c.find_anew.ensures _ (ap (λ (e : Entry). e.tag) c.entry_at-e.ensures)) c.in_ok-found.was in
    revoke-grants _ _ _ _ _ _ _ c.args.token.reads c.entry_at-e.ensures c.fresh-w.ensures _ f _ _ _ _ c.reissue-anew.ensures c.giving.ensures

pub returns-clause-memory_left : goal.returns-clause-memory_left
returns-clause-memory_left c =
    let f = found_with (Sought _ _ _ _) _ _ c.ok_or.ensures.value (c.find_anew.ensures _ (ap (λ (e : Entry). e.tag) c.entry_at-e.ensures)) c.in_ok-found.was in
    revoke_clears _ _ _ _ _ _ _ c.args.token.reads c.entry_at-e.ensures c.fresh-w.ensures _ f _ _ c.clear_from.ensures
