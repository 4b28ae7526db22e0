-- `paging::page_in::grant_in` meets its contract: numbers, bytes and the nonce fit.
use Rattle.std.proofs.Common.{◌≡◌, refl, ap, arith}
use Rattle.std.proofs.lemmas.Result.{err_from_is_err_and}
use Rattle.checks.specs.declared.refusal.Refusal.TheVariants.{Nonces}
use Rattle.layout.specs.Entry.{dated, entry_of, laid_direct, words_number}
use Rattle.layout.specs.declared.entry.Entry.{Entry}
use Rattle.segments.proofs.SegmentLaws.{second_in}
use Rattle.paging.proofs.InLaws.{bringable, Brings, in_grants, in_spent, in_stays, in_stores}
use Rattle.paging.proofs.page_in.grant_in.Goals as goal

pub entry_at-e-requires : goal.entry_at-e-requires
entry_at-e-requires c = (bringable _ _ _ c.args.token c.args.donor _ _ _ c.requires).first

pub entry_at-d-requires : goal.entry_at-d-requires
entry_at-d-requires c = (bringable _ _ _ c.args.token c.args.donor _ _ _ c.requires).second

pub brought-back-requires : goal.brought-back-requires
brought-back-requires c = rw c.entry_at-e.ensures (bringable _ _ _ c.args.token c.args.donor _ _ _ c.requires).rights

pub find_anew-requires-clause-next_le_spent : goal.find_anew-requires-clause-next_le_spent
find_anew-requires-clause-next_le_spent c = (bringable _ _ _ c.args.token c.args.donor _ _ _ c.requires).next

pub returns-in_err-found-clause-outcome : goal.returns-in_err-found-clause-outcome
returns-in_err-found-clause-outcome c =
    let x : Brings c.args.table.now c.args.token c.args.donor c.entry_at-e.result c.entry_at-d.result (entry_of (words_number c.brought-back.result)) = record { first = c.entry_at-e.ensures; second = c.entry_at-d.ensures; over = c.brought-back.ensures } in
    let p = err_from_is_err_and c.from_residual.result c.from_residual.ensures.1 in
    let q : c.in_err-found.field-0.0 ≡ Nonces = grind arith in
    rw (p.1, p.2, q) (in_spent x c.args.s.now c.args.request.encoding c.args.buffer.now (rw c.in_err-found.ensures.ok_part at (c.find_anew.ensures c.args.table.now (ap (λ (e : Entry). e.tag) c.entry_at-e.ensures))))

pub returns-in_err-found-clause-memory_left : goal.returns-in_err-found-clause-memory_left
returns-in_err-found-clause-memory_left c =
    let x : Brings c.args.table.now c.args.token c.args.donor c.entry_at-e.result c.entry_at-d.result (entry_of (words_number c.brought-back.result)) = record { first = c.entry_at-e.ensures; second = c.entry_at-d.ensures; over = c.brought-back.ensures } in
    in_stays x c.args.s.now c.args.request.encoding c.args.buffer.now (rw c.in_err-found.ensures.ok_part at (c.find_anew.ensures c.args.table.now (ap (λ (e : Entry). e.tag) c.entry_at-e.ensures))) _

pub reissue-new-requires : goal.reissue-new-requires
reissue-new-requires c =
    let p = bringable _ _ _ c.args.token c.args.donor _ _ _ c.requires in
    record {
      issuable = record { inside = p.first; laid = rw c.brought-back.ensures (laid_direct refl) };
      small = p.small;
      encoded = p.encoded;
      found = rw c.in_ok-found.ensures.ok_part at (c.find_anew.ensures c.args.table.now (ap (λ (e : Entry). e.tag) c.entry_at-e.ensures));
    }

pub vacate-s-requires : goal.vacate-s-requires
vacate-s-requires c =
    let p = bringable _ _ _ c.args.token c.args.donor _ _ _ c.requires in
    second_in _ _ _ _ _ (dated (entry_of (words_number c.brought-back.result))) _ c.reissue-new.ensures p.second

pub put_in-requires : goal.put_in-requires
put_in-requires c = rw (← c.entry_at-d.ensures) at (bringable _ _ _ c.args.token c.args.donor _ _ _ c.requires).room

pub returns-clause-outcome : goal.returns-clause-outcome
returns-clause-outcome c =
    let x : Brings c.args.table.now c.args.token c.args.donor c.entry_at-e.result c.entry_at-d.result (entry_of (words_number c.brought-back.result)) = record { first = c.entry_at-e.ensures; second = c.entry_at-d.ensures; over = c.brought-back.ensures } in
    rw c.giving.ensures (in_grants x c.args.s.now c.args.request.encoding c.args.buffer.now (rw c.in_ok-found.ensures.ok_part at (c.find_anew.ensures c.args.table.now (ap (λ (e : Entry). e.tag) c.entry_at-e.ensures))) c.reissue-new.ensures c.vacate-s.ensures.value c.vacate-s.ensures.table_after)

pub returns-clause-memory_left : goal.returns-clause-memory_left
returns-clause-memory_left c =
    let x : Brings c.args.table.now c.args.token c.args.donor c.entry_at-e.result c.entry_at-d.result (entry_of (words_number c.brought-back.result)) = record { first = c.entry_at-e.ensures; second = c.entry_at-d.ensures; over = c.brought-back.ensures } in
    in_stores x c.args.s.now c.args.request.encoding c.args.buffer.now (rw c.in_ok-found.ensures.ok_part at (c.find_anew.ensures c.args.table.now (ap (λ (e : Entry). e.tag) c.entry_at-e.ensures))) _ _ c.put_in.ensures
