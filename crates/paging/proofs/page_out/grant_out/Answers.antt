-- `paging::page_out::grant_out` meets its contract: the segment lies in memory, and numbers and nonces fit.
use Rattle.std.proofs.Common.{refl, List, ℕ, ◌≡◌, arith}
use Rattle.std.proofs.lemmas.Result.{err_from_is_err_and}
use Rattle.checks.specs.declared.refusal.Refusal.TheVariants.{Nonces}
use Rattle.entering.specs.Nonces.{Issuable}
use Rattle.layout.specs.Entry.{entry_of, laid_direct, laid_paged, words_number}
use Rattle.layout.specs.declared.entry.Entry.{Entry}
use Rattle.layout.specs.declared.entry.Words.{Words}
use Rattle.machine.specs.Issuing.{new_number}
use Rattle.machine.specs.Operations.{fresh, out_of}
use Rattle.machine.specs.Parts.{State}
use Rattle.paging.proofs.OutLaws.{Idle, idle, out_clears, out_fills, out-grants, out_in, out-spent, out_stays, sends}
use Rattle.paging.proofs.page_out.grant_out.Goals as goal

-- what is issued: the entry, paged out, and the zeroed segment
outgoing : {m : ℕ} {s : State} {t : List ℕ} {n c p : ℕ} (w : Words) {e : Entry} {b : List ℕ} → Idle m s t n e c b → entry_of (words_number w) ≡ out_of e p 0 → Issuable t n (entry_of (words_number w))
outgoing w i is = record { inside = i.inside; laid = rw is (laid_paged refl) }

zeroed : {m : ℕ} {s : State} {t : List ℕ} {n c : ℕ} (v : Words) {new : ℕ} {e : Entry} {b : List ℕ} → Idle m s t n e c b → entry_of (words_number v) ≡ fresh e 0 → new ≡ new_number s t
    → Issuable t new (entry_of (words_number v))
zeroed v i is number = record { inside = rw number i.new.0; laid = rw is (laid_direct refl) }

pub entry_at-e-requires : goal.entry_at-e-requires
entry_at-e-requires c = out_in _ _ _ c.args.token _ _ _ _ c.requires.0

pub issued_paged-paged-requires : goal.issued_paged-paged-requires
issued_paged-paged-requires c = (idle _ _ _ c.args.token _ _ _ _ c.requires.0 c.entry_at-e.ensures).rights

pub find_two-requires-clause-next_le_spent : goal.find_two-requires-clause-next_le_spent
find_two-requires-clause-next_le_spent c =
    let p = idle _ _ _ c.args.token _ _ _ _ c.requires.0 c.entry_at-e.ensures in
    (p.next, rw c.requires.1 p.apart)

pub find_two-requires-clause-issuable : goal.find_two-requires-clause-issuable
find_two-requires-clause-issuable c =
    outgoing c.issued_paged-paged.result (idle _ _ _ c.args.token _ _ _ _ c.requires.0 c.entry_at-e.ensures) c.issued_paged-paged.ensures

pub find_two-requires-clause-issuable_2 : goal.find_two-requires-clause-issuable_2
find_two-requires-clause-issuable_2 c =
    zeroed c.issued_direct-fresh.result (idle _ _ _ c.args.token _ _ _ _ c.requires.0 c.entry_at-e.ensures) c.issued_direct-fresh.ensures c.requires.1

pub returns-in_err-found-clause-outcome : goal.returns-in_err-found-clause-outcome
returns-in_err-found-clause-outcome c =
    let x = sends _ _ _ c.args.token _ _ _ _ c.requires c.issued_paged-paged.result c.issued_direct-fresh.result c.entry_at-e.ensures c.issued_paged-paged.ensures c.issued_direct-fresh.ensures in
    let p = err_from_is_err_and c.from_residual.result c.from_residual.ensures.1 in
    let q : c.in_err-found.field-0.0 ≡ Nonces = grind arith in
    rw (p.1, p.2, q) (out-spent x c.args.request.encoding (rw c.in_err-found.ensures.ok_part at c.find_two.ensures))

pub returns-in_err-found-clause-memory_left : goal.returns-in_err-found-clause-memory_left
returns-in_err-found-clause-memory_left c =
    let x = sends _ _ _ c.args.token _ _ _ _ c.requires c.issued_paged-paged.result c.issued_direct-fresh.result c.entry_at-e.ensures c.issued_paged-paged.ensures c.issued_direct-fresh.ensures in
    rw (out_stays x c.args.request.encoding (rw c.in_err-found.ensures.ok_part at c.find_two.ensures))

pub returns-in_err-found-clause-buffer_left : goal.returns-in_err-found-clause-buffer_left
returns-in_err-found-clause-buffer_left c =
    let x = sends _ _ _ c.args.token _ _ _ _ c.requires c.issued_paged-paged.result c.issued_direct-fresh.result c.entry_at-e.ensures c.issued_paged-paged.ensures c.issued_direct-fresh.ensures in
    rw (out_stays x c.args.request.encoding (rw c.in_err-found.ensures.ok_part at c.find_two.ensures))

pub issue_two-first-requires-clause-issues_two : goal.issue_two-first-requires-clause-issues_two
issue_two-first-requires-clause-issues_two c =
    let p = idle _ _ _ c.args.token _ _ _ _ c.requires.0 c.entry_at-e.ensures in
    record {
      first = outgoing c.issued_paged-paged.result p c.issued_paged-paged.ensures;
      second = zeroed c.issued_direct-fresh.result p c.issued_direct-fresh.ensures c.requires.1;
      small = (p.small, rw c.requires.1 p.new.1);
      encoded = p.encoded;
      found = rw c.in_ok-found.ensures.ok_part at c.find_two.ensures;
    }

pub carry_out-requires : goal.carry_out-requires
carry_out-requires c =
    let p = idle _ _ _ c.args.token _ _ _ _ c.requires.0 c.entry_at-e.ensures in
    (p.segment, p.long)

pub returns-clause-outcome : goal.returns-clause-outcome
returns-clause-outcome c =
    let x = sends _ _ _ c.args.token _ _ _ _ c.requires c.issued_paged-paged.result c.issued_direct-fresh.result c.entry_at-e.ensures c.issued_paged-paged.ensures c.issued_direct-fresh.ensures in
    rw c.giving_two.ensures (out-grants x c.args.request.encoding (rw c.in_ok-found.ensures.ok_part at c.find_two.ensures) (c.issue_two-first.ensures.second_given refl x.full))

pub returns-clause-memory_left : goal.returns-clause-memory_left
returns-clause-memory_left c =
    let x = sends _ _ _ c.args.token _ _ _ _ c.requires c.issued_paged-paged.result c.issued_direct-fresh.result c.entry_at-e.ensures c.issued_paged-paged.ensures c.issued_direct-fresh.ensures in
    out_clears x c.args.request.encoding (rw c.in_ok-found.ensures.ok_part at c.find_two.ensures) _ _ c.carry_out.ensures.memory_left

pub returns-clause-buffer_left : goal.returns-clause-buffer_left
returns-clause-buffer_left c =
    let x = sends _ _ _ c.args.token _ _ _ _ c.requires c.issued_paged-paged.result c.issued_direct-fresh.result c.entry_at-e.ensures c.issued_paged-paged.ensures c.issued_direct-fresh.ensures in
    out_fills x c.args.request.encoding (rw c.in_ok-found.ensures.ok_part at c.find_two.ensures) _ _ _ c.carry_out.ensures.buffer_left
