-- `segments::create::grant_create` meets its contract: the part lies in the segment, so that its numbers fit, and so do the rest's.
use Rattle.std.proofs.Common.{refl, arith}
use Rattle.std.proofs.lemmas.Result.{err_from_is_err_and}
use Rattle.entering.specs.Nonces.{Sought, SoughtTwo}
use Rattle.layout.specs.Entry.{dated, entry_of, words_number}
use Rattle.segments.proofs.CreateLaws.{create_in, issuable, parting, rest-grants, rest_in, rest-spent, whole-grants, whole-spent}
use Rattle.segments.proofs.SegmentLaws.{found-none, found_with}
use Rattle.segments.proofs.create.grant_create.Goals as goal

pub entry_at-e-requires : goal.entry_at-e-requires
entry_at-e-requires c = create_in _ _ _ c.args.token c.args.request c.requires.0

pub overflow_cast-long : goal.overflow_cast-long
overflow_cast-long c = let p = parting _ _ _ c.args.token c.args.request _ _ c.requires c.entry_at-e.ensures in omega (arith, p.part, p.end)

pub overflow_cast-request : goal.overflow_cast-request
overflow_cast-request c = omega (arith, (parting _ _ _ c.args.token c.args.request _ _ c.requires c.entry_at-e.ensures).permitted)

pub issued_direct-part-requires : goal.issued_direct-part-requires
issued_direct-part-requires c = (parting _ _ _ c.args.token c.args.request _ _ c.requires c.entry_at-e.ensures).permitted

pub find-requires-clause-next_le_spent : goal.find-requires-clause-next_le_spent
find-requires-clause-next_le_spent c = (parting _ _ _ c.args.token c.args.request _ _ c.requires c.entry_at-e.ensures).next

pub find-requires-clause-issuable : goal.find-requires-clause-issuable
find-requires-clause-issuable c = issuable (parting _ _ _ c.args.token c.args.request _ _ c.requires c.entry_at-e.ensures).new_inside c.issued_direct-part.ensures refl

pub returns-in_err-found : goal.returns-in_err-found
returns-in_err-found c =
    let p = err_from_is_err_and c.from_residual.result c.from_residual.ensures.1 in
    let n = found-none (Sought _ _ _ _) _ _ c.ok_or.ensures.value c.find.ensures c.in_err-found.was in
    rw (p.1, p.2, n.1) (whole-spent _ _ c.args.token c.args.request _ _ _ c.entry_at-e.ensures c.issued_direct-part.ensures c.requires.1 c.if-long-e.true n.0)

pub give-given-requires-clause-issues : goal.give-given-requires-clause-issues
give-given-requires-clause-issues c =
    let p = parting _ _ _ c.args.token c.args.request _ _ c.requires c.entry_at-e.ensures in
    record {
      issuable = issuable p.new_inside c.issued_direct-part.ensures refl;
      small = p.new_small;
      encoded = p.encoded;
      found = found_with (Sought _ _ _ _) _ _ c.ok_or.ensures.value c.find.ensures c.in_ok-found.was;
    }

pub vacate-s-requires : goal.vacate-s-requires
vacate-s-requires c =
    let p = parting _ _ _ c.args.token c.args.request _ _ c.requires c.entry_at-e.ensures in
    rest_in _ _ _ _ (dated (entry_of (words_number c.issued_direct-part.result))) _ c.give-given.ensures p.inside

pub returns-then-long-e : goal.returns-then-long-e
returns-then-long-e c =
    let f = found_with (Sought _ _ _ _) _ _ c.ok_or.ensures.value c.find.ensures c.in_ok-found.was in
    whole-grants _ _ c.args.token c.args.request _ _ _ c.entry_at-e.ensures c.issued_direct-part.ensures c.requires.1 c.if-long-e.true _ f c.give-given.new.s _ _ _ _ _ c.give-given.ensures c.vacate-s.ensures.value c.vacate-s.ensures.table_after c.giving.ensures

pub overflow_add-base : goal.overflow_add-base
overflow_add-base c = let p = parting _ _ _ c.args.token c.args.request _ _ c.requires c.entry_at-e.ensures in omega (arith, p.part, p.end)

pub overflow_sub-left : goal.overflow_sub-left
overflow_sub-left c = (parting _ _ _ c.args.token c.args.request _ _ c.requires c.entry_at-e.ensures).part

pub issued_direct-rest-requires : goal.issued_direct-rest-requires
issued_direct-rest-requires c = (parting _ _ _ c.args.token c.args.request _ _ c.requires c.entry_at-e.ensures).rights

pub find_two-requires-clause-next_le_spent : goal.find_two-requires-clause-next_le_spent
find_two-requires-clause-next_le_spent c = let p = parting _ _ _ c.args.token c.args.request _ _ c.requires c.entry_at-e.ensures in (p.next, p.apart)

pub find_two-requires-clause-issuable : goal.find_two-requires-clause-issuable
find_two-requires-clause-issuable c = issuable (parting _ _ _ c.args.token c.args.request _ _ c.requires c.entry_at-e.ensures).new_inside c.issued_direct-part.ensures refl

pub find_two-requires-clause-issuable_2 : goal.find_two-requires-clause-issuable_2
find_two-requires-clause-issuable_2 c = issuable (parting _ _ _ c.args.token c.args.request _ _ c.requires c.entry_at-e.ensures).inside c.issued_direct-rest.ensures refl

pub returns-in_err-found-2 : goal.returns-in_err-found-2
returns-in_err-found-2 c =
    let p = err_from_is_err_and c.from_residual-in_err-found-2.result c.from_residual-in_err-found-2.ensures.1 in
    let n = found-none (SoughtTwo _ _ _ _ _ _) _ _ c.ok_or-2.ensures.value c.find_two.ensures c.in_err-found-2.was in
    rw (p.1, p.2, n.1) (rest-spent _ _ c.args.token c.args.request _ _ _ c.entry_at-e.ensures c.issued_direct-part.ensures c.requires.1 c.if-long-e.false _ c.issued_direct-rest.ensures n.0)

pub issue_two-first-requires-clause-issues_two : goal.issue_two-first-requires-clause-issues_two
issue_two-first-requires-clause-issues_two c =
    let p = parting _ _ _ c.args.token c.args.request _ _ c.requires c.entry_at-e.ensures in
    record {
      first = issuable p.new_inside c.issued_direct-part.ensures refl;
      second = issuable p.inside c.issued_direct-rest.ensures refl;
      small = (p.new_small, p.small);
      encoded = p.encoded;
      found = found_with (SoughtTwo _ _ _ _ _ _) _ _ c.ok_or-2.ensures.value c.find_two.ensures c.in_ok-found-2.was;
    }

pub returns : goal.returns
returns c =
    let f = found_with (SoughtTwo _ _ _ _ _ _) _ _ c.ok_or-2.ensures.value c.find_two.ensures c.in_ok-found-2.was in
    rest-grants _ _ c.args.token c.args.request _ _ _ c.entry_at-e.ensures c.issued_direct-part.ensures c.requires.1 c.if-long-e.false _ c.issued_direct-rest.ensures _ f _ _ _ _ _ (c.issue_two-first.ensures.first_given refl) c.giving_two.ensures
