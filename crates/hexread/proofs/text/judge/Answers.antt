-- `hexread::text::judge` meets its contract: a law for each kind of record.
use Rattle.std.proofs.Common.{rules, arith, ◌+◌, ◌*◌}
use Rattle.hexread.proofs.JudgeLaws.{data_fits, judge-cases, judge-page, page_fits, shorter}
use Rattle.hexread.proofs.text.judge.Goals as goal

pub loop-address-init : goal.loop-address-init
loop-address-init c = search (rules, judge-cases)

pub returns-in_err-address : goal.returns-in_err-address
returns-in_err-address c = search (rules, judge-cases)

pub raised-best-requires : goal.raised-best-requires
raised-best-requires c =
    let f = data_fits c.loop-address.invariant c.record_in.ensures c.in_ok-address.was c.in-Data.is in
    let small = c.loop-address.invariant.small in
    (omega arith, (omega (arith, f.1), omega (arith, f.1)))

pub overflow_mul-rest : goal.overflow_mul-rest
overflow_mul-rest c = omega (arith, (data_fits c.loop-address.invariant c.record_in.ensures c.in_ok-address.was c.in-Data.is).1)

pub overflow_add-rest : goal.overflow_add-rest
overflow_add-rest c = omega (arith, (data_fits c.loop-address.invariant c.record_in.ensures c.in_ok-address.was c.in-Data.is).1)

pub slice_bounds-rest-count : goal.slice_bounds-rest-count
slice_bounds-rest-count c = (data_fits c.loop-address.invariant c.record_in.ensures c.in_ok-address.was c.in-Data.is).0

pub slice_bounds-rest-start : goal.slice_bounds-rest-start
slice_bounds-rest-start c = (data_fits c.loop-address.invariant c.record_in.ensures c.in_ok-address.was c.in-Data.is).0

pub loop-address-smaller-in-Data : goal.loop-address-smaller-in-Data
loop-address-smaller-in-Data c = shorter c.loop-address.rest.now (12 + 2 * c.in-Data.count) (omega arith) (data_fits c.loop-address.invariant c.record_in.ensures c.in_ok-address.was c.in-Data.is).0

pub loop-address-preserved-in-Data : goal.loop-address-preserved-in-Data
loop-address-preserved-in-Data c = search (rules, judge-cases)

pub slice_bounds-rest-count-in-Page : goal.slice_bounds-rest-count-in-Page
slice_bounds-rest-count-in-Page c = page_fits c.loop-address.invariant c.record_in.ensures c.in_ok-address.was c.in-Page.is

pub slice_bounds-rest-start-in-Page : goal.slice_bounds-rest-start-in-Page
slice_bounds-rest-start-in-Page c = page_fits c.loop-address.invariant c.record_in.ensures c.in_ok-address.was c.in-Page.is

pub loop-address-smaller : goal.loop-address-smaller
loop-address-smaller c = shorter c.loop-address.rest.now 16 (omega arith) (page_fits c.loop-address.invariant c.record_in.ensures c.in_ok-address.was c.in-Page.is)

pub loop-address-preserved : goal.loop-address-preserved
loop-address-preserved c = judge-page c.loop-address.invariant c.record_in.ensures c.in_ok-address.was c.in-Page.is

pub returns-in-End : goal.returns-in-End
returns-in-End c = search (rules, judge-cases)

pub returns-in-End-2 : goal.returns-in-End-2
returns-in-End-2 c = search (rules, judge-cases)
