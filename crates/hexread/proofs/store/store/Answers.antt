-- `hexread::store::store` meets its contract: a law for each kind of record.
use Rattle.std.proofs.Common.{rules, arith, ◌+◌, ◌*◌}
use Rattle.hexread.proofs.JudgeLaws.{shorter}
use Rattle.hexread.proofs.StoreLaws.{data_asked, data_stored, known-asked, piece-asked, store-cases, store_data, to_page}
use Rattle.hexread.proofs.store.store.Goals as goal

pub loop-address-init : goal.loop-address-init
loop-address-init c = search (rules, store-cases)

pub known_in-requires : goal.known_in-requires
known_in-requires c = known-asked c.loop-address.invariant

pub overflow_mul-last : goal.overflow_mul-last
overflow_mul-last c = omega (arith, (data_asked c.loop-address.invariant c.known_in.ensures c.in-Data.is).address_small)

pub overflow_add-last : goal.overflow_add-last
overflow_add-last c = omega (arith, (data_asked c.loop-address.invariant c.known_in.ensures c.in-Data.is).address_small)

pub slice_bounds-store_piece-end : goal.slice_bounds-store_piece-end
slice_bounds-store_piece-end c = let p = data_asked c.loop-address.invariant c.known_in.ensures c.in-Data.is in omega (arith, (piece-asked p).0)

pub overflow_add-page : goal.overflow_add-page
overflow_add-page c = let p = data_asked c.loop-address.invariant c.known_in.ensures c.in-Data.is in omega (arith, p.page_small, p.address_small)

pub store_piece-requires : goal.store_piece-requires
store_piece-requires c = let p = data_asked c.loop-address.invariant c.known_in.ensures c.in-Data.is in piece-asked p

pub overflow_add-rest : goal.overflow_add-rest
overflow_add-rest c = omega (arith, (data_asked c.loop-address.invariant c.known_in.ensures c.in-Data.is).address_small)

pub slice_bounds-rest-count : goal.slice_bounds-rest-count
slice_bounds-rest-count c = omega (arith, (data_asked c.loop-address.invariant c.known_in.ensures c.in-Data.is).within)

pub slice_bounds-rest-start : goal.slice_bounds-rest-start
slice_bounds-rest-start c = omega (arith, (data_asked c.loop-address.invariant c.known_in.ensures c.in-Data.is).within)

pub loop-address-smaller-in-Data : goal.loop-address-smaller-in-Data
loop-address-smaller-in-Data c = shorter c.loop-address.rest.now (9 + 2 * c.in-Data.count + 3) (omega arith) (omega (arith, (data_asked c.loop-address.invariant c.known_in.ensures c.in-Data.is).within))

pub loop-address-preserved-in-Data : goal.loop-address-preserved-in-Data
loop-address-preserved-in-Data c = store_data c.loop-address.invariant c.known_in.ensures c.in-Data.is (omega arith) (data_stored c.loop-address.rest.now c.loop-address.segment 0 (65536 * c.loop-address.page + c.in-Data.address) c.in-Data.count c.store_piece.ensures).1

pub slice_bounds-rest-count-in-Page : goal.slice_bounds-rest-count-in-Page
slice_bounds-rest-count-in-Page c = to_page c.loop-address.invariant c.known_in.ensures c.in-Page.is

pub slice_bounds-rest-start-in-Page : goal.slice_bounds-rest-start-in-Page
slice_bounds-rest-start-in-Page c = to_page c.loop-address.invariant c.known_in.ensures c.in-Page.is

pub loop-address-smaller : goal.loop-address-smaller
loop-address-smaller c = shorter c.loop-address.rest.now 16 (omega arith) (to_page c.loop-address.invariant c.known_in.ensures c.in-Page.is)

pub loop-address-preserved : goal.loop-address-preserved
loop-address-preserved c = search (rules, store-cases)

pub returns-in-End : goal.returns-in-End
returns-in-End c = search (rules, store-cases)
