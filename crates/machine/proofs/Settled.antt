-- The state stays as place 1 wants it: what a granted request leaves, and what any request but a granted reset keeps.
-- Assumes nothing.
use mathlib.Core.Path.{◌≡◌, refl}
use mathlib.Core.List.{List, [], ◌∷◌, ◌++◌}
use Prim.Native.Nat.{ℕ, ◌^◌, ◌≤◌, ◌<◌}
use native.Mathlib.Omega.{arith}
use lib.ListN.{length}
use borrow.Author.Tests.{le-leb, leb-true, lt-ltb, ltb-true}
use Rattle.machine.specs.MachineSystem.{Accepted, IsReset, reset_call, Unreset}
use Rattle.machine.specs.Operations.{book, grant}
use Rattle.machine.specs.Parts.{most_entries, most_free, size, spent, State}
use Rattle.machine.specs.Requests.{Call, Request, reset}
use Rattle.machine.specs.Steps.{decision, Machine, run, step}
use Rattle.machine.specs.Stops.{checks, settings, sizes}
use Rattle.machine.specs.Writes.{opened}
use Rattle.machine.proofs.Decided.{accepted, AllTrue, away, nonces_passed, Passed, sizes-passed, taken, true_join, true-split, Turned, turned}
use Rattle.machine.proofs.Grants.{granted_fits, unless}
use Rattle.machine.proofs.Lent.{as_long_lem}
use Rattle.machine.proofs.WriteLaws.{key_kept, next_up, numbered_after}
use Rattle.machine.proofs.Runs.{NotReset}

-- the settings hold of a state beside a table of so many entries
record InOrder (z : ℕ) (s : State) : Type 0 where
  last : s.last < z
  least : 1 ≤ s.next
  most : s.next ≤ spent
  total : s.total < z

in_order_lem : (s : State) (t : List ℕ) → AllTrue (settings s t) → InOrder (size t) s
in_order_lem s t h =
    let last : s.last < size t = ltb-true _ _ h.0 in
    record { last = last; least = leb-true _ _ h.1.0; most = leb-true _ _ h.1.1.0; total = omega (arith, leb-true s.total (most_free t) h.1.1.1.0) }

granted_order : (m : ℕ) (s : State) (t : List ℕ) (q : Request) (b : List ℕ) → (IsReset q → ⊥) → InOrder (size t) s → Passed (checks m s t q b) → InOrder (size t) (book s t (grant m t q b)).state
granted_order m s t q b nr o p =
    let g = grant m t q b in
    let some : 0 < size t = omega (arith, o.last) in
    let numbered = numbered_after g.encoding (size t) (size t) some (omega arith) (opened s t) g.writes (record { ranged = record { sized = refl; total = o.total }; last = o.last }) in
    record {
      last = numbered.last;
      total = numbered.ranged.total;
      least = omega (arith, o.least, next_up g.encoding (size t) (opened s t) g.writes (unless (granted_fits m s t q b p).within nr));
      most = nonces_passed m s t q b p;
    }

-- sizes and settings hold of a machine
abbrev pub Settled : Machine → Type 0
Settled σ = AllTrue (sizes (length σ.memory) σ.table ++ settings σ.state σ.table)

settled : (σ : Machine) (q : Call) → AllTrue (sizes (length σ.memory) σ.table) → InOrder (size σ.table) (decision σ q).state → Settled (step σ q)
unfolding step size
settled σ q z h =
    let table : length (decision σ q).table ≡ length σ.table = (as_long_lem σ q).table in
    let memory = (as_long_lem σ q).memory in
    rw (table, memory) (true_join (sizes (length σ.memory) σ.table) (settings (decision σ q).state σ.table) z (lt-ltb _ _ h.last, (le-leb _ _ h.least, (le-leb _ _ h.most, (le-leb _ (most_free σ.table) (omega (arith, h.total)), tt)))))

-- after a granted reset, and after any request that is no granted reset
pub settled-reset : (σ : Machine) (k0 k1 ν : ℕ) (b : List ℕ) → Accepted σ (reset_call k0 k1 ν b) → Settled (step σ (reset_call k0 k1 ν b))
settled-reset σ k0 k1 ν b ok =
    let q : Request = reset k0 k1 ν in
    let fine = accepted σ (reset_call k0 k1 ν b) ok in
    let p = fine.0 in
    let z = sizes-passed (length σ.memory) σ.state σ.table q b p in
    settled σ (reset_call k0 k1 ν b) z
    (rw fine.1
    (record {
      last = omega (arith, leb-true 2 (size σ.table) z.1.1.1.0);
      least = leb-true 1 ν (search);
      most = nonces_passed (length σ.memory) σ.state σ.table q b p;
      total = omega (arith, leb-true 2 (size σ.table) z.1.1.1.0);
    }))

pub settled_step : (σ : Machine) (q : Call) → NotReset σ q → Settled σ → Settled (step σ q)
settled_step σ q nr h =
    let p = true-split (sizes m σ.table) (settings σ.state σ.table) h in
    settled σ q p.0 (go (in_order_lem σ.state σ.table p.1) (turned σ q))
  where
    m : ℕ
    m = length σ.memory

    go : InOrder (size σ.table) σ.state → Turned σ q → InOrder (size σ.table) (decision σ q).state
    go o (taken a p e) = rw e (granted_order m σ.state σ.table q.request q.buffer (λ i. nr (i, a)) o p)
    go o (away r e na) = rw e o

pub settled-run : (σ : Machine) (qs : List Call) → Unreset σ qs → Settled σ → Settled (run σ qs)
settled-run σ [] nr h = h
settled-run σ (q ∷ qs) nr h = settled-run (step σ q) qs nr.1 (settled_step σ q nr.0 h)

-- ---- the state's words

-- each has 64 bits
pub record StateFits (s : State) : Type 0 where
  pub key0 : s.key0 < 2 ^ 64
  pub key1 : s.key1 < 2 ^ 64
  pub last : s.last < 2 ^ 64
  pub next : s.next < 2 ^ 64
  pub total : s.total < 2 ^ 64

-- and so have the keys of the request, if it is a reset
pub data KeysFit : Request → Type 0 where
  keys : (k0 k1 ν : ℕ) → k0 < 2 ^ 64 → k1 < 2 ^ 64 → KeysFit (reset k0 k1 ν)
  none : {q : Request} → (IsReset q → ⊥) → KeysFit q

pub words-stay : (σ : Machine) (q : Call) → KeysFit q.request → StateFits σ.state → StateFits (step σ q).state
unfolding step
words-stay σ q k h = go (turned σ q)
  where
    s : State
    s = σ.state

    t : List ℕ
    t = σ.table

    m : ℕ
    m = length σ.memory

    granted-words : (r : Request) → KeysFit r → Passed (checks m s t r q.buffer) → StateFits (book s t (grant m t r q.buffer)).state
    granted-words _ (keys k0 k1 ν a b) p =
        let z = sizes-passed m s t (reset k0 k1 ν) q.buffer p in
        record {
          key0 = a;
          key1 = b;
          last = omega arith;
          next = omega (arith, nonces_passed m s t (reset k0 k1 ν) q.buffer p);
          total = omega (arith, leb-true (size t) most_entries z.1.1.1.1.0);
        }
    granted-words r (none n) p =
        let g = grant m t r q.buffer in
        let z = sizes-passed m s t r q.buffer p in
        let two : 2 ≤ size t = leb-true 2 (size t) z.1.1.1.0 in
        let most : size t ≤ 1024 = leb-true (size t) most_entries z.1.1.1.1.0 in
        let same = key_kept g.encoding (size t) (opened s t) g.writes (unless (granted_fits m s t r q.buffer p).within n) in
        let numbered = numbered_after g.encoding (size t) (2 ^ 64) (omega arith) (omega arith) (opened s t) g.writes (record { ranged = record { sized = refl; total = h.total }; last = h.last }) in
        record {
          key0 = rw same.0 h.key0;
          key1 = rw same.1 h.key1;
          last = numbered.last;
          total = numbered.ranged.total;
          next = omega (arith, nonces_passed m s t r q.buffer p);
        }

    go : Turned σ q → StateFits (decision σ q).state
    go (taken a p e) = rw e (granted-words q.request k p)
    go (away r e na) = rw e h
