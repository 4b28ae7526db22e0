-- A refused request leaves state, table, memory and buffer as they were, gives no token, and tells one of 01's numbers with its place.
-- Assumes nothing.
use mathlib.Core.Logic.{◌≢◌}
use Rattle.machine.specs.Refusals.{Told, Untouched}
use Rattle.machine.specs.Requests.{Call}
use Rattle.machine.specs.Steps.{answer, Machine, step}
use Rattle.machine.proofs.Decided.{away, taken, tells, Turned, turned}

pub refused_keeps : (σ : Machine) (q : Call) → (answer σ q).reply.refusal ≢ 0 → Untouched σ q
unfolding answer step
refused_keeps σ q h = go (turned σ q)
  where
    go : Turned σ q → Untouched σ q
    go (taken a p e) = absurd (h a)
    go (away r e n) = record { machine = rw e; buffer = rw e; tokens = rw e; dropped = rw e; length = rw e; issued = rw e }

pub refused-tells : (σ : Machine) (q : Call) → (answer σ q).reply.refusal ≢ 0 → Told (answer σ q).reply.refusal (answer σ q).reply.bad
unfolding answer
refused-tells σ q h = go (turned σ q)
  where
    go : Turned σ q → Told (answer σ q).reply.refusal (answer σ q).reply.bad
    go (taken a p e) = absurd (h a)
    go (away r e n) = rw e (tells r)
