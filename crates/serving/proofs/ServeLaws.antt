-- A request that is another is served as that one is.
-- Assumes nothing.
use mathlib.Core.Path.{◌≡◌}
use mathlib.Core.List.{List}
use Prim.Native.Nat.{ℕ}
use Rattle.table.specs.declared.state.StateWords.{StateWords}
use Rattle.rulings.specs.Asked.{request_as}
use Rattle.rulings.specs.Served.{Served}
use Rattle.rulings.specs.declared.reply.Granted.{Granted}
use Rattle.checks.specs.declared.refusal.Refusal.{Refusal}
use Rattle.std.specs.Prelude.{Result}
use Rattle.rulings.specs.declared.request.Request.{Request}

pub served_as : {q p : Request} (leases : List ℕ) {s : StateWords} {t m b : List ℕ} {s' : StateWords} {t' m' b' : List ℕ} {r : Result Granted Refusal}
    → q ≡ p → Served (request_as p leases) s t m b s' t' m' b' r → Served (request_as q leases) s t m b s' t' m' b' r
served_as ls e h = rw e h
