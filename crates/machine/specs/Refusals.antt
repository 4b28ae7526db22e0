-- What a refusal tells, and what a refused request leaves as it was (01, "Where a request stops").
-- Assumes nothing.
use Rattle.std.specs.Prelude.{◌≡◌, ◌≢◌, [], ℕ, ◌≤◌}
use Rattle.machine.specs.Requests.{Call}
use Rattle.machine.specs.Steps.{answer, decision, Machine, step}

-- one of 01's numbers, or 02's; only 3 and 4 tell which entry was bad: 1 "the named entry", 2 "an ancestor"
pub record Told (refusal bad : ℕ) : Type 0 where
  pub least : 1 ≤ refusal
  pub most : refusal ≤ 17
  pub line : 3 ≤ refusal → refusal ≤ 4 → (1 ≤ bad) × (bad ≤ 2)
  pub plain : refusal ≢ 3 → refusal ≢ 4 → bad ≡ 0

-- "A refusal returns its number and zero for each token; table, memory, state and the caller's buffer keep their bytes."
pub record Untouched (σ : Machine) (q : Call) : Type 0 where
  pub machine : step σ q ≡ σ
  pub buffer : (answer σ q).buffer ≡ q.buffer
  pub tokens : (answer σ q).reply.tokens ≡ []
  pub dropped : (answer σ q).reply.dropped ≡ 0
  pub length : (answer σ q).reply.length ≡ 0
  pub issued : (decision σ q).issued ≡ []
