-- Requests that only look: what holds of each.
-- Assumes nothing.
use Rattle.std.specs.Prelude.{◌≡◌, List, ℕ, length}
use Rattle.machine.specs.Requests.{Call, Look, look}
use Rattle.machine.specs.Steps.{answer, Machine, step}

abbrev pub look_call : Look → (buffer : List ℕ) → Call
look_call v b = record { request = look v; buffer = b }

-- whatever is looked at, and granted or not: the machine stays as it was, and no byte of memory bears on the answer
pub record OnlyLooks : Type 0 where
  pub still : (σ : Machine) (v : Look) (b : List ℕ) → step σ (look_call v b) ≡ σ
  pub blind : (σ τ : Machine) (v : Look) (b : List ℕ) → σ.state ≡ τ.state → σ.table ≡ τ.table → length σ.memory ≡ length τ.memory → answer σ (look_call v b) ≡ answer τ (look_call v b)
