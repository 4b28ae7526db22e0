-- What is lent stays what it was lent as: lists of bytes, as long as they were (01, "The parts of the machine").
-- Assumes nothing.
use Rattle.std.specs.Prelude.{◌≡◌, List, ℕ, length}
use Rattle.bits.specs.Bytes.{AllBytes}
use Rattle.machine.specs.Requests.{Call}
use Rattle.machine.specs.Steps.{answer, Machine, step}

-- table, memory and buffer b are lists of bytes
pub record LentBytes (σ : Machine) (b : List ℕ) : Type 0 where
  pub table : AllBytes σ.table
  pub memory : AllBytes σ.memory
  pub buffer : AllBytes b

-- a call leaves table, memory and its buffer as long as they were
pub record AsLong (σ : Machine) (q : Call) : Type 0 where
  pub table : length (step σ q).table ≡ length σ.table
  pub memory : length (step σ q).memory ≡ length σ.memory
  pub buffer : length (answer σ q).buffer ≡ length q.buffer
