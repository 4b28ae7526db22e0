-- Requests that change nothing, granted or not (01, "Operations").
-- Assumes nothing.
use Rattle.std.specs.Prelude.{◌≡◌, true, List, ℕ, length}
use Rattle.bits.specs.Bytes.{AllBytes}
use Rattle.machine.specs.Line.{is_locked, Line, line_of, owner_of}
use Rattle.machine.specs.Operations.{named_entry, number_of}
use Rattle.machine.specs.Parts.{at}
use Rattle.machine.specs.Requests.{Call, lock, release}
use Rattle.machine.specs.Steps.{answer, Machine, step}

-- the line of the entry that a token names
abbrev pub named_line : Machine → ℕ → Line
named_line σ k = line_of (length σ.memory) σ.table (number_of k)

-- a lock "by the holder again [..] succeeds and changes nothing", no byte of the table
unfoldable pub LockAgain : Type 0
LockAgain =
    (σ : Machine) (k u : ℕ) (b : List ℕ) → AllBytes σ.table
    → is_locked σ.table (named_line σ k) ≡ true → (at σ.table (owner_of (named_line σ k))).holder ≡ u
    → step σ (record { request = lock k u; buffer = b }) ≡ σ

-- a drop "At 1 under a locked owner nothing changes, answer 0"
unfoldable pub HeldDrop : Type 0
HeldDrop =
    (σ : Machine) (k : ℕ) (b : List ℕ) → (named_entry σ.table k).count ≡ 1 → is_locked σ.table (named_line σ k) ≡ true
    → let q : Call = record { request = release k; buffer = b } in
    (step σ q ≡ σ) × ((answer σ q).reply.dropped ≡ 0)
