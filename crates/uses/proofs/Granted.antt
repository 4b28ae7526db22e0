-- Machines written out, and a granted request: what it issues and the machine that it leaves, had from its decision alone, which is dear to compute with the
-- real tags.
-- Assumes nothing.
use mathlib.Core.Path.{◌≡◌}
use mathlib.Core.List.{List, [], ◌∷◌, ◌++◌, map}
use Prim.Native.Nat.{ℕ}
use Rattle.layout.specs.Entry.{entry_bytes}
use Rattle.layout.specs.declared.entry.Entry.{Entry}
use Rattle.machine.specs.MachineSystem.{Accepted}
use Rattle.machine.specs.Operations.{Decision, Effect, granted}
use Rattle.machine.specs.Requests.{Call}
use Rattle.machine.specs.Steps.{answer, decision, Machine, memory_after, step}
use Rattle.machine.specs.Writes.{Name, token_for}

-- with key 0, these entries in its table, and this memory
abbrev pub table_with : List Entry → List ℕ
table_with [] = []
table_with (e ∷ es) = entry_bytes e ++ table_with es

abbrev pub holding : (last next total : ℕ) → List Entry → (memory : List ℕ) → Machine
holding l ν k es m = record { state = record { key0 = 0; key1 = 0; last = l; next = ν; total = k }; table = table_with es; memory = m }

pub record Grants (σ : Machine) (q : Call) (ks : List Name) (τ : Machine) : Type 0 where
  pub accepted : Accepted σ q
  pub issued : (decision σ q).issued ≡ ks
  pub leaves : step σ q ≡ τ

-- the tokens are told in encoding 0
abbrev pub decides : (issued : List Name) → Machine → Effect → Decision
decides ks τ f = record { state = τ.state; table = τ.table; reply = granted (map (token_for 0) ks) 0 0; issued = ks; effect = f }

pub grants : {σ : Machine} {q : Call} {ks : List Name} {τ : Machine} (f : Effect) → decision σ q ≡ decides ks τ f → memory_after f σ.memory ≡ τ.memory → Grants σ q ks τ
unfolding step answer
grants f d m = record { accepted = rw d; issued = rw d; leaves = rw (d, m) }
