-- What holds from reset on (01, "Operations"), whatever requests but a granted reset follow.
-- Assumes nothing.
use Rattle.std.specs.Prelude.{◌≡◌, ◌≢◌, cond, false, true, List, ◌∷◌, ◌++◌, ℕ, zero, suc, ◌+◌, ◌≤◌, ◌<◌, eqb, length}
use Rattle.layout.specs.Entry.{Storable}
use Rattle.layout.specs.Form.{ill_formed}
use Rattle.layout.specs.declared.entry.Entry.{Entry}
use Rattle.tokens.specs.Permissions.{within}
use Rattle.machine.specs.Line.{parent_number}
use Rattle.machine.specs.MachineSystem.{Accepted, reset_call, Unreset}
use Rattle.machine.specs.Parts.{at, size}
use Rattle.machine.specs.Requests.{Call}
use Rattle.machine.specs.Segments.{In, Linked}
use Rattle.machine.specs.Steps.{Machine, pass, run, step, verdict}
use Rattle.machine.specs.Stops.{at_request, need_all, settings, sizes}

-- a number for each entry, added up over the first k entries, and over all
unfoldable pub added_below : (ℕ → Entry → ℕ) → List ℕ → ℕ → ℕ
added_below f t zero = 0
added_below f t (suc k) = added_below f t k + f k (at t k)

abbrev pub added : (ℕ → Entry → ℕ) → List ℕ → ℕ
added f t = added_below f t (size t)

-- how many bytes an entry owns: a direct one its length, any other none, also one that is paged out; and how many all own together
abbrev pub owned : Entry → ℕ
owned e = cond (eqb e.kind 1) e.length 0

abbrev pub owned_in_all : List ℕ → ℕ
owned_in_all t = added (λ n e. owned e) t

-- byte x lies in the segment of the direct entry n, which is its owner
pub record Has (t : List ℕ) (n x : ℕ) : Type 0 where
  pub direct : (at t n).kind ≡ 1
  pub inside : In (at t n) x

-- byte x has an owner
pub record Owned (t : List ℕ) (x : ℕ) : Type 0 where
  pub owner : ℕ
  pub has : Has t owner x

-- the segment of e lies in that of p, and its permissions within those of p
pub record Inside (e p : Entry) : Type 0 where
  pub low : p.base ≤ e.base
  pub high : e.base + e.length ≤ p.base + p.length
  pub rights : within e.permissions p.permissions ≡ true

-- the machine is in order
pub record Sound (σ : Machine) : Type 0 where
  -- place 1, as far as it is the same for all requests but reset, refuses none: sizes and settings hold
  pub settled : verdict (need_all at_request (sizes (length σ.memory) σ.table ++ settings σ.state σ.table)) ≡ pass
  -- "From reset on, the lengths of all direct entries add up to the memory's length,"
  pub sum : owned_in_all σ.table ≡ length σ.memory
  -- "and no byte has two owners." Each has one.
  pub one : (n k x : ℕ) → Has σ.table n x → Has σ.table k x → n ≡ k
  pub some : (x : ℕ) → x < length σ.memory → Owned σ.table x
  -- an entry that is not free is well-formed, can be packed with nothing lost, and has a nonce that was taken
  pub formed : (n : ℕ) → (at σ.table n).kind ≢ 0 → ill_formed (length σ.memory) (at σ.table n) ≡ false
  pub storable : (n : ℕ) → (at σ.table n).kind ≢ 0 → Storable (at σ.table n)
  pub below : (n : ℕ) → (at σ.table n).kind ≢ 0 → (at σ.table n).nonce < σ.state.next
  -- a direct entry is Lockable, and so is one that is paged out; an indirect one has a count of at least 1
  pub lockable : (n : ℕ) → (at σ.table n).kind ≡ 1 → (at σ.table n).lockable ≡ true
  pub paged_lockable : (n : ℕ) → (at σ.table n).kind ≡ 3 → (at σ.table n).lockable ≡ true
  pub counted : (n : ℕ) → (at σ.table n).kind ≡ 2 → 1 ≤ (at σ.table n).count
  -- an entry whose link holds lies inside its parent
  pub inside : (n : ℕ) → Linked σ.table n → Inside (at σ.table n) (at σ.table (parent_number (at σ.table n)))

-- after every granted reset and any list of requests without a granted reset
unfoldable pub FromReset : Type 0
FromReset =
    (σ : Machine) (k0 k1 ν : ℕ) (b : List ℕ) → Accepted σ (reset_call k0 k1 ν b) →
    (after : List Call) → Unreset (step σ (reset_call k0 k1 ν b)) after →
    Sound (run σ (reset_call k0 k1 ν b ∷ after))
