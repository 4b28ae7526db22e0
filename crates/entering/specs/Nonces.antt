-- The nonces of issues, as the code finds them before anything is written.
-- Assumes nothing.
use Rattle.std.specs.Prelude.{◌≡◌, Option, Some, None, List, ℕ, ◌+◌, ◌*◌, ◌≤◌, ◌<◌, length}
use Rattle.layout.specs.Entry.{dated, Laid}
use Rattle.layout.specs.declared.entry.Entry.{Entry}
use Rattle.machine.specs.Issuing.{issue, other_nonce}
use Rattle.machine.specs.Parts.{moved, put, spent, State}
use Rattle.entering.specs.declared.nonces.Found.{Found}
use Rattle.entering.specs.declared.nonces.FoundTwo.{FoundTwo}

-- a state of which only the key is known, which is all that an issue takes of it
abbrev pub keyed : (key0 key1 : ℕ) → State
keyed a b = record { key0 = a; key1 = b; last = 0; next = 0; total = 0 }

-- what must hold for the entry e to be issued under number n
pub record Issuable (t : List ℕ) (n : ℕ) (e : Entry) : Type 0 where
  pub inside : 32 * n + 32 ≤ length t
  pub laid : Laid e.kind

-- the nonce with which e is issued under number n, and the tag that it gives
pub record Finds (s : State) (t : List ℕ) (n : ℕ) (e : Entry) (r : Found) : Type 0 where
  pub nonce : r.nonce ≡ other_nonce s t n (dated e)
  pub left : r.nonce < spent
  pub tag : r.tag ≡ (issue s n (dated e r.nonce)).tag

-- what a search for them came to: none is left, or these
abbrev pub Sought : State → List ℕ → ℕ → Entry → Option Found → Type 0
Sought s t n e None = other_nonce s t n (dated e) ≡ spent
Sought s t n e (Some r) = Finds s t n e r

-- The same for two: e is issued under number n, and then f under number k. What the last number and the free total are between the two does not matter, so that
-- either may be the one that is given a new number.
pub record FindsTwo (s : State) (t : List ℕ) (n : ℕ) (e : Entry) (k : ℕ) (f : Entry) (r : FoundTwo) : Type 0 where
  pub one : Finds s t n e r.first
  pub two : (last total : ℕ) → Finds (moved s last (r.first.nonce + 1) total) (put t n (issue s n (dated e r.first.nonce))) k f r.second

abbrev pub SoughtTwo : State → List ℕ → ℕ → Entry → ℕ → Entry → Option FoundTwo → Type 0
SoughtTwo s t n e k f None =
    (last total : ℕ) → let ν = other_nonce s t n (dated e) in
    spent ≤ other_nonce (moved s last (ν + 1) total) (put t n (issue s n (dated e ν))) k (dated f)
SoughtTwo s t n e k f (Some r) = FindsTwo s t n e k f r
