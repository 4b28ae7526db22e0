-- Segments, locks, owners and the tokens under a segment (01, "The lists of demand 3"): what demand 3 reads of a table.
-- Assumes nothing.
use Rattle.std.specs.Prelude.{◌≡◌, ◌≢◌, true, List, ℕ, ◌+◌, ◌≤◌, ◌<◌}
use Rattle.layout.specs.declared.entry.Entry.{Entry}
use Rattle.machine.specs.Line.{linked, parent_number}
use Rattle.machine.specs.Parts.{at}
use Rattle.machine.specs.Writes.{Name}

-- a segment "is the bytes from that entry's base over its length": byte x lies in the segment of e
abbrev pub In : Entry → ℕ → Type 0
In e x = (e.base ≤ x) × (x < e.base + e.length)

-- "A segment is locked for t when its direct entry has Locked and holder t": the entry of number s, for the task u
pub record LockedFor (t : List ℕ) (s u : ℕ) : Type 0 where
  pub direct : (at t s).kind ≡ 1
  pub locked : (at t s).locked ≡ true
  pub held : (at t s).holder ≡ u

-- the link of entry n to its parent holds
pub record Linked (t : List ℕ) (n : ℕ) : Type 0 where
  pub indirect : (at t n).kind ≡ 2
  pub holds : linked t (at t n) ≡ true

-- m is the owner of entry n
pub data Owns (t : List ℕ) : ℕ → ℕ → Type 0 where
  itself : {n : ℕ} → (at t n).kind ≡ 1 → Owns t n n
  above : {n m : ℕ} → Linked t n → Owns t (parent_number (at t n)) m → Owns t n m

-- a token "is for the segment, or derived under it, if that entry's owner then has a byte of the segment", that of e
pub record Under (t : List ℕ) (e : Entry) (k : Name) : Type 0 where
  pub owner : ℕ
  pub owns : Owns t k.number owner
  pub byte : ℕ
  pub theirs : In (at t owner) byte
  pub ours : In e byte

-- the number of k holds another tag than k's: its entry is there with it
pub record HoldsOther (t : List ℕ) (k : Name) : Type 0 where
  pub there : (at t k.number).kind ≢ 0
  pub other : (at t k.number).tag ≢ k.tag
