-- What an issue needs.
-- Assumes nothing.
use Rattle.std.specs.Prelude.{List, ℕ, ◌≤◌, ◌<◌}
use Rattle.entering.specs.Nonces.{Finds, FindsTwo, Issuable}
use Rattle.entering.specs.declared.nonces.Found.{Found}
use Rattle.entering.specs.declared.nonces.FoundTwo.{FoundTwo}
use Rattle.layout.specs.declared.entry.Entry.{Entry}
use Rattle.machine.specs.Parts.{State}

-- the entry e is issued under number n with the nonce that was found for it
pub record Issues (s : State) (t : List ℕ) (n : ℕ) (e : Entry) (new : Found) (encoding : ℕ) : Type 0 where
  pub issuable : Issuable t n e
  pub small : n < 1024
  pub encoded : encoding ≤ 3
  pub found : Finds s t n e new

-- e under number n, and then f under number k
pub record IssuesTwo (s : State) (t : List ℕ) (n : ℕ) (e : Entry) (k : ℕ) (f : Entry) (new : FoundTwo) (encoding : ℕ) : Type 0 where
  pub first : Issuable t n e
  pub second : Issuable t k f
  pub small : (n < 1024) × (k < 1024)
  pub encoded : encoding ≤ 3
  pub found : FindsTwo s t n e k f new
