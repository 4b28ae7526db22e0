-- What the search for a number and the search for a nonce find (01, "Issuing").
-- Assumes nothing.
use Rattle.std.specs.Prelude.{◌≡◌, ◌≢◌, List, ℕ, zero, suc, ◌≤◌, ◌<◌}
use Rattle.layout.specs.declared.entry.Entry.{Entry}
use Rattle.machine.specs.Issuing.{after, issue}
use Rattle.machine.specs.Parts.{at, size, State}

-- the number so many places after k, "going round from the table's end to 1"
abbrev pub onward : List ℕ → ℕ → ℕ → ℕ
onward t zero k = k
onward t (suc i) k = onward t i (after t k)

-- "the first free one after the last given": n is free and is among the so many numbers after k in the round, and no number strictly between k
-- and n is free
pub record FirstFree (t : List ℕ) (k many n : ℕ) : Type 0 where
  pub between : ℕ
  pub place : onward t (suc between) k ≡ n
  pub among : between < many
  pub taken : (i : ℕ) → i < between → (at t (onward t (suc i) k)).kind ≢ 0
  pub free : (at t n).kind ≡ 0
  pub inside : n < size t
  pub not_zero : n ≢ 0

-- no number that is given is free: "Number 0 is never given again"
abbrev pub NoneFree : List ℕ → Type 0
NoneFree t = (n : ℕ) → 0 < n → n < size t → (at t n).kind ≢ 0

-- "Nonces whose tag equals the old one are passed over": the entry e x has the old tag under each nonce x from ν on and below end
abbrev pub SameTag : State → ℕ → (ℕ → Entry) → (old ν end : ℕ) → Type 0
SameTag s n e old ν end = (x : ℕ) → ν ≤ x → x < end → (issue s n (e x)).tag ≡ old

-- the nonce r is the first from ν on with another tag than the old one
pub record FirstOther (s : State) (n : ℕ) (e : ℕ → Entry) (old ν r : ℕ) : Type 0 where
  pub from : ν ≤ r
  pub passed : SameTag s n e old ν r
  pub other : (issue s n (e r)).tag ≢ old
