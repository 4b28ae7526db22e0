-- A drop's climb, as the total of free numbers and the table that it leaves: it issues nothing, so that nothing else of the state matters.
-- Assumes nothing.
use Rattle.std.specs.Prelude.{◌≡◌, cond, Option, Some, None, List, [], ℕ, suc, ◌+◌, ◌-◌, ◌*◌, ◌/◌, ◌%◌, ◌≤◌, eqb, leb, ltb, length}
use Rattle.table.specs.Left.{Left, left_by}
use Rattle.machine.specs.Operations.{climb}
use Rattle.machine.specs.Parts.{at, most_free, State, totalled}
use Rattle.machine.specs.Writes.{opened, written}

-- the state with a total, and a table
abbrev pub leaving : State → (total : ℕ) → List ℕ → Left
leaving s k t = record { state = totalled s k; table = t; tokens = [] }

unfoldable pub climbed : State → (total steps : ℕ) → List ℕ → ℕ → Left
climbed s k f t n = left_by (written 0 (opened (totalled s k) t) (climb f t n))

-- with k free numbers, a drop of entry n of the table t leaves k' and t'
abbrev pub Climbed : (total : ℕ) → List ℕ → ℕ → (total' : ℕ) → List ℕ → Type 0
Climbed k t n k' t' = (s : State) → leaving s k' t' ≡ climbed s k (suc (at t n).nonce) t n

-- it has come to k' and t', where entry p is dropped next
pub record Onward (k : ℕ) (t : List ℕ) (n : ℕ) (k' : ℕ) (t' : List ℕ) (p : ℕ) : Type 0 where
  pub inside : 32 * p + 32 ≤ length t'
  pub rest : (k'' : ℕ) (t'' : List ℕ) → Climbed k' t' p k'' t'' → Climbed k t n k'' t''

-- it has come to k' and t': r is 0 at its end, else one more than the number that is dropped next
pub record Ahead (k : ℕ) (t : List ℕ) (n : ℕ) (k' : ℕ) (t' : List ℕ) (r : ℕ) : Type 0 where
  pub ended : r ≡ 0 → Climbed k t n k' t'
  pub onward : (r ≡ 0 → ⊥) → Onward k t n k' t' (r - 1)

-- the number that is dropped next, if there is one, as such an r
abbrev pub word_of : Option ℕ → ℕ
word_of None = 0
word_of (Some p) = p + 1

-- what a freed number counts: number 0 nothing
abbrev pub count_of : ℕ → ℕ
count_of n = cond (eqb n 0) 0 1

-- a total with j free numbers more, up to the top: as one after the other leaves it
unfoldable pub raised : (top j total : ℕ) → ℕ
raised top j k = cond (leb top k) k (cond (ltb (top - k) j) top (k + j))

-- so many are dropped yet at most, as each is older than the one before
unfoldable pub yet : List ℕ → (r : ℕ) → ℕ
yet t r = cond (eqb r 0) 0 (suc (at t (r - 1)).nonce)

-- it has freed j numbers but 0, gone on to t', and entry n is done with
pub record Climbs (t : List ℕ) (n j : ℕ) (t' : List ℕ) (r : ℕ) : Type 0 where
  pub ahead : (k : ℕ) → Ahead k t n (raised (most_free t) j k) t' r
  pub older : yet t' r ≤ (at t n).nonce
  pub long : length t' ≡ length t

-- the same in one word, where i numbers were freed before
pub record Packs (i : ℕ) (t : List ℕ) (n : ℕ) (t' : List ℕ) (r : ℕ) : Type 0 where
  pub some : i ≤ r % 16
  pub few : r % 16 ≤ 8
  pub climbs : Climbs t n (r % 16 - i) t' (r / 16)
