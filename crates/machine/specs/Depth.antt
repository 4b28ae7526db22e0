-- How far a walk up a line and a drop's climb go (01, "The line of an entry", "Operations"): never further than the table has entries.
-- Assumes nothing.
use Rattle.std.specs.Prelude.{◌≡◌, cond, List, [], ◌∷◌, ℕ, zero, suc, ◌≤◌, ◌<◌, eqb, leb, length}
use Rattle.layout.specs.Form.{ill_formed}
use Rattle.machine.specs.Line.{end_of, is_paged, linked, line_of, parent_number}
use Rattle.machine.specs.Operations.{climb}
use Rattle.machine.specs.Parts.{at, size}
use Rattle.machine.specs.Writes.{vacated}

-- the numbers of the entries that a walk meets, in their order, a call of `Line.walk` each
unfoldable pub walk_meets : ℕ → ℕ → List ℕ → ℕ → List ℕ
walk_meets zero m t n = n ∷ []
walk_meets (suc steps) m t n =
    let up = walk_meets steps m t (parent_number (at t n)) in
    let onward = cond (linked t (at t n)) up [] in
    let indirect = cond (is_paged (at t n)) [] onward in
    let sound = cond (eqb (at t n).kind 1) [] indirect in
    n ∷ cond (ill_formed m (at t n)) [] sound

-- and those that a drop's climb meets, a call of `Operations.climb` each
unfoldable pub climb_meets : ℕ → List ℕ → ℕ → List ℕ
climb_meets zero t n = n ∷ []
climb_meets (suc steps) t n =
    let up = climb_meets steps (vacated t n) (parent_number (at t n)) in
    let freed = cond (linked t (at t n)) up [] in
    let last = cond (eqb (at t n).kind 1) [] freed in
    let least = cond (eqb (at t n).count 0) [] last in
    n ∷ cond (leb 2 (at t n).count) [] least

-- with the steps that `line_of` and a drop have
abbrev pub line_meets : ℕ → List ℕ → ℕ → List ℕ
line_meets m t n = walk_meets (suc (at t n).nonce) m t n

abbrev pub drop_meets : List ℕ → ℕ → List ℕ
drop_meets t n = climb_meets (suc (at t n).nonce) t n

-- the last of a list, n if it has none
abbrev pub last_of : ℕ → List ℕ → ℕ
last_of n [] = n
last_of n (k ∷ ks) = last_of k ks

-- of the entry of number n
pub record Bounded (m : ℕ) (t : List ℕ) (n : ℕ) : Type 0 where
  -- the walk meets no more entries than the table has, and the last is the one at which the line ends
  pub walking : length (line_meets m t n) ≤ size t
  pub ends : end_of (line_of m t n) ≡ last_of n (line_meets m t n)
  -- neither does the climb, which writes at each at most once
  pub climbing : length (drop_meets t n) ≤ size t
  pub writes : length (climb (suc (at t n).nonce) t n) ≤ length (drop_meets t n)

-- With 1,024 entries at most (`Parts.most_entries`) that is 1,023 links, so that the table's size bounds the stack that a call needs.
unfoldable pub Depth : Type 0
Depth = (m : ℕ) (t : List ℕ) (n : ℕ) → n < size t → Bounded m t n
