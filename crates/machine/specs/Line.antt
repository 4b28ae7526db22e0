-- The line of an entry (01, "The line of an entry").
-- Assumes nothing.
use Rattle.std.specs.Prelude.{Bool, true, false, not, ◌&&◌, cond, List, ℕ, zero, suc, eqb, ltb}
use Rattle.layout.specs.Form.{ill_formed}
use Rattle.tokens.specs.Token.{named_as}
use Rattle.layout.specs.declared.entry.Entry.{Entry}
use Rattle.machine.specs.Parts.{at}

-- the entry is paged out (02, paper 6)
abbrev pub is_paged : Entry → Bool
is_paged e = eqb e.kind 3

-- what the parent token of an indirect entry names; it is in encoding 1
abbrev pub parent_number : Entry → ℕ
parent_number e = (named_as 1 e.parent).number

abbrev pub parent_tag : Entry → ℕ
parent_tag e = (named_as 1 e.parent).tag

-- "An indirect entry's parent must hold the tag that the parent token names, and a nonce below the child's." A parent beyond the table,
-- free, with another tag or too high a nonce is a missing link, ill-formed or not. 02, paper 6: "a paged parent is a missing link".
abbrev pub links : Entry → Entry → Bool
links p e = not (eqb p.kind 0) && not (is_paged p) && eqb p.tag (parent_tag e) && ltb p.nonce e.nonce

abbrev pub linked : List ℕ → Entry → Bool
linked t e = links (at t (parent_number e)) e

-- "A direct entry is its own owner." A line ends at its owner, at the entry that holds a missing link ("A missing link makes it dead"), or at an ill-formed entry. "A walk stops
-- at its first bad link or entry. A link is judged before the entry it leads to." 02, paper 6: one that is paged out has no link and no segment; its line is itself,
-- without an owner.
pub data Line : Type 0 where
  owner : ℕ → Line
  paged_out : ℕ → Line
  dead : ℕ → Line
  ill : ℕ → Line

-- The nonce falls at each link, so that as many steps as the first nonce, and one, are enough. m is the memory's length.
unfoldable pub walk : ℕ → ℕ → List ℕ → ℕ → Line
walk zero m t n = dead n
walk (suc steps) m t n =
    let up = walk steps m t (parent_number (at t n)) in
    let onward = cond (linked t (at t n)) up (dead n) in
    let indirect = cond (is_paged (at t n)) (paged_out n) onward in
    let sound = cond (eqb (at t n).kind 1) (owner n) indirect in
    cond (ill_formed m (at t n)) (ill n) sound

abbrev pub line_of : ℕ → List ℕ → ℕ → Line
line_of m t n = walk (suc (at t n).nonce) m t n

abbrev pub is_ill : Line → Bool
is_ill (owner k) = false
is_ill (paged_out k) = false
is_ill (dead k) = false
is_ill (ill k) = true

abbrev pub is_dead : Line → Bool
is_dead (owner k) = false
is_dead (paged_out k) = false
is_dead (dead k) = true
is_dead (ill k) = false

-- the owner's number, for a line that has one
abbrev pub owner_of : Line → ℕ
owner_of (owner k) = k
owner_of (paged_out k) = 0
owner_of (dead k) = 0
owner_of (ill k) = 0

-- the entry at which it ends: the owner, the one that is paged out, the entry that holds the missing link, or the ill-formed one
abbrev pub end_of : Line → ℕ
end_of (owner k) = k
end_of (paged_out k) = k
end_of (dead k) = k
end_of (ill k) = k

-- "whether the named entry or an ancestor was the bad one (for a missing link, the entry that holds the link)"
pub data Bad : Type 0 where
  itself : Bad
  ancestor : Bad

-- in the line l of the entry of number n, which was named
abbrev pub bad_of : (number : ℕ) → Line → Bad
bad_of n l = cond (eqb (end_of l) n) itself ancestor

-- "The owner's lock is the lock of all below." A dead line counts as unlocked, and what is paged out is "unlocked".
abbrev pub is_locked : List ℕ → Line → Bool
is_locked t (owner k) = (at t k).locked
is_locked t (paged_out k) = false
is_locked t (dead k) = false
is_locked t (ill k) = false

-- the line is locked for another task
abbrev pub locked_from : List ℕ → ℕ → Line → Bool
locked_from t task l = is_locked t l && not (eqb (at t (owner_of l)).holder task)
