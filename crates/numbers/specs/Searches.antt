-- Numbers in a row.
-- Assumes nothing.
use Rattle.std.specs.Prelude.{◌≡◌, Bool, cond, not, ◌&&◌, Option, Some, None, List, ℕ, zero, suc, ◌+◌, ◌-◌, ◌≤◌, eqb}
use Rattle.machine.specs.Parts.{at}

-- the first free one of so many numbers from n on; 0 if there is none
unfoldable pub first_free : ℕ → List ℕ → ℕ → ℕ
first_free zero t n = 0
first_free (suc many) t n =
    let later = first_free many t (n + 1) in
    cond (eqb (at t n).kind 0) n later

-- a number, as the code gives it: none for 0, which is never given again
abbrev pub given : ℕ → Option ℕ
given n = cond (eqb n 0) None (Some n)

-- before the end a search from n on finds what one from the start on does
abbrev pub Sought : List ℕ → (start end n : ℕ) → Type 0
Sought t start end n = (start ≤ n) × ((n ≤ end) × (first_free (end - n) t n ≡ first_free (end - start) t start))

-- the entry of number n is not free; nor are those of the three numbers after it
abbrev pub taken : List ℕ → ℕ → Bool
taken t n = not (eqb (at t n).kind 0)

unfoldable pub four_taken : List ℕ → ℕ → Bool
four_taken t n = taken t n && taken t (n + 1) && taken t (n + 2) && taken t (n + 3)
