-- Shift windows, on eight bytes: the root has a lease for the minutes 1 to 8, and another token a window over the week's end.
-- Assumes nothing.
use Rattle.std.specs.Prelude.{List, [], ◌∷◌, ℕ}
use Rattle.machine.specs.Requests.{access, reading, Request, Shift}

-- number 0, tag 0, minutes 1 to 8; and number 1, tag 63154, from 10,000 over the week's end to 4
abbrev pub leases : List ℕ
leases = 0 ∷ 0 ∷ 0 ∷ 0 ∷ 1 ∷ 0 ∷ 9 ∷ 0 ∷ 1 ∷ 0 ∷ 178 ∷ 246 ∷ 16 ∷ 39 ∷ 5 ∷ 0 ∷ []

-- the same with a lease of number 1 whose minutes are equal
abbrev pub unsound : List ℕ
unsound = 0 ∷ 0 ∷ 0 ∷ 0 ∷ 1 ∷ 0 ∷ 9 ∷ 0 ∷ 1 ∷ 0 ∷ 178 ∷ 246 ∷ 5 ∷ 0 ∷ 5 ∷ 0 ∷ []

abbrev pub during : (minute : ℕ) → (leases : List ℕ) → Shift
during i ls = record { minute = i; leases = ls }

-- the root's first byte is read
abbrev pub reads : Shift → Request
reads φ = access reading 0 0 φ
