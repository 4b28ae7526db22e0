-- Leases as bytes, and minutes of their windows.
-- Assumes nothing.
use Rattle.std.specs.Prelude.{◌≡◌, true, false, List, [], ◌∷◌, map, ℕ}
use Rattle.leases.specs.Lease.{covers, is_open, is_sound, leases_of}
use Rattle.leases.specs.declared.lease.Lease.{Lease}

-- number, tag, opening, closing
abbrev lease : ℕ → ℕ → ℕ → ℕ → Lease
lease n g o c = record { number = n; tag = g; opening = o; closing = c }

-- Monday's early shift, 06:00 to 14:00, and the night from Sunday 22:00 to Monday 06:00, of number 5 with tag 0x1234
abbrev pub early : Lease
early = lease 5 4660 360 840

abbrev pub night : Lease
night = lease 5 4660 9960 360

-- a lease of number 773
abbrev pub other : Lease
other = lease 773 4660 1 256

-- the three as a table, with three bytes more, which are no lease
abbrev pub table : List ℕ
table = 5 ∷ 0 ∷ 52 ∷ 18 ∷ 104 ∷ 1 ∷ 72 ∷ 3 ∷ 5 ∷ 0 ∷ 52 ∷ 18 ∷ 232 ∷ 38 ∷ 104 ∷ 1 ∷ 5 ∷ 3 ∷ 52 ∷ 18 ∷ 1 ∷ 0 ∷ 0 ∷ 1 ∷ 5 ∷ 0 ∷ 52 ∷ []

abbrev pub Stored : Type 0
Stored = leases_of table ≡ early ∷ night ∷ other ∷ []

-- the minutes before, at and after each end
abbrev pub Early : Type 0
Early = map (covers early) (0 ∷ 359 ∷ 360 ∷ 839 ∷ 840 ∷ 10079 ∷ []) ≡ false ∷ false ∷ true ∷ true ∷ false ∷ false ∷ []

abbrev pub Night : Type 0
Night = map (covers night) (0 ∷ 359 ∷ 360 ∷ 9959 ∷ 9960 ∷ 10079 ∷ []) ≡ true ∷ true ∷ false ∷ false ∷ true ∷ true ∷ []

-- with both leases the token is open in either; another tag, another number and a token without leases are always open
abbrev pub Several : Type 0
Several =
    map (is_open (early ∷ night ∷ []) 5 4660) (359 ∷ 839 ∷ 840 ∷ 9959 ∷ 9960 ∷ []) ≡ true ∷ true ∷ false ∷ false ∷ true ∷ []

abbrev pub Others : Type 0
Others = (is_open (early ∷ []) 5 4661 0 ≡ true) × (is_open (early ∷ []) 4 4660 0 ≡ true) × (is_open [] 5 4660 0 ≡ true)

-- the last minute of the week is one, the next is none, and minutes that are equal make no window
abbrev pub Edges : Type 0
Edges = map is_sound (lease 0 0 0 10079 ∷ lease 0 0 0 10080 ∷ lease 0 0 10080 0 ∷ lease 0 0 7 7 ∷ []) ≡ true ∷ false ∷ false ∷ false ∷ []
