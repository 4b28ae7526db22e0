-- What 02's paper 7 claims of the formula that stands in the place of 01's "constant table of 8 rows by 8 columns".
-- Assumes nothing.
use Rattle.std.specs.Prelude.{◌≡◌, Bool, true, false, List, [], ◌∷◌, ℕ, ◌%◌, get_or}
use Rattle.tokens.specs.Permissions.{within}

abbrev y : Bool
y = true

abbrev n : Bool
n = false

-- the rows of the code's table as they stood before this paper: a row for the permissions wanted, a column for those held, each from 0 to 7
abbrev pub table : List (List Bool)
table =
    (y ∷ y ∷ y ∷ y ∷ y ∷ y ∷ y ∷ y ∷ [])
    ∷ (n ∷ y ∷ n ∷ y ∷ n ∷ y ∷ n ∷ y ∷ [])
    ∷ (n ∷ n ∷ y ∷ y ∷ n ∷ n ∷ y ∷ y ∷ [])
    ∷ (n ∷ n ∷ n ∷ y ∷ n ∷ n ∷ n ∷ y ∷ [])
    ∷ (n ∷ n ∷ n ∷ n ∷ y ∷ y ∷ y ∷ y ∷ [])
    ∷ (n ∷ n ∷ n ∷ n ∷ n ∷ y ∷ n ∷ y ∷ [])
    ∷ (n ∷ n ∷ n ∷ n ∷ n ∷ n ∷ y ∷ y ∷ [])
    ∷ (n ∷ n ∷ n ∷ n ∷ n ∷ n ∷ n ∷ y ∷ []) ∷ []

-- the table's verdict
abbrev pub verdict : ℕ → ℕ → Bool
verdict wanted held = get_or (get_or table wanted []) held false

-- "Every verdict is as before": the formula's is the table's at all 64 pairs; of larger numbers both take the low three bits, as the code did
unfoldable pub AsBefore : Type 0
AsBefore = (wanted held : ℕ) → within wanted held ≡ verdict (wanted % 8) (held % 8)
