-- Permissions (01, "Operations"): one number, R 4, W 2, X 1, added. Which lie within which is a formula (02, paper 7).
-- Assumes nothing.
use Rattle.std.specs.Prelude.{Bool, ◌&&◌, ℕ, ◌/◌, ◌%◌, leb}

abbrev pub R : ℕ
R = 4

abbrev pub W : ℕ
W = 2

abbrev pub X : ℕ
X = 1

-- the bit of permission p: 1 if it is among the permissions, else 0
abbrev pub has : ℕ → ℕ → ℕ
has permissions p = permissions / p % 2

-- the bit of permission p is not wanted, or it is held
abbrev pub held_if_wanted : ℕ → ℕ → ℕ → Bool
held_if_wanted wanted held p = leb (has wanted p) (has held p)

-- the wanted permissions lie within those held: of R, W and X "no bit is wanted that isn't held"
unfoldable pub within : ℕ → ℕ → Bool
within wanted held = held_if_wanted wanted held R && held_if_wanted wanted held W && held_if_wanted wanted held X
