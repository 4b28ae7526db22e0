-- A store in a list, and a part of a list that it misses.
-- Assumes nothing.
use Prim.Native.Nat.{ℕ, suc, ◌+◌, ◌-◌, ◌≤◌, ◌<◌, min}
use native.Mathlib.Omega.{arith}
use mathlib.Core.Path.{◌≡◌, refl, sym, ◌∙◌}
use mathlib.Core.List.{List, [], ◌∷◌, ◌++◌, append_assoc}
use lib.ListN.{length, get_or, set, take, drop, replicate, length-take, length-drop, length-replicate, get_or-replicate}
use lib.Seq.{sets, sets-eq, length-take-le, get_or-set_other, get_or-take, get_or-drop, ext_get_or, take_at, drop_at}

-- a store elsewhere
pub sets-other : (m : List ℕ) (a : ℕ) (bs : List ℕ) (x : ℕ) → ((a ≤ x) × (x < a + length bs) → ⊥) → get_or (sets m a bs) x 0 ≡ get_or m x 0
sets-other m a [] x h = refl
sets-other m a (b ∷ bs) x h =
    sets-other (set m a b) (suc a) bs x (λ i. h (omega arith))
    ∙ get_or-set_other m a x b 0 (λ e. h (omega arith))

-- the same part of two lists that agree there
pub slice_agree : (m m' : List ℕ) (a n : ℕ) → length m ≡ length m' → ((x : ℕ) → (a ≤ x) × (x < a + n) → get_or m x 0 ≡ get_or m' x 0) → take n (drop a m) ≡ take n (drop a m')
slice_agree m m' a n l h =
    let e : length (take n (drop a m)) ≡ min n (length m - a) = simp (length-take, length-drop) in
    let e' : length (take n (drop a m')) ≡ min n (length m' - a) = simp (length-take, length-drop) in
    ext_get_or 0 (take n (drop a m)) (take n (drop a m')) (omega arith)
    (λ i j. let k : i < n = omega arith in
    get_or-take n (drop a m) i 0 k ∙ get_or-drop a m i 0 ∙ h (a + i) (omega arith) ∙ sym (get_or-take n (drop a m') i 0 k ∙ get_or-drop a m' i 0))

-- what was stored
pub slice_same : (m : List ℕ) (a : ℕ) (bs : List ℕ) (n : ℕ) → length bs ≡ n → a + n ≤ length m → take n (drop a (sets m a bs)) ≡ bs
slice_same m a bs n l h =
    let fit : a + length bs ≤ length m = omega arith in
    let front : length (take a m) ≡ a = length-take-le a m (omega arith) in
    rw (sets-eq bs m a fit, append_assoc, drop_at (take a m) (bs ++ drop (a + length bs) m) a front) (take_at bs (drop (a + length bs) m) n l)

pub all_zeros : (m : List ℕ) (b l : ℕ) → b + l ≤ length m → ((x : ℕ) → b ≤ x → x < b + l → get_or m x 0 ≡ 0) → take l (drop b m) ≡ replicate l 0
all_zeros m b l h z =
    let long : length (take l (drop b m)) ≡ l = simp (length-take, length-drop) (omega arith) in
    ext_get_or 0 (take l (drop b m)) (replicate l 0) (long ∙ sym (length-replicate {A = ℕ} l 0))
    (λ i j. let k : i < l = omega arith in
    get_or-take l (drop b m) i 0 k ∙ get_or-drop b m i 0 ∙ z (b + i) (omega arith) (omega arith) ∙ sym (get_or-replicate l i 0 0 k))
