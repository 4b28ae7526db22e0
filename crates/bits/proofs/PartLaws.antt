-- A part of a slice that was lent comes back with other bytes: they are stored there. The parts of eight bytes.
-- Assumes nothing.
use mathlib.Core.Path.{◌≡◌, refl, sym, ◌∙◌, ap}
use mathlib.Core.List.{List, [], ◌++◌, append_assoc}
use Prim.Native.Nat.{ℕ, zero, suc, ◌+◌, ◌-◌, ◌*◌, ◌<◌, ◌≤◌}
use native.Mathlib.Nat.{add-sub_cancel_left}
use native.Mathlib.Omega.{arith}
use lib.ListN.{get_or, drop, length, length-append, length-drop, length-replicate, length-take, replicate, take, take-append-drop}
use lib.Seq.{drop-drop, sets, sets-eq, take_at}
use Rattle.std.specs.Simd.{first_chunks}
use borrow.Rule.Slice.PartMut.{mid_of, put_mid}

pub part-stored : (xs ys : List ℕ) (a k : ℕ) → length ys ≡ k → a + k ≤ length xs → put_mid a k xs ys ≡ sets xs a ys
part-stored xs ys a k l h = rw (drop-drop k a xs, sets-eq ys xs a (omega arith), append_assoc, l)

-- the part from a up to its end, which comes back as b
pub part-sets : (xs ys b : List ℕ) (a : ℕ) → ys ≡ b → a + length b ≤ length xs → put_mid a (a + length b - a) xs ys ≡ sets xs a b
part-sets xs ys b a e h = rw (e, add-sub_cancel_left) (part-stored xs b a (length b) refl h)

-- a part that comes back as zeros, from a to its end
pub part-cleared : (xs ys : List ℕ) (a k : ℕ) → a + k ≤ length xs → ys ≡ replicate (length (mid_of a (a + k - a) xs)) 0 → put_mid a (a + k - a) xs ys ≡ sets xs a (replicate k 0)
part-cleared xs ys a k h z =
    let long : length (mid_of a k xs) ≡ k = simp (length-take, length-drop) (omega arith) in
    let zeros : ys ≡ replicate k 0 = rw (add-sub_cancel_left, long) at z in
    rw (add-sub_cancel_left, zeros) (part-stored xs (replicate k 0) a k (length-replicate k 0) h)

-- the first a + k elements are the first a, and k behind them
front : (xs : List ℕ) (a k : ℕ) → a + k ≤ length xs → take (a + k) xs ≡ take a xs ++ take k (drop a xs)
front xs a k h =
    let long : length (take a xs ++ take k (drop a xs)) ≡ a + k = simp (length-append, length-take, length-drop) (omega arith) in
    let whole : (take a xs ++ take k (drop a xs)) ++ drop k (drop a xs) ≡ xs = append_assoc (take a xs) (take k (drop a xs)) (drop k (drop a xs)) ∙ rw (take-append-drop k (drop a xs), take-append-drop a xs) in
    ap (take (a + k)) (sym whole) ∙ take_at (take a xs ++ take k (drop a xs)) (drop k (drop a xs)) (a + k) long

-- k more are copied, by a part that comes back as those
pub more_copied : (to from ys : List ℕ) (a b : ℕ) → a ≤ b → b ≤ length from → length to ≡ length from → take a to ≡ take a from → ys ≡ take (b - a) (drop a from) → take b (put_mid a (b - a) to ys) ≡ take b from
more_copied to from ys a b h i l e z =
    let sum : a + (b - a) ≡ b = omega arith in
    let long : length (take a from ++ ys) ≡ b = simp (z, length-append, length-take, length-drop) (omega arith) in
    let there : take b (put_mid a (b - a) to ys) ≡ take a from ++ ys = rw e (ap (take b) (sym (append_assoc (take a from) ys (drop (b - a) (drop a to)))) ∙ take_at (take a from ++ ys) (drop (b - a) (drop a to)) b long) in
    there ∙ rw z (sym (front from a (b - a) (omega arith)) ∙ ap (λ (n : ℕ). take n from) sum)

-- part i of a list that is cut into parts of eight
pub chunk_at : (k i : ℕ) (s : List ℕ) → i < k → get_or (first_chunks 8 k s) i [] ≡ take 8 (drop (8 * i) s)
chunk_at zero i s h = absurd (omega arith)
chunk_at (suc k) zero s h = refl
chunk_at (suc k) (suc i) s h = let e : 8 + 8 * i ≡ 8 * suc i = omega arith in chunk_at k i (drop 8 s) (omega arith) ∙ ap (take 8) (drop-drop (8 * i) 8 s ∙ ap (λ n. drop n s) e)
