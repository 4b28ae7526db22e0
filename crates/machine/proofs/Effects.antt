-- What an effect does to memory and buffer.
-- Assumes nothing.
use mathlib.Core.Path.{◌≡◌, refl, sym, ap, ◌∙◌}
use mathlib.Core.Logic.{inl, inr}
use mathlib.Core.List.{List, [], ◌∷◌}
use Prim.Native.Nat.{ℕ, zero, suc, ◌+◌, ◌≤◌, ◌<◌}
use native.Mathlib.Omega.{arith}
use native.Mathlib.Decide.{dec_lt, ℕ_discrete}
use lib.ListN.{length, get_or, set, replicate, length-set, get_or-eq_default}
use lib.Seq.{sets, length-sets, get_or-set_same, get_or-set_other, set_out}
use Rattle.machine.specs.Operations.{Effect, entire, Fill, front, Store, unfilled}
use Rattle.machine.specs.Steps.{buffer_after, filled, memory_after, stored, told_length}
use Rattle.machine.specs.Stops.{lastly, room}
use Rattle.machine.proofs.Fates.{Filled, Stored, Touches}
use Rattle.machine.proofs.SliceLaws.{sets-other, slice_agree}

stored-long : (ws : List Store) (m : List ℕ) → length (stored ws m) ≡ length m
stored-long [] m = refl
stored-long (w ∷ ws) m = stored-long ws (sets m w.start w.bytes) ∙ length-sets m w.start w.bytes

pub memory-long : (f : Effect) (m : List ℕ) → length (memory_after f m) ≡ length m
memory-long f m = stored-long f.stores m

-- a byte that it does not touch
stored_other : (ws : List Store) (m : List ℕ) (x : ℕ) → (Stored ws x → ⊥) → get_or (stored ws m) x 0 ≡ get_or m x 0
stored_other [] m x h = refl
stored_other (w ∷ ws) m x h = stored_other ws (sets m w.start w.bytes) x (λ i. h (inr i)) ∙ sets-other m w.start w.bytes x (λ i. h (inl i))

pub memory-other : (f : Effect) (m : List ℕ) (x : ℕ) → (Touches f x → ⊥) → get_or (memory_after f m) x 0 ≡ get_or m x 0
memory-other f m x h = stored_other f.stores m x (λ i. h (inl i))

-- the same store in two memories that agree at x
set_agree : (m m' : List ℕ) (a b x : ℕ) → length m ≡ length m' → get_or m x 0 ≡ get_or m' x 0 → get_or (set m a b) x 0 ≡ get_or (set m' a b) x 0
set_agree m m' a b x l h = go (ℕ_discrete x a) (dec_lt a (length m))
  where
    go : Dec (x ≡ a) → Dec (a < length m) → get_or (set m a b) x 0 ≡ get_or (set m' a b) x 0
    go (yes e) (yes i) = rw (e, get_or-set_same m a b 0 i, get_or-set_same m' a b 0 (omega arith))
    go (yes e) (no i) = rw (set_out m a b (omega arith), set_out m' a b (omega arith)) h
    go (no e) d = get_or-set_other m a x b 0 e ∙ h ∙ sym (get_or-set_other m' a x b 0 e)

sets_agree : (m m' : List ℕ) (a : ℕ) (bs : List ℕ) (x : ℕ) → length m ≡ length m' → get_or m x 0 ≡ get_or m' x 0 → get_or (sets m a bs) x 0 ≡ get_or (sets m' a bs) x 0
sets_agree m m' a [] x l h = h
sets_agree m m' a (b ∷ bs) x l h = sets_agree (set m a b) (set m' a b) (suc a) bs x (length-set m a b ∙ l ∙ sym (length-set m' a b)) (set_agree m m' a b x l h)

stored_agree : (ws : List Store) (m m' : List ℕ) (x : ℕ) → length m ≡ length m' → get_or m x 0 ≡ get_or m' x 0 → get_or (stored ws m) x 0 ≡ get_or (stored ws m') x 0
stored_agree [] m m' x l h = h
stored_agree (w ∷ ws) m m' x l h =
    let a : ℕ = w.start in
    let bs : List ℕ = w.bytes in
    stored_agree ws (sets m a bs) (sets m' a bs) x (length-sets m a bs ∙ l ∙ sym (length-sets m' a bs)) (sets_agree m m' a bs x l h)

pub memory_agree : (f : Effect) (m m' : List ℕ) (x : ℕ) → length m ≡ length m' → get_or m x 0 ≡ get_or m' x 0 → get_or (memory_after f m) x 0 ≡ get_or (memory_after f m') x 0
memory_agree f m m' x l h = stored_agree f.stores m m' x l h

-- what is read from two memories that agree where it is read
filled_agree : (f : Fill) (m m' b : List ℕ) → length m ≡ length m' → ((x : ℕ) → Filled f x → get_or m x 0 ≡ get_or m' x 0) → filled f m b ≡ filled f m' b
filled_agree unfilled m m' b l h = refl
filled_agree (entire a n f) m m' b l h = ap f (slice_agree m m' a n l h)
filled_agree (front a n f limit) m m' b l h = ap (λ (bs : List ℕ). sets b 0 (f bs)) (slice_agree m m' a n l h)

pub buffer_agree : (f : Effect) (m m' b : List ℕ) → length m ≡ length m' → ((x : ℕ) → Touches f x → get_or m x 0 ≡ get_or m' x 0) → buffer_after f m b ≡ buffer_after f m' b
buffer_agree f m m' b l h = filled_agree f.fill m m' b l (λ x i. h x (inr i))

-- what is made from two such memories, and so what is judged of it and told
pub lastly_agree : (f : Fill) (m m' b : List ℕ) → length m ≡ length m' → ((x : ℕ) → Filled f x → get_or m x 0 ≡ get_or m' x 0) → lastly f m b ≡ lastly f m' b
lastly_agree unfilled m m' b l h = refl
lastly_agree (entire a n f) m m' b l h = refl
lastly_agree (front a n f limit) m m' b l h = ap (λ (bs : List ℕ). room limit (f bs) b) (slice_agree m m' a n l h)

pub told_agree : (f : Fill) (m m' : List ℕ) → length m ≡ length m' → ((x : ℕ) → Filled f x → get_or m x 0 ≡ get_or m' x 0) → told_length f m ≡ told_length f m'
told_agree unfilled m m' l h = refl
told_agree (entire a n f) m m' l h = refl
told_agree (front a n f limit) m m' l h = ap (λ (bs : List ℕ). length (f bs)) (slice_agree m m' a n l h)

-- zeros that were stored
set_zero : (m : List ℕ) (a x : ℕ) → get_or m x 0 ≡ 0 → get_or (set m a 0) x 0 ≡ 0
set_zero m a x h = go (ℕ_discrete x a) (dec_lt a (length m))
  where
    go : Dec (x ≡ a) → Dec (a < length m) → get_or (set m a 0) x 0 ≡ 0
    go (yes e) (yes i) = rw (e, get_or-set_same m a 0 0 i)
    go (yes e) (no i) = rw (set_out m a 0 (omega arith)) h
    go (no e) d = get_or-set_other m a x 0 0 e ∙ h

zeros-stay : (n : ℕ) (m : List ℕ) (a x : ℕ) → get_or m x 0 ≡ 0 → get_or (sets m a (replicate n 0)) x 0 ≡ 0
zeros-stay zero m a x h = h
zeros-stay (suc n) m a x h = zeros-stay n (set m a 0) (suc a) x (set_zero m a x h)

pub zeros : (n : ℕ) (m : List ℕ) (a x : ℕ) → a ≤ x → x < a + n → get_or (sets m a (replicate n 0)) x 0 ≡ 0
zeros zero m a x h i = absurd (omega arith)
zeros (suc n) m a x h i = go (λ j. zeros n (set m a 0) (suc a) x j (omega arith)) (ℕ_discrete x a)
  where
    here : Dec (a < length m) → get_or (set m a 0) a 0 ≡ 0
    here (yes j) = get_or-set_same m a 0 0 j
    here (no j) = rw (set_out m a 0 (omega arith)) (get_or-eq_default m 0 (omega arith))

    go : (suc a ≤ x → get_or (sets (set m a 0) (suc a) (replicate n 0)) x 0 ≡ 0) → Dec (x ≡ a) → get_or (sets m a (replicate (suc n) 0)) x 0 ≡ 0
    go f (yes e) = zeros-stay n (set m a 0) (suc a) x (rw e (here (dec_lt a (length m))))
    go f (no e) = f (omega arith)
