-- Leases one after the other: what is known of the first ones, with one more.
-- Assumes nothing.
use mathlib.Core.Path.{◌≡◌, refl, sym, ◌∙◌, ap}
use mathlib.Core.Bool.{Bool, true, false, not, ◌&&◌, ◌||◌, cond}
use mathlib.Core.List.{List, [], ◌∷◌, ◌++◌}
use Prim.Native.Nat.{ℕ, ◌+◌, ◌*◌, ◌/◌, ◌<◌}
use native.Mathlib.Numerals.{add-one}
use native.Mathlib.Omega.{arith}
use lib.ListN.{drop, get_or, length, take}
use Rattle.std.specs.Simd.{first_chunks}
use Rattle.std.proofs.lemmas.Simd.{get_or-chunk}
use Rattle.bits.proofs.PartLaws.{chunk_at}
use Rattle.leases.specs.Lease.{admits, all_sound, covers, every, first_leases, is_for, is_open, is_sound, judged, lease_at, leases_of, some}
use Rattle.leases.specs.declared.lease.Window.TheVariants.{Closed, Open, Unsound}
use Rattle.leases.specs.declared.lease.Lease.{Lease}

every_more : (p : Lease → Bool) (ls : List Lease) (l : Lease) → every p (ls ++ (l ∷ [])) ≡ (every p ls && p l)
every_more p [] l = and_true (p l)
  where
    and_true : (x : Bool) → (x && true) ≡ x
    and_true true = refl
    and_true false = refl
every_more p (k ∷ ls) l = go (p k) (every_more p ls l)
  where
    go : (x : Bool) → every p (ls ++ (l ∷ [])) ≡ (every p ls && p l) → (x && every p (ls ++ (l ∷ []))) ≡ (x && every p ls && p l)
    go true h = h
    go false h = refl

some_more : (p : Lease → Bool) (ls : List Lease) (l : Lease) → some p (ls ++ (l ∷ [])) ≡ (some p ls || p l)
some_more p [] l = or_false (p l)
  where
    or_false : (x : Bool) → (x || false) ≡ x
    or_false true = refl
    or_false false = refl
some_more p (k ∷ ls) l = go (p k) (some_more p ls l)
  where
    go : (x : Bool) → some p (ls ++ (l ∷ [])) ≡ (some p ls || p l) → (x || some p (ls ++ (l ∷ []))) ≡ (x || some p ls || p l)
    go true h = refl
    go false h = h

-- part i of a table that is cut into parts of eight bytes holds lease i
pub lease_chunk : (t : List ℕ) (i : ℕ) {l : Lease} {parts : List (List ℕ)} → parts ≡ first_chunks 8 (length t / 8) t → i < length t / 8 → l ≡ lease_at (get_or parts i []) 0 → l ≡ lease_at t i
unfolding lease_at
lease_chunk t i p h e =
    rw (p, chunk_at (length t / 8) i t h) at e
    ∙ rw (
      byte 0 (2 * (4 * i)) (omega arith) (omega arith),
      byte 1 (2 * (4 * i) + 1) (omega arith) (omega arith),
      byte 2 (2 * (4 * i + 1)) (omega arith) (omega arith),
      byte 3 (2 * (4 * i + 1) + 1) (omega arith) (omega arith),
      byte 4 (2 * (4 * i + 2)) (omega arith) (omega arith),
      byte 5 (2 * (4 * i + 2) + 1) (omega arith) (omega arith),
      byte 6 (2 * (4 * i + 3)) (omega arith) (omega arith),
      byte 7 (2 * (4 * i + 3) + 1) (omega arith) (omega arith),
    )
  where
    byte : (j k : ℕ) → j < 8 → k ≡ 8 * i + j → get_or (take 8 (drop (8 * i) t)) j 0 ≡ get_or t k 0
    byte j k l e = get_or-chunk (8 * i) 8 t j 0 l ∙ ap (λ n. get_or t n 0) (sym e)

-- what the first n leases come to for a token at a minute
pub record Seen (t : List ℕ) (number tag minute n : ℕ) (s h a : Bool) : Type 0 where
  pub sound : s ≡ every is_sound (first_leases n t)
  pub held : h ≡ some (is_for number tag) (first_leases n t)
  pub admitted : a ≡ some (admits number tag minute) (first_leases n t)

module _ (t : List ℕ) (number tag minute : ℕ) where
  pub seen_none : Seen t number tag minute 0 true false false
  unfolding first_leases
  seen_none = record { sound = refl; held = refl; admitted = refl }

  seen_more : (n : ℕ) (s h a : Bool) → Seen t number tag minute n s h a
      → Seen t number tag minute (n + 1) (s && is_sound (lease_at t n)) (h || is_for number tag (lease_at t n)) (a || admits number tag minute (lease_at t n))
  unfolding first_leases
  seen_more n s h a k = record {
    sound = rw (k.sound, add-one, every_more);
    held = rw (k.held, add-one, some_more);
    admitted = rw (k.admitted, add-one, some_more);
  }

  -- one that is for the token, and one that is not
  pub seen-ours : (n : ℕ) (s h a : Bool) → Seen t number tag minute n s h a → is_for number tag (lease_at t n) ≡ true
      → Seen t number tag minute (n + 1) (s && is_sound (lease_at t n)) true (a || covers (lease_at t n) minute)
  seen-ours n s h a k e =
      let m = seen_more n s h a k in
      record { sound = m.sound; held = sym (or_true h) ∙ rw e at m.held; admitted = rw e at m.admitted }
    where
      or_true : (x : Bool) → (x || true) ≡ true
      or_true true = refl
      or_true false = refl

  pub seen_other : (n : ℕ) (s h a : Bool) → Seen t number tag minute n s h a → is_for number tag (lease_at t n) ≡ false
      → Seen t number tag minute (n + 1) (s && is_sound (lease_at t n)) h a
  seen_other n s h a k e =
      let m = seen_more n s h a k in
      record { sound = m.sound; held = sym (or_false h) ∙ rw e at m.held; admitted = sym (or_false a) ∙ rw e at m.admitted }
    where
      or_false : (x : Bool) → (x || false) ≡ x
      or_false true = refl
      or_false false = refl

  pub seen_all : (n : ℕ) (s h a : Bool) → n ≡ length t / 8 → Seen t number tag minute n s h a → cond s (cond (not h || a) Open Closed) Unsound ≡ judged (leases_of t) number tag minute
  unfolding judged all_sound is_open leases_of
  seen_all n s h a e k = rw (k.sound, k.held, k.admitted, e)

-- ---- what was judged

module _ (ls : List Lease) (n g i : ℕ) where
  told : (s a : Bool) → all_sound ls ≡ s → is_open ls n g i ≡ a → judged ls n g i ≡ cond s (cond a Open Closed) Unsound
  unfolding judged
  told s a e f = rw (e, f)

  pub judged-unsound : Unsound ≡ judged ls n g i → all_sound ls ≡ false
  judged-unsound h = by (all_sound ls) refl (is_open ls n g i) refl
    where
      by : (s : Bool) → all_sound ls ≡ s → (a : Bool) → is_open ls n g i ≡ a → all_sound ls ≡ false
      by false e a f = e
      by true e true f = let d : Unsound ≡ Open = h ∙ told true true e f in let z : ◌≡◌ {A = ℕ} 0 1 = cc in absurd (omega arith)
      by true e false f = let d : Unsound ≡ Closed = h ∙ told true false e f in let z : ◌≡◌ {A = ℕ} 0 1 = cc in absurd (omega arith)

  pub judged-closed : Closed ≡ judged ls n g i → (all_sound ls ≡ true) × (is_open ls n g i ≡ false)
  judged-closed h = by (all_sound ls) refl (is_open ls n g i) refl
    where
      by : (s : Bool) → all_sound ls ≡ s → (a : Bool) → is_open ls n g i ≡ a → (all_sound ls ≡ true) × (is_open ls n g i ≡ false)
      by false e a f = let d : Closed ≡ Unsound = h ∙ told false a e f in let z : ◌≡◌ {A = ℕ} 0 1 = cc in absurd (omega arith)
      by true e true f = let d : Closed ≡ Open = h ∙ told true true e f in let z : ◌≡◌ {A = ℕ} 0 1 = cc in absurd (omega arith)
      by true e false f = (e, f)

  pub judged_open : Open ≡ judged ls n g i → (all_sound ls ≡ true) × (is_open ls n g i ≡ true)
  judged_open h = by (all_sound ls) refl (is_open ls n g i) refl
    where
      by : (s : Bool) → all_sound ls ≡ s → (a : Bool) → is_open ls n g i ≡ a → (all_sound ls ≡ true) × (is_open ls n g i ≡ true)
      by false e a f = let d : Open ≡ Unsound = h ∙ told false a e f in let z : ◌≡◌ {A = ℕ} 0 1 = cc in absurd (omega arith)
      by true e true f = (e, f)
      by true e false f = let d : Open ≡ Closed = h ∙ told true false e f in let z : ◌≡◌ {A = ℕ} 0 1 = cc in absurd (omega arith)
