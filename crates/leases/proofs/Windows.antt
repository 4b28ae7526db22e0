-- Windows and leases as a reader expects them.
-- Assumes nothing.
use mathlib.Core.Path.{◌≡◌, refl, sym, ◌∙◌, ap, subst}
use mathlib.Core.Logic.{◌⊎◌, inl, inr}
use mathlib.Core.Bool.{Bool, true, false, true≢false, not, ◌&&◌, ◌||◌}
use mathlib.Core.List.{List, [], ◌∷◌, ◌++◌, Memᴰ}
use Prim.Native.Nat.{ℕ, zero, suc, ◌+◌, ◌-◌, ◌/◌, ◌≤◌, ◌<◌}
use native.Mathlib.Nat.{mod-eq_of_lt}
use native.Mathlib.Omega.{arith}
use native.Mathlib.Decide.{dec_lt}
use lib.Dec.{leb, ltb}
use lib.ListN.{length}
use borrow.Author.Tests.{eq-eqb, eqb-false, eqb-true, le-leb, le-ltb, lt-leb, lt-ltb, ltb-true, ne_eqb, not-true}
use Rattle.bits.proofs.TestLaws.{both}
use Rattle.leases.specs.Lease.{admits, all_sound, covers, every, first_leases, is_for, is_open, is_sound, lease_at, leases_of, some, week}
use Rattle.leases.specs.Windows.{Admits, AllSound, Complement, exchanged, For, Listed, Opens, Round, since, Sound, Without}
use Rattle.leases.specs.declared.lease.Lease.{Lease}

-- ---- a table

among : (t : List ℕ) (n i : ℕ) → i < n → Memᴰ (lease_at t i) (first_leases n t)
unfolding first_leases
among t zero i h = absurd (omega arith)
among t (suc n) i h = by (dec_lt i n) (among t n i)
  where
    last : (ls : List Lease) (l : Lease) → Memᴰ l (ls ++ (l ∷ []))
    last [] l = Memᴰ.head refl
    last (k ∷ ls) l = Memᴰ.tail (last ls l)

    front : (ls : List Lease) (l k : Lease) → Memᴰ k ls → Memᴰ k (ls ++ (l ∷ []))
    front [] l k m = elim m [ ]
    front (x ∷ ls) l k (Memᴰ.head e) = Memᴰ.head e
    front (x ∷ ls) l k (Memᴰ.tail m) = Memᴰ.tail (front ls l k m)

    by : Dec (i < n) → (i < n → Memᴰ (lease_at t i) (first_leases n t)) → Memᴰ (lease_at t i) (first_leases n t ++ (lease_at t n ∷ []))
    by (yes l) f = front (first_leases n t) (lease_at t n) (lease_at t i) (f l)
    by (no l) f = let e : i ≡ n = omega arith in rw e (last (first_leases n t) (lease_at t n))

pub listed : Listed
unfolding Listed leases_of
listed t i h = among t (length t / 8) i (omega arith)

-- ---- a sound lease

pub sound_means : (l : Lease) → is_sound l ≡ true → Sound l
sound_means l h =
    let ab = both _ _ h in
    let a = both _ _ ab.0 in
    record { differ = eqb-false l.opening l.closing (not-true _ a.0); opening = ltb-true l.opening week a.1; closing = ltb-true l.closing week ab.1 }

pub sound-holds : (l : Lease) → Sound l → is_sound l ≡ true
sound-holds l h = rw (ne_eqb l.opening l.closing h.differ, lt-ltb l.opening week h.opening, lt-ltb l.closing week h.closing)

-- ---- one window, by where opening, closing and minute lie

module _ (l : Lease) (i : ℕ) where
  abbrev o : ℕ
  o = l.opening

  abbrev c : ℕ
  c = l.closing

  day_in : o ≤ c → o ≤ i → i < c → covers l i ≡ true
  unfolding covers
  day_in a b d = rw (le-ltb c o a, le-leb o i b, lt-ltb i c d)

  day-early : o ≤ c → i < o → covers l i ≡ false
  unfolding covers
  day-early a b = rw (le-ltb c o a, lt-leb o i b)

  day_late : o ≤ c → c ≤ i → covers l i ≡ false
  unfolding covers
  day_late a b = rw (le-ltb c o a, le-ltb i c b) (and_false (leb o i))
    where
      and_false : (x : Bool) → (x && false) ≡ false
      and_false true = refl
      and_false false = refl

  night_late : c < o → o ≤ i → covers l i ≡ true
  unfolding covers
  night_late a b = rw (lt-ltb c o a, le-leb o i b)

  night-early : c < o → i < c → covers l i ≡ true
  unfolding covers
  night-early a b = rw (lt-ltb c o a, lt-ltb i c b) (or_true (leb o i))
    where
      or_true : (x : Bool) → (x || true) ≡ true
      or_true true = refl
      or_true false = refl

  night-out : c < o → c ≤ i → i < o → covers l i ≡ false
  unfolding covers
  night-out a b d = rw (lt-ltb c o a, lt-leb o i d, le-ltb i c b)

-- with opening and closing exchanged a window is what it was not
pub opposite : (l : Lease) (i : ℕ) → Sound l → covers (exchanged l) i ≡ not (covers l i)
opposite l i s = by (dec_lt l.closing l.opening) (dec_lt i l.opening) (dec_lt i l.closing)
  where
    by : Dec (l.closing < l.opening) → Dec (i < l.opening) → Dec (i < l.closing) → covers (exchanged l) i ≡ not (covers l i)
    by (yes a) (yes b) (yes d) = rw (night-early l i a d, day-early (exchanged l) i (omega arith) d)
    by (yes a) (yes b) (no d) = rw (night-out l i a (omega arith) b, day_in (exchanged l) i (omega arith) (omega arith) b)
    by (yes a) (no b) d = rw (night_late l i a (omega arith), day_late (exchanged l) i (omega arith) (omega arith))
    by (no a) (yes b) d = let n = s.differ in rw (day-early l i (omega arith) b, night-early (exchanged l) i (omega arith) b)
    by (no a) (no b) (yes d) = let n = s.differ in rw (day_in l i (omega arith) (omega arith) d, night-out (exchanged l) i (omega arith) (omega arith) d)
    by (no a) (no b) (no d) = let n = s.differ in rw (day_late l i (omega arith) (omega arith), night_late (exchanged l) i (omega arith) (omega arith))

pub complement : Complement
complement = record {
  apart = λ l s i a b. absurd (true≢false (sym b ∙ opposite l i (sound_means l s) ∙ ap not a));
  together = λ l s i h. by l i (covers l i) refl (opposite l i (sound_means l s));
}
  where
    by : (l : Lease) (i : ℕ) (x : Bool) → covers l i ≡ x → covers (exchanged l) i ≡ not (covers l i) → (covers l i ≡ true) ⊎ (covers (exchanged l) i ≡ true)
    by l i true e h = inl e
    by l i false e h = inr (h ∙ ap not e)

-- the clock from the opening on
since-later : (o i : ℕ) → o ≤ i → i < week → since o i ≡ i - o
since-later o i a b = let e : (i + week - o) ≡ week + (i - o) = omega arith in omega arith

since-earlier : (o i : ℕ) → i < o → o < week → since o i ≡ i + week - o
since-earlier o i a b = mod-eq_of_lt (omega arith)

pub round : Round
unfolding Round
round l h i w = let s = sound_means l h in by s (dec_lt l.closing l.opening) (dec_lt i l.opening) (dec_lt i l.closing)
  where
    by : Sound l → Dec (l.closing < l.opening) → Dec (i < l.opening) → Dec (i < l.closing) → covers l i ≡ ltb (since l.opening i) (since l.opening l.closing)
    by s (yes a) (yes b) (yes d) = rw (night-early l i a d, since-earlier l.opening i b s.opening, since-earlier l.opening l.closing a s.opening, lt-ltb (i + week - l.opening) (l.closing + week - l.opening) (omega arith))
    by s (yes a) (yes b) (no d) = rw (night-out l i a (omega arith) b, since-earlier l.opening i b s.opening, since-earlier l.opening l.closing a s.opening, le-ltb (i + week - l.opening) (l.closing + week - l.opening) (omega arith))
    by s (yes a) (no b) d = rw (night_late l i a (omega arith), since-later l.opening i (omega arith) w, since-earlier l.opening l.closing a s.opening, lt-ltb (i - l.opening) (l.closing + week - l.opening) (omega arith))
    by s (no a) (yes b) d = let n = s.opening in let k = s.closing in rw (day-early l i (omega arith) b, since-earlier l.opening i b n, since-later l.opening l.closing (omega arith) k, le-ltb (i + week - l.opening) (l.closing - l.opening) (omega arith))
    by s (no a) (no b) (yes d) = rw (day_in l i (omega arith) (omega arith) d, since-later l.opening i (omega arith) w, since-later l.opening l.closing (omega arith) s.closing, lt-ltb (i - l.opening) (l.closing - l.opening) (omega arith))
    by s (no a) (no b) (no d) = rw (day_late l i (omega arith) (omega arith), since-later l.opening i (omega arith) w, since-later l.opening l.closing (omega arith) s.closing, le-ltb (i - l.opening) (l.closing - l.opening) (omega arith))

-- ---- several leases

some_in : (p : Lease → Bool) (ls : List Lease) (l : Lease) → Memᴰ l ls → p l ≡ true → some p ls ≡ true
some_in p [] l m h = elim m [ ]
some_in p (k ∷ ls) l (Memᴰ.head e) h = rw (← e, h)
some_in p (k ∷ ls) l (Memᴰ.tail m) h = rw (some_in p ls l m h) (or_true (p k))
  where
    or_true : (x : Bool) → (x || true) ≡ true
    or_true true = refl
    or_true false = refl

some_none : (p : Lease → Bool) (ls : List Lease) → ((l : Lease) → Memᴰ l ls → p l ≡ false) → some p ls ≡ false
some_none p [] h = refl
some_none p (k ∷ ls) h = rw (h k (Memᴰ.head refl)) (some_none p ls (λ l m. h l (Memᴰ.tail m)))

for_means : (n g : ℕ) (l : Lease) → is_for n g l ≡ true → For n g l
for_means n g l h = let a = both _ _ h in record { number = eqb-true l.number n a.0; tag = eqb-true l.tag g a.1 }

for_holds : (n g : ℕ) (l : Lease) → For n g l → is_for n g l ≡ true
for_holds n g l h = rw (eq-eqb l.number n h.number, eq-eqb l.tag g h.tag)

-- what does not hold is false
untrue : (x : Bool) → (x ≡ true → ⊥) → x ≡ false
untrue true h = absurd (h refl)
untrue false h = refl

some_means : (p : Lease → Bool) (ls : List Lease) → some p ls ≡ true → (l : Lease) × Memᴰ l ls × (p l ≡ true)
some_means p [] h = absurd (true≢false (sym h))
some_means p (k ∷ ls) h = by (p k) refl (some_means p ls) h
  where
    by : (x : Bool) → p k ≡ x → (some p ls ≡ true → (l : Lease) × Memᴰ l ls × (p l ≡ true)) → (x || some p ls) ≡ true → (l : Lease) × Memᴰ l (k ∷ ls) × (p l ≡ true)
    by true e f h = (k, Memᴰ.head refl, e)
    by false e f h = let r = f h in (r.0, Memᴰ.tail r.1, r.2)

pub opens : (ls : List Lease) (n g i : ℕ) → Opens ls n g i
unfolding is_open
opens ls n g i = record {
  without = λ h. rw (some_none (is_for n g) ls (λ l m. untrue (is_for n g l) (λ e. h l m (for_means n g l e))));
  any = λ a. rw (some_in (admits n g i) ls a.lease a.among (rw (for_holds n g a.lease a.names) a.opens)) (or_true (not (some (is_for n g) ls)));
  only = by (some (is_for n g) ls) refl;
}
  where
    or_true : (x : Bool) → (x || true) ≡ true
    or_true true = refl
    or_true false = refl

    found : some (admits n g i) ls ≡ true → Admits ls n g i
    found h =
        let r = some_means (admits n g i) ls h in
        let b = both (is_for n g r.0) (covers r.0 i) r.2 in
        record { lease = r.0; among = r.1; names = for_means n g r.0 b.0; opens = b.1 }

    by : (x : Bool) → some (is_for n g) ls ≡ x → (not x || some (admits n g i) ls) ≡ true → Without ls n g ⊎ Admits ls n g i
    by true e h = inr (found h)
    by false e h = inl (λ l m f. true≢false (sym (some_in (is_for n g) ls l m (for_holds n g l f)) ∙ e))

pub all_sound_lem : (ls : List Lease) → AllSound ls
unfolding all_sound
all_sound_lem ls = record { each = each ls; all = all ls }
  where
    each : (ls : List Lease) → every is_sound ls ≡ true → (l : Lease) → Memᴰ l ls → Sound l
    each [] h l m = elim m [ ]
    each (k ∷ ls) h l (Memᴰ.head e) = subst Sound (sym e) (sound_means k (both (is_sound k) (every is_sound ls) h).0)
    each (k ∷ ls) h l (Memᴰ.tail m) = each ls (both (is_sound k) (every is_sound ls) h).1 l m

    all : (ls : List Lease) → ((l : Lease) → Memᴰ l ls → Sound l) → every is_sound ls ≡ true
    all [] h = refl
    all (k ∷ ls) h = rw (sound-holds k (h k (Memᴰ.head refl))) (all ls (λ l m. h l (Memᴰ.tail m)))
