-- A drop's climb: each way on from an entry, a total that is raised, and how far a climb has come.
-- Assumes nothing.
use mathlib.Core.Path.{◌≡◌, refl, sym, subst, ◌∙◌, ap}
use mathlib.Core.Logic.{◌≢◌}
use mathlib.Core.Bool.{Bool, true, false, not, ◌&&◌, ◌||◌, cond}
use mathlib.Core.List.{List, ◌∷◌}
use Prim.Native.Nat.{ℕ, suc, ◌+◌, ◌-◌, ◌*◌, ◌/◌, ◌%◌, ◌≤◌, ◌<◌}
use native.Mathlib.Omega.{arith}
use native.Mathlib.Decide.{dec_lt}
use lib.Dec.{eqb, leb, ltb}
use lib.ListN.{length}
use borrow.Author.Tests.{eqb-false, eqb-true, le-leb, le-ltb, lt-leb, lt-ltb, ltb-false, ltb-true, ne_eqb, not-true}
use Rattle.bits.proofs.TestLaws.{both}
use Rattle.layout.specs.Entry.{recounted}
use Rattle.layout.specs.declared.entry.Entry.{Entry}
use Rattle.machine.specs.Line.{linked, parent_number}
use Rattle.machine.specs.Operations.{climb}
use Rattle.machine.specs.Parts.{at, most_free, put, size, State, totalled}
use Rattle.machine.specs.Writes.{one_more, opened, vacate, vacated, Write, written}
use Rattle.machine.proofs.Choices.{by_both, by_cond}
use Rattle.machine.proofs.Fuel.{climb_fuel}
use Rattle.machine.proofs.TableLaws.{length-put, vacated-other}
use Rattle.table.proofs.LineLaws.{walk_in, walk_less}
use Rattle.table.specs.Left.{Left, left_by}
use Rattle.std.specs.Prelude.{Option, Some, None}
use Rattle.std.specs.Option.{SomeIff}
use Rattle.climbs.specs.Climbs.{Ahead, Climbed, climbed, Climbs, count_of, leaving, Onward, Packs, raised, word_of, yet}

-- ---- the climb

climbed_fuel : (s : State) (k f g : ℕ) (t : List ℕ) (n : ℕ) → (at t n).nonce < f → (at t n).nonce < g → climbed s k f t n ≡ climbed s k g t n
unfolding climbed
climbed_fuel s k f g t n h i = ap (λ (ws : List Write). left_by (written 0 (opened (totalled s k) t) ws)) (climb_fuel f g t n h i)

-- a direct entry with a count has a holder to lose
pub direct_some : (k n : ℕ) → (eqb k 1 && not (eqb n 0)) ≡ true → n ≡ 0 → ⊥
direct_some k n h = eqb-false n 0 (not-true _ (both (eqb k 1) (not (eqb n 0)) h).1)

-- the ways on from entry n, which is e
module _ (k : ℕ) (t : List ℕ) (n : ℕ) (e : Entry) (is : e ≡ at t n) (s : State) where
  abbrev freed_total : ℕ
  freed_total = one_more (most_free t) n k

  step : climbed s k (suc (at t n).nonce) t n
      ≡ cond (leb 2 e.count) (leaving s k (put t n (recounted e (e.count - 1))))
      (cond (eqb e.count 0) (leaving s k t)
      (cond (eqb e.kind 1) (leaving s k (put t n (recounted e 0)))
      (cond (linked t e) (climbed s freed_total (at t n).nonce (vacated t n) (parent_number e)) (leaving s freed_total (vacated t n)))))
  unfolding climb climbed
  step =
      rw is
      (by_both Leaves (leb 2 (at t n).count) (λ c. refl)
      (λ c. by_both Leaves (eqb (at t n).count 0) (λ z. refl)
      (λ z. by_both Leaves (eqb (at t n).kind 1) (λ d. refl)
      (λ d. by_both (λ ws l. Leaves (vacate n ∷ ws) l) (linked t (at t n)) (λ l. refl) (λ l. refl)))))
    where
      Leaves : List Write → Left → Type 0
      Leaves ws l = left_by (written 0 (opened (totalled s k) t) ws) ≡ l

  pub climb_none : e.count ≡ 0 → leaving s k t ≡ climbed s k (suc (at t n).nonce) t n
  climb_none z = sym (step ∙ rw z)

  less : (e.count ≡ 0 → ⊥) → (leb 2 e.count || eqb e.kind 1) ≡ true → leaving s k (put t n (recounted e (e.count - 1))) ≡ climbed s k (suc (at t n).nonce) t n
  less some h = go (dec_lt e.count 2)
    where
      go : Dec (e.count < 2) → leaving s k (put t n (recounted e (e.count - 1))) ≡ climbed s k (suc (at t n).nonce) t n
      go (yes l) =
          let few : leb 2 e.count ≡ false = lt-leb 2 e.count l in
          let direct : eqb e.kind 1 ≡ true = rw few at h in
          let one : e.count - 1 ≡ 0 = omega arith in
          sym (step ∙ rw (few, ne_eqb e.count 0 some, direct, ← one))
      go (no l) = sym (step ∙ rw (le-leb 2 e.count (omega arith)))

  -- an entry that stays falls by one; x is read for it
  pub climb_less : (x : Entry) (t' : List ℕ) → (e.count ≡ 0 → ⊥) → (leb 2 e.count || eqb e.kind 1) ≡ true → x ≡ at t n → t' ≡ put t n (recounted x (e.count - 1)) → leaving s k t' ≡ climbed s k (suc (at t n).nonce) t n
  climb_less x t' some h read gone = ap (leaving s k) (rw (read, ← is) at gone) ∙ less some h

  -- so does a direct entry with a count
  pub climb-direct : (x : Entry) (t' : List ℕ) → (eqb e.kind 1 && not (eqb e.count 0)) ≡ true → x ≡ at t n → t' ≡ put t n (recounted x (e.count - 1)) → leaving s k t' ≡ climbed s k (suc (at t n).nonce) t n
  climb-direct x t' h = climb_less x t' (direct_some e.kind e.count h) (rw (both (eqb e.kind 1) (not (eqb e.count 0)) h).0 (either (leb 2 e.count)))
    where
      either : (b : Bool) → (b || true) ≡ true
      either true = refl
      either false = refl

-- ---- a total that is raised

pub count_most : (n : ℕ) → count_of n ≤ 1
count_most n = by_cond (λ x. x ≤ 1) (eqb n 0) (λ z. omega arith) (λ z. omega arith)

raise_none : (top k : ℕ) → raised top 0 k ≡ k
unfolding raised
raise_none top k = by_cond (λ x. x ≡ k) (leb top k) (λ i. refl) (λ i. by_cond (λ x. x ≡ k) (ltb (top - k) 0) (λ j. absurd (omega (arith, ltb-true (top - k) 0 j))) (λ j. omega arith))

pub count_one : (n : ℕ) → eqb n 0 ≡ false → count_of n ≡ 1
count_one n h = rw h

-- by one freed number
raise_one : (top n k : ℕ) → raised top (count_of n) k ≡ one_more top n k
unfolding raised
raise_one top n k = by_both (λ j x. raised top j k ≡ x) (eqb n 0) (λ z. raise_none top k) (λ z. one (dec_lt k top))
  where
    one : Dec (k < top) → raised top 1 k ≡ cond (ltb k top) (k + 1) k
    one (yes h) = rw (lt-leb top k h, le-ltb (top - k) 1 (omega arith), lt-ltb k top h)
    one (no h) = rw (le-leb top k (omega arith), le-ltb k top (omega arith))

-- and further
raise_more : (top i j k : ℕ) → raised top j (raised top i k) ≡ raised top (i + j) k
unfolding raised
raise_more top i j k = go (dec_lt k top) (dec_lt (top - k) i)
  where
    go : Dec (k < top) → Dec (top - k < i) → raised top j (raised top i k) ≡ raised top (i + j) k
    go (no h) d = rw (le-leb top k (omega arith), le-leb top k (omega arith))
    go (yes h) (yes d) = rw (lt-leb top k h, lt-ltb (top - k) i d, le-leb top top (omega arith), lt-ltb (top - k) (i + j) (omega arith))
    go (yes h) (no d) = rw (lt-leb top k h, le-ltb (top - k) i (omega arith)) (last (dec_lt (k + i) top) (dec_lt (top - (k + i)) j))
      where
        last : Dec (k + i < top) → Dec (top - (k + i) < j) → cond (leb top (k + i)) (k + i) (cond (ltb (top - (k + i)) j) top (k + i + j)) ≡ cond (ltb (top - k) (i + j)) top (k + (i + j))
        last (yes a) (yes b) = rw (lt-leb top (k + i) a, lt-ltb (top - (k + i)) j b, lt-ltb (top - k) (i + j) (omega arith))
        last (yes a) (no b) = rw (lt-leb top (k + i) a, le-ltb (top - (k + i)) j (omega arith), le-ltb (top - k) (i + j) (omega arith)) (omega arith)
        last (no a) b = rw (le-leb top (k + i) (omega arith)) (by_cond (λ x. k + i ≡ x) (ltb (top - k) (i + j)) (λ z. omega arith) (λ z. omega (arith, ltb-false (top - k) (i + j) z)))

pub raise_out : (top k j : ℕ) → top ≤ k → k ≡ raised top j k
unfolding raised
raise_out top k j h = rw (le-leb top k h)

pub raise_top : (top k j : ℕ) → k < top → top - k < j → top ≡ raised top j k
unfolding raised
raise_top top k j h i = rw (lt-leb top k h, lt-ltb (top - k) j i)

pub raise_in : (top k j : ℕ) → k < top → j ≤ top - k → k + j ≡ raised top j k
unfolding raised
raise_in top k j h i = rw (lt-leb top k h, le-ltb (top - k) j i)

-- ---- how far a climb has come

-- it has ended, and j numbers were freed
pub climb-ended : {t : List ℕ} {n j : ℕ} {t' : List ℕ} → length t' ≡ length t → ((k : ℕ) → Climbed k t n (raised (most_free t) j k) t') → Climbs t n j t' 0
unfolding yet
climb-ended long h = record { ahead = λ k. record { ended = λ z. h k; onward = λ z. absurd (z refl) }; older = omega arith; long = long }

-- none was freed
pub climb-kept : {t : List ℕ} {n : ℕ} {t' : List ℕ} → length t' ≡ length t → ((k : ℕ) → Climbed k t n k t') → Climbs t n 0 t' 0
climb-kept {t} {n} {t'} long h = climb-ended long (λ k. rw (raise_none (most_free t) k) (h k))

-- the word that tells it, where i were freed before
pub packed : (i : ℕ) (t : List ℕ) (n j : ℕ) (t' : List ℕ) (r c : ℕ) → c ≡ r * 16 + (i + j) → i + j ≤ 8 → Climbs t n j t' r → Packs i t n t' c
packed i t n j t' r c is few h =
    let low : c % 16 ≡ i + j = omega arith in
    let high : c / 16 ≡ r = omega arith in
    let mine : c % 16 - i ≡ j = omega arith in
    record { some = omega arith; few = omega arith; climbs = rw (mine, high) h }

-- entry n, which is e, has no count, or stays with one less; x is read for it
pub climb_at_none : (i : ℕ) (t : List ℕ) (n : ℕ) (e : Entry) → i ≤ 7 → e ≡ at t n → e.count ≡ 0 → Packs i t n t i
climb_at_none i t n e few is z = packed i t n 0 t 0 i (omega arith) (omega arith) (climb-kept refl (λ k s. climb_none k t n e is s z))

pub climb_at_less : (i : ℕ) (t : List ℕ) (n : ℕ) (e x : Entry) (t' : List ℕ) → i ≤ 7 → e ≡ at t n → (e.count ≡ 0 → ⊥) → (leb 2 e.count || eqb e.kind 1) ≡ true → x ≡ at t n
    → t' ≡ put t n (recounted x (e.count - 1)) → Packs i t n t' i
climb_at_less i t n e x t' few is some h read gone =
    packed i t n 0 t' 0 i (omega arith) (omega arith) (climb-kept (rw gone (length-put t n _)) (λ k s. climb_less k t n e is s x t' some h read gone))

yet_some : (t : List ℕ) (r : ℕ) → (r ≡ 0 → ⊥) → yet t r ≡ suc (at t (r - 1)).nonce
unfolding yet
yet_some t r some = rw (ne_eqb r 0 some)

before : (p : ℕ) → p + 1 - 1 ≡ p
before p = omega arith

yet_next : (t : List ℕ) (p : ℕ) → yet t (p + 1) ≡ suc (at t p).nonce
yet_next t p = rw (before p) at (yet_some t (p + 1) (λ z. omega arith))

pub ahead_next : {k : ℕ} {t : List ℕ} {n k' : ℕ} {t' : List ℕ} {p : ℕ} → Onward k t n k' t' p → Ahead k t n k' t' (p + 1)
ahead_next {p = p} o = record { ended = λ z. absurd (omega arith); onward = λ z. rw (before p) o }

further : {k : ℕ} {t : List ℕ} {n k' : ℕ} {t' : List ℕ} {p : ℕ} → Onward k t n k' t' p → {k'' : ℕ} {t'' : List ℕ} {r : ℕ} → Ahead k' t' p k'' t'' r → Ahead k t n k'' t'' r
further o h =
    record { ended = λ z. o.rest _ _ (h.ended z); onward = λ z. let q = h.onward z in record { inside = q.inside; rest = λ k''' t''' i. o.rest k''' t''' (q.rest k''' t''' i) } }

-- a turn of the loop, which drops entry p and comes to the word c
module _ (t' : List ℕ) (p : ℕ) (t'' : List ℕ) (c : ℕ) (h : Packs 0 t' p t'' c) where
  pub yet_less : yet t'' (c / 16) < yet t' (p + 1)
  yet_less = omega (arith, h.climbs.older, yet_next t' p)

  pub ahead_on : (k : ℕ) (t : List ℕ) (n top k' k'' : ℕ) → top ≡ most_free t → length t' ≡ length t → Ahead k t n k' t' (p + 1) → k'' ≡ raised top (c % 16) k' → Ahead k t n k'' t'' (c / 16)
  unfolding size
  ahead_on k t n top k' k'' up long a raise =
      let same : most_free t' ≡ most_free t = rw long refl in
      let all : c % 16 - 0 ≡ c % 16 = omega arith in
      let past : Onward k t n k' t' p = rw (before p) at (a.onward (λ z. absurd (omega arith))) in
      let on : Ahead k t n (raised (most_free t') (c % 16 - 0) k') t'' (c / 16) = further past (h.climbs.ahead k') in
      rw (raise, up, ← same) (subst (λ (x : ℕ). Ahead k t n (raised (most_free t') x k') t'' (c / 16)) all on)

  pub long_on : (t : List ℕ) → length t' ≡ length t → length t'' ≡ length t
  long_on t long = h.climbs.long ∙ long

-- one less, where there is one less, is the number that a word tells
pub word_told : (o : Option ℕ) (c : ℕ) → SomeIff o (1 ≤ c) (c - 1) → word_of o ≡ c
word_told None c h = omega (arith, h)
word_told (Some p) c h = omega (arith, h)

pub neither : (a b : Bool) → (a || b) ≡ false → (a ≡ false) × (b ≡ false)
neither false b h = (refl, h)
neither true b h = let z : ◌≡◌ {A = ℕ} 0 1 = cc in absurd (omega arith)

-- the parent p of entry n, which is e, stands in the table once that is freed; b says whether its link holds
pub climb-there : (t : List ℕ) (n : ℕ) (e : Entry) (b : Bool) (t' : List ℕ) → e ≡ at t n → b ≡ linked t e → t' ≡ vacated t n → (p : ℕ) → p ≡ parent_number e → b ≡ true → 32 * p + 32 ≤ length t'
climb-there t n e b t' is link gone p q l = rw (gone, length-put) (walk_in t n p e b is link q l)

-- entry n, which is e, has lost its last holder and is not direct, and is freed; b says whether its link holds
module _ (k : ℕ) (t : List ℕ) (n : ℕ) (e : Entry) (b : Bool) (k' : ℕ) (t' : List ℕ) (is : e ≡ at t n) (some : e.count ≡ 0 → ⊥) (last : (leb 2 e.count || eqb e.kind 1) ≡ false) (link : b ≡ linked t e) (more : k' ≡ one_more (most_free t) n k) (gone : t' ≡ vacated t n) where
  freed : (s : State) → climbed s k (suc (at t n).nonce) t n ≡ cond b (climbed s k' (at t n).nonce t' (parent_number e)) (leaving s k' t')
  freed s =
      let q = neither (leb 2 e.count) (eqb e.kind 1) last in
      step k t n e is s ∙ rw (q.0, ne_eqb e.count 0 some, q.1, ← link, more, gone)

  pub climb-freed : b ≡ false → Climbed k t n k' t'
  climb-freed h s = sym (freed s ∙ rw h)

  -- the parent is another entry and older, and stays when the child is freed
  module _ (p : ℕ) (q : p ≡ parent_number e) (l : b ≡ true) where
    older : (at t' p).nonce < (at t n).nonce
    older =
        let o : (at t p).nonce < (at t n).nonce = walk_less t n p e b is link q l in
        let apart : p ≢ n = λ r. omega (arith, ap (λ (k : ℕ). (at t k).nonce) r) in
        rw (gone, vacated-other t n p apart) o

    onward : Onward k t n k' t' p
    onward =
        record {
          inside = climb-there t n e b t' is link gone p q l;
          rest = λ k'' t'' h s. h s ∙ climbed_fuel s k' (suc (at t' p).nonce) (at t n).nonce t' p (omega arith) older ∙ sym (freed s ∙ rw (l, ← q));
        }

-- the same, whatever the total is
module _ (t : List ℕ) (n : ℕ) (e : Entry) (b : Bool) (t' : List ℕ) (is : e ≡ at t n) (some : e.count ≡ 0 → ⊥) (last : (leb 2 e.count || eqb e.kind 1) ≡ false) (link : b ≡ linked t e) (gone : t' ≡ vacated t n) where
  abbrev freed_to : ℕ → ℕ
  freed_to k = raised (most_free t) (count_of n) k

  to : (k : ℕ) → freed_to k ≡ one_more (most_free t) n k
  to k = raise_one (most_free t) n k

  long : length t' ≡ length t
  long = rw gone (length-put t n _)

  -- i were freed before, and then c is as many as are freed now
  module _ (i c : ℕ) (few : i ≤ 7) (more : c ≡ i + count_of n) where
    least : i + count_of n ≤ 8
    least = omega (arith, count_most n)

    pub climb-gone : b ≡ false → Packs i t n t' c
    climb-gone h = packed i t n (count_of n) t' 0 c (omega arith) least (climb-ended long (λ k. climb-freed k t n e b (freed_to k) t' is some last link (to k) gone h))

    module _ (p : ℕ) (q : p ≡ parent_number e) (l : b ≡ true) where
      up : (k : ℕ) → Onward k t n (freed_to k) t' p
      up k = onward k t n e b (freed_to k) t' is some last link (to k) gone p q l

      younger : (at t' p).nonce < (at t n).nonce
      younger = older 0 t n e b (freed_to 0) t' is some last link (to 0) gone p q l

      pub climb_next : (w : ℕ) → w ≡ (p + 1) * 16 + c → Packs i t n t' w
      climb_next w told =
          packed i t n (count_of n) t' (p + 1) w (omega arith) least
          (record { ahead = λ k. ahead_next (up k); older = rw (yet_next t' p) younger; long = long })

      pub climb_up : (t'' : List ℕ) (w : ℕ) → Packs c t' p t'' w → Packs i t n t'' w
      unfolding size
      climb_up t'' w h =
          let same : most_free t' ≡ most_free t = rw long refl in
          let j : ℕ = w % 16 - c in
          let sum : w % 16 - i ≡ count_of n + j = omega (arith, h.some) in
          record {
            some = omega (arith, h.some);
            few = h.few;
            climbs = rw sum
                (record {
                  ahead = λ k.
                      subst (λ (x : ℕ). Ahead k t n x t'' (w / 16)) (raise_more (most_free t) (count_of n) j k)
                      (subst (λ (x : ℕ). Ahead k t n (raised x j (freed_to k)) t'' (w / 16)) same (further (up k) (h.climbs.ahead (freed_to k))));
                  older = omega (arith, younger, h.climbs.older);
                  long = h.climbs.long ∙ long;
                });
          }

-- an indirect entry at count 1 that is linked is freed, and its parent dropped
module _ (k : ℕ) (t : List ℕ) (n : ℕ) (e : Entry) (b : Bool) (k' : ℕ) (t' : List ℕ) (p : ℕ) (is : e ≡ at t n) (link : b ≡ linked t e) (h : ((eqb e.kind 2 && eqb e.count 1) && b) ≡ true) (more : k' ≡ one_more (most_free t) n k) (gone : t' ≡ vacated t n) (q : p ≡ parent_number e) where
  fallen : Onward k t n k' t' p
  fallen =
      let l = both (eqb e.kind 2 && eqb e.count 1) b h in
      let i = both (eqb e.kind 2) (eqb e.count 1) l.0 in
      let kind = eqb-true e.kind 2 i.0 in
      let one = eqb-true e.count 1 i.1 in
      onward k t n e b k' t' is (λ z. omega arith) (rw (one, kind)) link more gone p q l.1

  pub fall_in : 32 * p + 32 ≤ length t'
  fall_in = fallen.inside

  pub fall_up : (k'' : ℕ) (t'' : List ℕ) → Climbed k' t' p k'' t'' → Climbed k t n k'' t''
  fall_up = fallen.rest

-- a direct entry stays
pub ruleset stays = (climb-direct)
