-- Small laws of tests, of stores in the table, of links, owners and well-formed entries.
-- Assumes nothing.
use mathlib.Core.Path.{◌≡◌, refl, sym, ◌∙◌}
use mathlib.Core.Logic.{◌≢◌}
use mathlib.Core.List.{List, [], ◌∷◌}
use mathlib.Core.Bool.{Bool, true, false, true≢false, not, ◌&&◌, ◌||◌}
use Prim.Native.Nat.{ℕ, ◌+◌, ◌≤◌, ◌<◌}
use native.Mathlib.Omega.{arith}
use native.Mathlib.Decide.{ℕ_discrete}
use lib.Dec.{ltb, eqb}
use lib.ListN.{drop}
use borrow.Author.Tests.{eqb-false, eqb-true, ltb-false, ltb-true, not-true}
use Rattle.layout.specs.Entry.{Storable}
use Rattle.layout.specs.Form.{end_past_memory, faults_of, ill_formed, length_zero, or_some}
use Rattle.layout.specs.declared.entry.Entry.{Entry}
use Rattle.layout.specs.Entry.{Laid, laid_direct, laid_indirect, laid_paged}
use Rattle.layout.proofs.FormLaws.{ill_as, laid}
use Rattle.bits.proofs.TestLaws.{both}
use Rattle.machine.specs.Line.{is_paged, links, parent_number, parent_tag}
use Rattle.machine.specs.Parts.{at, put, size}
use Rattle.machine.specs.Segments.{above, itself, Owns}
use Rattle.machine.proofs.TableLaws.{at_other, at_same, size-put}

-- ---- tests

pub neqb_true : (m n : ℕ) → not (eqb m n) ≡ true → m ≢ n
neqb_true m n h = eqb-false m n (not-true (eqb m n) h)

or_false : (a b : Bool) → (a || b) ≡ false → (a ≡ false) × (b ≡ false)
or_false true b h = absurd (true≢false h)
or_false false b h = (refl, h)

-- no case holds
pub some_false : (a : Bool) (bs : List Bool) → or_some a bs ≡ false → a ≡ false
some_false a [] h = h
some_false a (b ∷ bs) h = (or_false a b (some_false (a || b) bs h)).0

-- ---- stores in the table

-- one store, and two
pub put_all : (P : ℕ → Entry → Type 0) (t : List ℕ) (n : ℕ) (e : Entry) → Storable e → n < size t
    → P n e → ((m : ℕ) → m ≢ n → P m (at t m)) → (m : ℕ) → P m (at (put t n e) m)
put_all P t n e fe h p f m = go (ℕ_discrete m n)
  where
    go : Dec (m ≡ n) → P m (at (put t n e) m)
    go (yes i) = rw (i, at_same t n e fe h) p
    go (no i) = rw (at_other t n m e i) (f m i)

pub put2_all : (P : ℕ → Entry → Type 0) (t : List ℕ) (p n : ℕ) (a b : Entry) → Storable a → Storable b → p < size t → n < size t
    → P n b → P p a → ((m : ℕ) → m ≢ n → m ≢ p → P m (at t m)) → (m : ℕ) → P m (at (put (put t p a) n b) m)
put2_all P t p n a b fa fb hp hn pn pp f =
    put_all P (put t p a) n b fb (rw size-put hn) pn (λ m i. put_all (λ x e. x ≢ n → P x e) t p a fa hp (λ j. pp) (λ x k j. f x j k) m i)

-- ---- links and owners

-- the entry is neither free nor paged out, so that it has a segment in memory
pub record Present (e : Entry) : Type 0 where
  pub full : e.kind ≢ 0
  pub here : e.kind ≢ 3

pub present : (e : Entry) → not (eqb e.kind 0) ≡ true → not (is_paged e) ≡ true → Present e
present e h i = record { full = neqb_true e.kind 0 h; here = neqb_true e.kind 3 i }

pub direct-present : (e : Entry) → e.kind ≡ 1 → Present e
direct-present e d = record { full = omega arith; here = omega arith }

-- what a link that holds says of the parent p of e
pub record Link (e p : Entry) : Type 0 where
  pub present : Present p
  pub tagged : p.tag ≡ parent_tag e
  pub older : p.nonce < e.nonce

pub link : (e p : Entry) → links p e ≡ true → Link e p
link e p h =
    let full : Bool = not (eqb p.kind 0) in
    let here : Bool = not (is_paged p) in
    let tagged : Bool = eqb p.tag (parent_tag e) in
    let older : Bool = ltb p.nonce e.nonce in
    let all = both (full && here && tagged) older h in
    let three = both (full && here) tagged all.0 in
    let two = both full here three.0 in
    record {
      present = present p two.0 two.1;
      tagged = eqb-true p.tag (parent_tag e) three.1;
      older = ltb-true p.nonce e.nonce all.1;
    }

-- the parent of entry n
abbrev pub parent : List ℕ → ℕ → Entry
parent t n = at t (parent_number (at t n))

pub owner-direct : {t : List ℕ} {n m : ℕ} → Owns t n m → (at t m).kind ≡ 1
owner-direct (itself k) = k
owner-direct (above l o) = owner-direct o

pub owner_unique : {t : List ℕ} {n m m' : ℕ} → Owns t n m → Owns t n m' → m ≡ m'
owner_unique (itself k) (itself k') = refl
owner_unique (itself k) (above l o) = absurd (omega (arith, l.indirect))
owner_unique (above l o) (itself k) = absurd (omega (arith, l.indirect))
owner_unique (above l o) (above l' o') = owner_unique o o'

-- ---- well-formed entries

-- the segment of one that has one is not empty and lies in memory
pub range : (m : ℕ) (e : Entry) → Present e → ill_formed m e ≡ false → (0 < e.length) × (e.base + e.length ≤ m)
range m e k f = go (laid m e k.full f)
  where
    fault : (bs : List Bool) → or_some false (length_zero e ∷ end_past_memory m e ∷ bs) ≡ false → (0 < e.length) × (e.base + e.length ≤ m)
    fault bs h =
        let both = or_false (length_zero e) (end_past_memory m e) (some_false (length_zero e || end_past_memory m e) bs h) in
        let some = eqb-false e.length 0 both.0 in
        (omega arith, ltb-false m (e.base + e.length) both.1)

    go : Laid e.kind → (0 < e.length) × (e.base + e.length ≤ m)
    go (laid_direct i) = fault (drop 2 (faults_of 1 m e)) (sym (ill_as m e i) ∙ f)
    go (laid_indirect i) = fault (drop 2 (faults_of 2 m e)) (sym (ill_as m e i) ∙ f)
    go (laid_paged i) = absurd (k.here i)

-- and one that is paged out is not empty
pub paged-long : (m : ℕ) (e : Entry) → e.kind ≡ 3 → ill_formed m e ≡ false → 0 < e.length
paged-long m e k f =
    let some = eqb-false e.length 0 (some_false (length_zero e) (drop 1 (faults_of 3 m e)) (sym (ill_as m e k) ∙ f)) in
    omega arith
