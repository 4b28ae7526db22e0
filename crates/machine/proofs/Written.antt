-- What the machine writes is packed with nothing lost, and is well-formed.
-- Assumes nothing.
use mathlib.Core.Path.{◌≡◌, refl, sym, ap, ◌∙◌}
use mathlib.Core.Logic.{◌≢◌}
use mathlib.Core.List.{[], ◌∷◌}
use mathlib.Core.Bool.{Bool, true, false, not, ◌&&◌, ◌||◌}
use Prim.Native.Nat.{ℕ, zero, suc, ◌+◌, ◌≤◌, ◌<◌, ◌^◌}
use native.Mathlib.Nat.{mod-lt}
use native.Mathlib.Omega.{arith}
use lib.Dec.{eqb}
use lib.Pow.{pow_pos}
use borrow.Author.Tests.{le-ltb, ne_eqb}
use Rattle.layout.specs.Entry.{bit, direct, direct_fields, direct_widths, freed, indirect, is_direct, is_free, is_indirect, is_paged, paged, paged_fields, paged_widths, recounted, relocked, Storable}
use Rattle.bits.specs.Fields.{Fit}
use Rattle.layout.specs.Form.{end_past_memory, faults_of, holder_without_lock, ill_formed, length_zero, locked_without_holder, or_some}
use Rattle.layout.specs.Tag.{tag_of}
use Rattle.tokens.specs.Token.{named_as, NamedFits, token_fields, token_widths}
use Rattle.layout.specs.declared.entry.Entry.{Entry}
use Rattle.tokens.specs.declared.token.Named.{Named}
use Rattle.bits.proofs.FieldLaws.{pack_lt}
use Rattle.layout.proofs.FormLaws.{ill_as}
use Rattle.tokens.proofs.TokenLaws.{encoding_of_lem, named_of}
use Rattle.machine.specs.Issuing.{issue}
use Rattle.machine.specs.Operations.{token_of}
use Rattle.machine.specs.Parts.{most_memory, spent, State}
use Rattle.machine.proofs.Basics.{Present, some_false}

-- packed with nothing lost, and well-formed in a memory of m bytes; Lockable if it is direct or paged out, counted if it is indirect
pub record Good (m : ℕ) (e : Entry) : Type 0 where
  pub storable : Storable e
  pub formed : ill_formed m e ≡ false
  pub lockable : e.kind ≡ 1 → e.lockable ≡ true
  pub paged_lockable : e.kind ≡ 3 → e.lockable ≡ true
  pub counted : e.kind ≡ 2 → 1 ≤ e.count

-- ---- what a good entry has

-- a direct entry's fields fit
pub direct-fit : (e : Entry) → e.kind ≡ 1 → Storable e → Fit direct_widths (direct_fields e)
direct-fit e k (is_free h i) = absurd (omega (arith, ap (λ (x : Entry). x.kind) i))
direct-fit e k (is_direct i p g z f) = f
direct-fit e k (is_indirect i h u g f) = absurd (omega arith)
direct-fit e k (is_paged i b c h p f) = absurd (omega arith)

-- and those of one that is paged out
pub paged-fit : (e : Entry) → e.kind ≡ 3 → Storable e → Fit paged_widths (paged_fields e)
paged-fit e k (is_free h i) = absurd (omega (arith, ap (λ (x : Entry). x.kind) i))
paged-fit e k (is_direct i p g z f) = absurd (omega arith)
paged-fit e k (is_indirect i h u g f) = absurd (omega arith)
paged-fit e k (is_paged i b c h p f) = f

-- so do tag and count of any, and one without a segment has count 0
pub record Fitting (e : Entry) : Type 0 where
  pub tag : e.tag < 65536
  pub count : e.count < 65536
  pub counted : e.count ≢ 0 → Present e

pub fitting : (m : ℕ) (e : Entry) → Good m e → Fitting e
fitting m e g = go g.storable
  where
    go : Storable e → Fitting e
    go (is_free h i) = rw i (record { tag = omega arith; count = omega arith; counted = λ h. absurd (h refl) })
    go (is_direct i p g z f) = record { tag = omega arith; count = omega arith; counted = λ h. record { full = omega arith; here = omega arith } }
    go (is_indirect i q u g f) = record { tag = omega arith; count = omega arith; counted = λ h. record { full = omega arith; here = omega arith } }
    go (is_paged i b c h p f) = record { tag = omega arith; count = omega arith; counted = λ h. absurd (h c) }

-- ---- what is written

pub free_good : (m : ℕ) {g : ℕ} → g < 65536 → Good m (freed g)
unfolding ill_formed
free_good m h = record { storable = is_free h refl; formed = refl; lockable = λ k. absurd (omega arith); paged_lockable = λ k. absurd (omega arith); counted = λ k. absurd (omega arith) }

tag_small : (k0 k1 : ℕ) (e : Entry) (n : ℕ) → tag_of k0 k1 e n < 65536
unfolding tag_of
tag_small k0 k1 e n = mod-lt _ (pow_pos 16)

bit_small : (b : Bool) → bit b < 2
bit_small true = omega arith
bit_small false = omega arith

pub direct-storable : (m : ℕ) {b l u p : ℕ} {k : Bool} {g ν : ℕ} → m ≤ most_memory → b + l ≤ m → u < 2 ^ 64 → p < 8 → g < 65536 → ν < spent → Storable (direct b l u p k g ν)
direct-storable m {k = k} h1 h2 h3 h4 h5 h6 = is_direct refl refl refl refl (omega (arith, bit_small k))

pub direct_good : (m : ℕ) {b l u p : ℕ} {k : Bool} {g ν : ℕ} → 0 < l → b + l ≤ m → Storable (direct b l u p k g ν) → k ≡ true → Good m (direct b l u p k g ν)
unfolding ill_formed
direct_good m {b} {l} h1 h2 h3 h4 =
    record {
      storable = h3;
      formed = rw (ne_eqb l 0 (omega arith), le-ltb m (b + l) h2);
      lockable = λ i. h4;
      paged_lockable = λ i. absurd (omega arith);
      counted = λ i. absurd (omega arith);
    }

pub issue-storable : (m : ℕ) (s : State) (n : ℕ) {b l u p : ℕ} {k : Bool} {ν : ℕ} → m ≤ most_memory → b + l ≤ m → u < 2 ^ 64 → p < 8 → ν < spent → Storable (issue s n (direct b l u p k 0 ν))
issue-storable m s n {b} {l} {u} {p} {k} {ν} h1 h2 h3 h4 h5 = direct-storable m h1 h2 h3 h4 (tag_small s.key0 s.key1 (direct b l u p k 0 ν) n) h5

pub issue-direct : (m : ℕ) (s : State) (n : ℕ) {b l u p : ℕ} {k : Bool} {ν : ℕ} → m ≤ most_memory → 0 < l → b + l ≤ m → u < 2 ^ 64 → p < 8 → ν < spent → k ≡ true → Good m (issue s n (direct b l u p k 0 ν))
issue-direct m s n h1 h2 h3 h4 h5 h6 h7 = direct_good m h2 h3 (issue-storable m s n h1 h3 h4 h5 h6) h7

pub paged-storable : (s : State) (n : ℕ) {f l u p : ℕ} {k : Bool} {ν : ℕ} → f < 2 ^ 64 → l < 2 ^ 32 → u < 2 ^ 64 → p < 8 → ν < spent → Storable (issue s n (paged f l u p k 0 ν))
paged-storable s n {f} {l} {u} {p} {k} {ν} h1 h2 h3 h4 h5 = is_paged refl refl refl refl refl (omega (arith, bit_small k, tag_small s.key0 s.key1 (paged f l u p k 0 ν) n))

pub paged_good : (m : ℕ) {f l u p : ℕ} {k : Bool} {g ν : ℕ} → 0 < l → Storable (paged f l u p k g ν) → k ≡ true → Good m (paged f l u p k g ν)
unfolding ill_formed
paged_good m {l = l} h1 h2 h3 =
    record { storable = h2; formed = rw (ne_eqb l 0 (omega arith)); lockable = λ i. absurd (omega arith); paged_lockable = λ i. h3; counted = λ i. absurd (omega arith) }

-- what a parent token names
abbrev names : ℕ → Entry → Named
names n e = record { tag = e.tag; number = n; offset = 0 }

names-fit : (m : ℕ) (n : ℕ) (e : Entry) → Good m e → n < 1024 → NamedFits 1 (names n e)
names-fit m n e g h = omega (arith, fitting m e g)

-- the number and the tag that a parent token names
pub parent-named : (m : ℕ) (n : ℕ) (e : Entry) → Good m e → n < 1024 → (named_as 1 (token_of 1 n e)).number ≡ n
parent-named m n e good h = ap (λ (x : Named). x.number) (named_of 1 (names n e) (names-fit m n e good h))

pub parent-tagged : (m : ℕ) (n : ℕ) (e : Entry) → Good m e → n < 1024 → (named_as 1 (token_of 1 n e)).tag ≡ e.tag
parent-tagged m n e good h = ap (λ (x : Named). x.tag) (named_of 1 (names n e) (names-fit m n e good h))

pub issue-indirect : (m : ℕ) (s : State) (k n : ℕ) {e : Entry} {b l p ν : ℕ} → m ≤ most_memory → Good m e → n < 1024 → 0 < l → b + l ≤ m → p < 8 → ν < spent
    → Good m (issue s k (indirect b l (token_of 1 n e) p 0 ν))
unfolding ill_formed
issue-indirect m s k n {e} {b} {l} {p} {ν} h1 good h2 h3 h4 h5 h6 =
    let fit : NamedFits 1 (names n e) = names-fit m n e good h2 in
    let word : token_of 1 n e < 2 ^ 64 = pack_lt (token_widths 46 0) (token_fields 1 (names n e)) fit in
    record {
      storable = is_indirect refl refl refl refl (omega (arith, tag_small s.key0 s.key1 (indirect b l (token_of 1 n e) p 0 ν) k));
      formed = rw (ne_eqb l 0 (omega arith), le-ltb m (b + l) h4, encoding_of_lem 1 (names n e) (omega arith) fit);
      lockable = λ i. absurd (omega arith);
      paged_lockable = λ i. absurd (omega arith);
      counted = λ i. omega arith;
    }

-- a count is no matter of form
pub recount-formed : (m : ℕ) (e : Entry) (k : ℕ) → ill_formed m (recounted e k) ≡ ill_formed m e
unfolding ill_formed
recount-formed m e k = same e.kind
  where
    same : (x : ℕ) → or_some false (faults_of x m (recounted e k)) ≡ or_some false (faults_of x m e)
    same zero = refl
    same (suc zero) = refl
    same (suc (suc zero)) = refl
    same (suc (suc (suc zero))) = refl
    same (suc (suc (suc (suc x)))) = refl

pub recount_good : (m : ℕ) {e : Entry} {k : ℕ} → Good m e → Present e → k < 65536 → (e.kind ≡ 2 → 1 ≤ k) → Good m (recounted e k)
recount_good m {e} {k} g n h c = record { storable = go g.storable; formed = recount-formed m e k ∙ g.formed; lockable = g.lockable; paged_lockable = g.paged_lockable; counted = c }
  where
    go : Storable e → Storable (recounted e k)
    go (is_free h i) = absurd (n.full (ap (λ (x : Entry). x.kind) i))
    go (is_direct i p g z f) = is_direct i p g z (omega arith)
    go (is_indirect i q u g f) = is_indirect i q u g (omega arith)
    go (is_paged i b c h p f) = absurd (n.here i)

-- the holder is zero just if the entry is not locked
pub relock_good : (m : ℕ) {e : Entry} {locked : Bool} {h : ℕ} → Good m e → e.kind ≡ 1 → h < 2 ^ 55 → (locked && eqb h 0) ≡ false → (not locked && not (eqb h 0)) ≡ false → Good m (relocked e locked h)
relock_good m {e} {locked} {h} g k l a b =
    record { storable = go g.storable; formed = ill_as m (relocked e locked h) k ∙ formed (sym (ill_as m e k) ∙ g.formed); lockable = g.lockable; paged_lockable = g.paged_lockable; counted = g.counted }
  where
    go : Storable e → Storable (relocked e locked h)
    go (is_free h i) = absurd (omega (arith, ap (λ (x : Entry). x.kind) i))
    go (is_direct i p g z f) = is_direct i p g z (omega (arith, bit_small locked))
    go (is_indirect i q u g f) = absurd (omega arith)
    go (is_paged i b c h p f) = absurd (omega arith)

    formed : or_some false (faults_of 1 m e) ≡ false → or_some false (faults_of 1 m (relocked e locked h)) ≡ false
    formed f =
        let up : (length_zero e || end_past_memory m e || e.cow) ≡ false = some_false (length_zero e || end_past_memory m e || e.cow) (locked_without_holder e ∷ holder_without_lock e ∷ []) f in
        rw (up, a, b)
