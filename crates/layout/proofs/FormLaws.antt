-- Ill-formed entries: the cases of a type, and the round trip of what is well-formed.
-- Assumes nothing.
use mathlib.Core.Path.{◌≡◌, refl, sym, ◌∙◌, ap, subst}
use mathlib.Core.Bool.{Bool, true, false, not, ◌&&◌, ◌||◌, beq}
use mathlib.Core.List.{List}
use Prim.Native.Nat.{ℕ, zero, suc}
use native.Mathlib.Omega.{arith}
use lib.ListN.{replicate}
use Rattle.bits.specs.Bytes.{bytes, number}
use Rattle.layout.specs.Entry.{entry_at, entry_bytes, entry_number, entry_of, free, free_number, Laid, laid_direct, laid_indirect, laid_paged, Storable, type_of}
use Rattle.bits.specs.Fields.{Fit}
use Rattle.layout.specs.Form.{faults_of, ill_formed, or_some}
use Rattle.layout.specs.declared.entry.Entry.{Entry}
use Rattle.bits.proofs.ByteLaws.{bytes-number, number-bytes}
use Rattle.layout.proofs.EntryLaws.{back, number_lt, round, shared_as}
use Rattle.bits.proofs.FieldLaws.{pack_lt}

-- locked without a holder, or a holder without the lock: the lock is there just if the holder is zero
pub lock-broken : (locked zero : Bool) → beq locked zero ≡ (locked && zero || not locked && not zero)
lock-broken true true = refl
lock-broken true false = refl
lock-broken false true = refl
lock-broken false false = refl

-- the cases where the type is k
pub ill_as : (m : ℕ) (e : Entry) {k : ℕ} → e.kind ≡ k → ill_formed m e ≡ or_some false (faults_of k m e)
unfolding ill_formed
ill_as m e q = ap (λ (k : ℕ). or_some false (faults_of k m e)) q

pub ill-above : (m : ℕ) (e : Entry) (k : ℕ) → (k ≡ 0 → ⊥) → (k ≡ 1 → ⊥) → (k ≡ 2 → ⊥) → (k ≡ 3 → ⊥) → or_some false (faults_of k m e) ≡ true
ill-above m e zero a b c d = absurd (a refl)
ill-above m e (suc zero) a b c d = absurd (b refl)
ill-above m e (suc (suc zero)) a b c d = absurd (c refl)
ill-above m e (suc (suc (suc zero))) a b c d = absurd (d refl)
ill-above m e (suc (suc (suc (suc k)))) a b c d = refl

-- the type that is read is the type that stands there
kind_read : (n : ℕ) → (entry_of n).kind ≡ type_of n
unfolding entry_of
kind_read n = ap (λ (e : Entry). e.kind) (shared_as (type_of n) n)

-- an entry that is neither free nor ill-formed is direct, indirect or paged out
pub laid : (m : ℕ) (e : Entry) → (e.kind ≡ 0 → ⊥) → ill_formed m e ≡ false → Laid e.kind
laid m e f h = go e.kind f (sym (ill_as m e refl) ∙ h)
  where
    go : (k : ℕ) → (k ≡ 0 → ⊥) → or_some false (faults_of k m e) ≡ false → Laid k
    go zero f h = absurd (f refl)
    go (suc zero) f h = laid_direct refl
    go (suc (suc zero)) f h = laid_indirect refl
    go (suc (suc (suc zero))) f h = laid_paged refl
    go (suc (suc (suc (suc k)))) f h = let z : ◌≡◌ {A = ℕ} 0 1 = cc in absurd (omega arith)

-- 32 bytes of an entry that is neither free nor ill-formed, read and written again, are the same bytes
pub well_formed_back : (m : ℕ) (s : List ℕ) → Fit (replicate 32 8) s → ((entry_at s).kind ≡ 0 → ⊥) → ill_formed m (entry_at s) ≡ false → entry_bytes (entry_at s) ≡ s
unfolding number
well_formed_back m s b f h =
    let n : ℕ = number 32 s in
    ap (bytes 32) (back n (pack_lt (replicate 32 8) s b) (subst Laid (kind_read n) (laid m (entry_at s) f h))) ∙ bytes-number 32 s b

-- 32 zeros are a free entry, and a free entry is 32 zeros
pub free_back : (entry_at (replicate 32 0) ≡ free) × (entry_bytes free ≡ replicate 32 0)
unfolding number bytes entry_of entry_number free_number
free_back = (refl, refl)

-- an entry that was written reads back the same
pub written_read : (e : Entry) → Storable e → entry_at (entry_bytes e) ≡ e
written_read e h = ap entry_of (number-bytes 32 (entry_number e) (number_lt e h)) ∙ round e h
