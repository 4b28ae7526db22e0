-- What the code stores is what an issue leaves.
-- Assumes nothing.
use mathlib.Core.Path.{◌≡◌, refl, sym, ap, subst, ◌∙◌}
use mathlib.Core.Logic.{◌≢◌}
use mathlib.Core.List.{List, [], ◌∷◌}
use Prim.Native.Nat.{ℕ, ◌+◌, ◌<◌, ◌^◌}
use native.Mathlib.Nat.{mod-lt}
use native.Mathlib.Omega.{arith}
use lib.Dec.{eqb}
use lib.Pow.{pow_pos}
use borrow.Author.Tests.{ne_eqb}
use Rattle.entering.specs.Nonces.{Finds, FindsTwo}
use Rattle.entering.specs.declared.nonces.Found.{Found}
use Rattle.entering.specs.declared.nonces.FoundTwo.{FoundTwo}
use Rattle.layout.specs.Entry.{dated, entry_of, is_direct, is_free, is_indirect, is_paged, Laid, laid_direct, laid_indirect, laid_paged, Storable, type_of}
use Rattle.layout.specs.Tag.{retag, tag_of}
use Rattle.layout.specs.declared.entry.Entry.{Entry}
use Rattle.layout.proofs.EntryLaws.{read-storable, shared_as}
use Rattle.machine.specs.Issuing.{new_number}
use Rattle.machine.specs.Parts.{at, moved, put, spent, State}
use Rattle.machine.specs.Writes.{entered, opened, reissue, token_for, write}
use Rattle.machine.proofs.Basics.{put_all}
use Rattle.machine.proofs.Fuel.{number_same}
use Rattle.machine.proofs.TableLaws.{in_table, size-put}
use Rattle.table.specs.Left.{left_by}

-- one that is issued with the nonce r, where l is then the last number and total the free total
pub entered_left : (s : State) (t : List ℕ) (n c l total : ℕ) (e : Entry) (r : Found) (k : ℕ) (t' : List ℕ)
    → Finds s t n e r → k ≡ token_for c (record { number = n; tag = r.tag }) → t' ≡ put t n (retag (dated e r.nonce) r.tag)
    → record { state = moved s l (r.nonce + 1) total; table = t'; tokens = k ∷ [] } ≡ left_by (entered c (opened s t) l total n (dated e))
entered_left s t n c l total e r k t' f h i = rw (i, h, f.tag, ← f.nonce)

-- one after the other, the first under number n and the second under number k, where l₁ and l are then the last numbers, and total₁ and total the free totals
pub two_left : (s : State) (t : List ℕ) (n k c l₁ total₁ l total : ℕ) (e f : Entry) (r : FoundTwo) (i j : ℕ) (t₁ t₂ : List ℕ)
    → FindsTwo s t n e k f r
    → i ≡ token_for c (record { number = n; tag = r.first.tag }) → j ≡ token_for c (record { number = k; tag = r.second.tag })
    → t₁ ≡ put t n (retag (dated e r.first.nonce) r.first.tag) → t₂ ≡ put t₁ k (retag (dated f r.second.nonce) r.second.tag)
    → record { state = moved s l (r.second.nonce + 1) total; table = t₂; tokens = i ∷ j ∷ [] } ≡ left_by (entered c (entered c (opened s t) l₁ total₁ n (dated e)) l total k (dated f))
two_left s t n k c l₁ total₁ l total e f r i j t₁ t₂ found x y p q =
    let first = found.one in
    let second = found.two l₁ total₁ in
    rw (q, p, x, y, first.tag, second.tag, ← first.nonce, ← second.nonce)

-- ---- the new number, once an entry that is not free is issued anew

filled : {k : ℕ} → Laid k → k ≢ 0
filled (laid_direct h) = omega arith
filled (laid_indirect h) = omega arith
filled (laid_paged h) = omega arith

-- what is read of a number can be packed with another nonce and tag
stamped : (m g ν : ℕ) → Laid (entry_of m).kind → g < 2 ^ 16 → ν < spent → Storable (retag (dated (entry_of m) ν) g)
unfolding entry_of
stamped m g ν laid h i = go (read-storable m (subst Laid (ap (λ (e : Entry). e.kind) (shared_as (type_of m) m)) laid))
  where
    go : Storable (entry_of m) → Storable (retag (dated (entry_of m) ν) g)
    go (is_free z q) = absurd (filled laid (ap (λ (e : Entry). e.kind) q))
    go (is_direct k p n z f) = is_direct k p n z (omega arith)
    go (is_indirect k p n z f) = is_indirect k p n z (omega arith)
    go (is_paged k b c p n f) = is_paged k b c p n (omega arith)

pub new_kept : (s : State) (t : List ℕ) (n k c m : ℕ) (r : Found) → Finds s t k (entry_of m) r → (at t k).kind ≢ 0 → Laid (entry_of m).kind
    → n ≡ new_number s t → let b = write c (opened s t) (reissue k (dated (entry_of m))) in n ≡ new_number b.state b.table
unfolding tag_of
new_kept s t n k c m r found full laid new =
    new ∙ sym (number_same s s t _ refl (size-put _ _ _)
    (put_all (λ i x. eqb x.kind 0 ≡ eqb (at t i).kind 0) t k _ (stamped m _ _ laid (mod-lt _ (pow_pos 16)) (rw (← found.nonce) found.left)) (in_table t k full)
    (rw (ne_eqb _ 0 full) (ne_eqb _ 0 (filled laid)))
    (λ i z. refl)))
