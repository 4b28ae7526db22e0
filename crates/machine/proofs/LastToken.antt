-- The last token must not return (02, paper 5): what the paper claims does hold.
-- Assumes nothing.
use mathlib.Core.Path.{◌≡◌, refl, sym, ap, subst, ◌∙◌}
use mathlib.Core.Logic.{◌≢◌, ◌⊎◌, inl, inr}
use mathlib.Core.List.Memᴰ
use mathlib.Core.List.{List, [], ◌∷◌, ◌++◌, Memᴰ}
use Prim.Native.Nat.{ℕ}
use native.Mathlib.Omega.{arith}
use native.Mathlib.Decide.{ℕ_discrete}
use lib.Dec.{eqb}
use borrow.Author.Tests.{eqb-false, eqb-true, ne_eqb}
use Rattle.layout.specs.Entry.{freed, is_direct, is_free, is_indirect, is_paged, Storable}
use Rattle.layout.specs.declared.entry.Entry.{Entry}
use Rattle.machine.specs.Demand3.{Reset}
use Rattle.machine.specs.LastToken.{AllOther, held_after, held_with, issued_in, Kept, NeverAgain, unheld}
use Rattle.machine.specs.Ledger.{Event, HeldOther, Returned}
use Rattle.machine.specs.MachineSystem.{of_machine, reset_call, Unreset}
use Rattle.machine.specs.Operations.{Decision}
use Rattle.machine.specs.Parts.{at}
use Rattle.machine.specs.Requests.{Call}
use Rattle.machine.specs.Steps.{decision, Machine, run, step}
use Rattle.machine.specs.System.{event, ledger}
use Rattle.machine.specs.Writes.{Name, name_of}
use Rattle.machine.proofs.Choices.{by_cond}
use Rattle.machine.proofs.Decided.{accepted}
use Rattle.machine.proofs.Fates.{Anew, Fate, gone, issued, kept, Names, none, one, two}
use Rattle.machine.proofs.LedgerLaws.{returned_on}
use Rattle.machine.proofs.Runs.{by_reset, deed_of, held_first, held-reset, NotReset, run_well, step_well, Well, well_reset}

-- ---- one request

-- the tag of entry n is as it was, or its token was issued
abbrev Moved : (t t' : List ℕ) → List Name → ℕ → Type 0
Moved t t' ks n = ((at t' n).tag ≡ (at t n).tag) ⊎ Memᴰ (name_of n (at t' n)) ks

module _ (t t' : List ℕ) where
  -- each token of those that a request gives
  anew_of : {ks : List Name} (x : Name) → Names t t' ks → Memᴰ x ks → Anew t t' x
  anew_of x none m = absurd (Memᴰ.not-nil m)
  anew_of x (one a) m = subst (Anew t t') (sym (Memᴰ.eq_of_singleton m)) a
  anew_of x (two {j} {k} a b d) m = go (Memᴰ.cases_cons m)
    where
      go : (x ≡ j) ⊎ Memᴰ x (k ∷ []) → Anew t t' x
      go (inl e) = subst (Anew t t') (sym e) a
      go (inr h) = subst (Anew t t') (sym (Memᴰ.eq_of_singleton h)) b

  module _ (held : ℕ → ℕ) (tags : (n : ℕ) → (at t n).tag ≡ held n) where
    -- a number of which no token was given has what it had
    stays : {ks : List Name} (n : ℕ) → Moved t t' ks n → ((k : Name) → Memᴰ k ks → k.number ≢ n) → (at t' n).tag ≡ held n
    stays n (inl e) h = e ∙ tags n
    stays n (inr m) h = absurd (h (name_of n (at t' n)) m refl)

    -- the table has what each number last held
    held-names : {ks : List Name} → Names t t' ks → (n : ℕ) → Moved t t' ks n → (at t' n).tag ≡ held_after held ks n
    held-names none n moved = stays n moved (λ k m. absurd (Memᴰ.not-nil m))
    held-names (one {k} a) n moved =
        by_cond (λ g. (at t' n).tag ≡ g) (eqb n k.number)
        (λ e. subst (λ i. (at t' i).tag ≡ k.tag) (sym (eqb-true n k.number e)) a.has)
        (λ e. stays n moved (λ i m z. eqb-false n k.number e (sym z ∙ ap (λ (x : Name). x.number) (Memᴰ.eq_of_singleton m))))
    held-names (two {j} {k} a b d) n moved =
        by_cond (λ g. (at t' n).tag ≡ g) (eqb n k.number)
        (λ e. subst (λ i. (at t' i).tag ≡ k.tag) (sym (eqb-true n k.number e)) b.has)
        (λ e. by_cond (λ g. (at t' n).tag ≡ g) (eqb n j.number)
        (λ f. subst (λ i. (at t' i).tag ≡ j.tag) (sym (eqb-true n j.number f)) a.has)
        (λ f. stays n moved (λ i m z. neither i (λ h. eqb-false n j.number f (sym z ∙ h)) (λ h. eqb-false n k.number e (sym z ∙ h)) (Memᴰ.cases_cons m))))
      where
        neither : (i : Name) → i.number ≢ j.number → i.number ≢ k.number → (i ≡ j) ⊎ Memᴰ i (k ∷ []) → ⊥
        neither i f g (inl h) = f (ap (λ (x : Name). x.number) h)
        neither i f g (inr h) = g (ap (λ (x : Name). x.number) (Memᴰ.eq_of_singleton h))

    -- and each token has another tag than that
    other : (k : Name) → Anew t t' k → k.tag ≢ held k.number
    other k a e = a.other (e ∙ sym (tags k.number))

    others : {ks : List Name} → Names t t' ks → AllOther held ks
    others none = tt
    others (one {k} a) = (other k a, tt)
    others (two {j} {k} a b d) = (other j a, (rw (ne_eqb k.number j.number (λ e. d (sym e))) (other k b), tt))

module _ (σ : Machine) (q : Call) (inv : Well σ) (nr : NotReset σ q) where
  step_names : Names σ.table (step σ q).table (decision σ q).issued
  unfolding step
  step_names = (deed_of σ q inv nr).names

  step_moved : (n : ℕ) → Moved σ.table (step σ q).table (decision σ q).issued n
  unfolding step
  step_moved n = go ((deed_of σ q inv nr).fate n)
    where
      go : Fate σ.table q.request (deed_of σ q inv nr).least (decision σ q).state.next (decision σ q).issued (deed_of σ q inv nr).moves n (at (decision σ q).table n) → Moved σ.table (decision σ q).table (decision σ q).issued n
      go (kept e g h) = inl (ap (λ (x : Entry). x.tag) e)
      go (gone z e h) = inl e
      go (issued a b m j f h) = inr m

-- ---- lists

abbrev Tagged : Machine → (ℕ → ℕ) → Type 0
Tagged σ held = (n : ℕ) → (at σ.table n).tag ≡ held n

others_append : (held : ℕ → ℕ) (ks ls : List Name) → AllOther held ks → AllOther (held_after held ks) ls → AllOther held (ks ++ ls)
others_append held [] ls a b = b
others_append held (k ∷ ks) ls a b = (a.0, others_append (held_with held k) ks ls a.1 b)

held_append : (held : ℕ → ℕ) (ks ls : List Name) (n : ℕ) → held_after held (ks ++ ls) n ≡ held_after (held_after held ks) ls n
held_append held [] ls n = refl
held_append held (k ∷ ks) ls n = held_append (held_with held k) ks ls n

others-run : (σ : Machine) (held : ℕ → ℕ) (qs : List Call) → Well σ → Unreset σ qs → Tagged σ held → AllOther held (issued_in σ qs)
others-run σ held [] inv nr tags = tt
others-run σ held (q ∷ qs) inv nr tags =
    others_append held (decision σ q).issued (issued_in (step σ q) qs)
    (others σ.table (step σ q).table held tags (step_names σ q inv nr.0))
    (others-run (step σ q) (held_after held (decision σ q).issued) qs (step_well σ q inv nr.0) nr.1
    (λ n. held-names σ.table (step σ q).table held tags (step_names σ q inv nr.0) n (step_moved σ q inv nr.0 n)))

tagged-run : (σ : Machine) (held : ℕ → ℕ) (qs : List Call) → Well σ → Unreset σ qs → Tagged σ held → Tagged (run σ qs) (held_after held (issued_in σ qs))
tagged-run σ held [] inv nr tags n = tags n
tagged-run σ held (q ∷ qs) inv nr tags n =
    tagged-run (step σ q) (held_after held (decision σ q).issued) qs (step_well σ q inv nr.0) nr.1
    (λ n. held-names σ.table (step σ q).table held tags (step_names σ q inv nr.0) n (step_moved σ q inv nr.0 n)) n
    ∙ sym (held_append held (decision σ q).issued (issued_in (step σ q) qs) n)

pub never_again : NeverAgain
unfolding NeverAgain
never_again σ k0 k1 ν b ok after nr = others-run _ unheld after (well_reset σ k0 k1 ν b ok) nr (held-reset σ k0 k1 ν b ok)

-- a free entry that can be packed is its tag alone
bare : (e : Entry) → Storable e → e.kind ≡ 0 → e ≡ freed e.tag
bare e (is_free h i) k = i ∙ ap (λ (x : Entry). freed x.tag) (sym i)
bare e (is_direct i p g z f) k = absurd (omega arith)
bare e (is_indirect i h u g f) k = absurd (omega arith)
bare e (is_paged i b c h p f) k = absurd (omega arith)

pub tags_kept : Kept
unfolding Kept
tags_kept σ k0 k1 ν b ok after nr n =
    let inv = well_reset σ k0 k1 ν b ok in
    let tag = tagged-run _ unheld after inv nr (held-reset σ k0 k1 ν b ok) n in
    record { tag = tag; bare = λ z. bare _ ((run_well _ after inv nr).good n).storable z ∙ ap freed tag }

-- ---- a token that is issued again

module _ (k : Name) (v : Event) where
  -- its number held another, and then it is issued
  returns_after : (l : List Event) (σ : Machine) (qs : List Call) → HeldOther k v l → Memᴰ k (issued_in σ qs) → Returned k v (ledger of_machine l σ qs)
  returns_after l σ [] h m = absurd (Memᴰ.not-nil m)
  returns_after l σ (q ∷ qs) h m = go (returns_after (event of_machine σ q ∷ l) (step σ q) qs (inr h)) (Memᴰ.append_cases (decision σ q).issued m)
    where
      go : (Memᴰ k (issued_in (step σ q) qs) → Returned k v (ledger of_machine l σ (q ∷ qs))) → Memᴰ k (decision σ q).issued ⊎ Memᴰ k (issued_in (step σ q) qs)
          → Returned k v (ledger of_machine l σ (q ∷ qs))
      go f (inl i) = returned_on of_machine k v (event of_machine σ q ∷ l) (step σ q) qs (inl (i, h))
      go f (inr i) = f i

  -- A token that its number holds, and that is issued later, returns: what is issued is not what is held, so that the number held another before.
  pub returns : (l : List Event) (σ : Machine) (qs : List Call) → Well σ → Unreset σ qs → (at σ.table k.number).tag ≡ k.tag → Memᴰ k (issued_in σ qs)
      → Returned k v (ledger of_machine l σ qs)
  returns l σ [] inv nr has m = absurd (Memᴰ.not-nil m)
  returns l σ (q ∷ qs) inv nr has m =
      go (λ e. returns (event of_machine σ q ∷ l) (step σ q) qs (step_well σ q inv nr.0) nr.1 e) (Memᴰ.append_cases (decision σ q).issued m) (ℕ_discrete (at (step σ q).table n).tag k.tag) (step_moved σ q inv nr.0 n)
    where
      n : ℕ
      n = k.number

      go : ((at (step σ q).table n).tag ≡ k.tag → Memᴰ k (issued_in (step σ q) qs) → Returned k v (ledger of_machine l σ (q ∷ qs)))
          → Memᴰ k (decision σ q).issued ⊎ Memᴰ k (issued_in (step σ q) qs) → Dec ((at (step σ q).table n).tag ≡ k.tag) → Moved σ.table (step σ q).table (decision σ q).issued n
          → Returned k v (ledger of_machine l σ (q ∷ qs))
      go f (inl h) d w = absurd ((anew_of σ.table (step σ q).table k (step_names σ q inv nr.0) h).other (sym has))
      go f (inr h) (yes e) w = f e h
      go f (inr h) (no e) (inl s) = absurd (e (s ∙ has))
      go f (inr h) (no e) (inr g) =
          let a = anew_of σ.table (step σ q).table _ (step_names σ q inv nr.0) g in
          returns_after (event of_machine σ q ∷ l) (step σ q) qs (inl (record { there = a.full; other = e })) h

-- what a request gives, its number then holds; so does a reset's root
pub given-held : (σ : Machine) (q : Call) (k : Name) → Well σ → NotReset σ q → Memᴰ k (decision σ q).issued → (at (step σ q).table k.number).tag ≡ k.tag
given-held σ q k inv nr m = (anew_of σ.table (step σ q).table k (step_names σ q inv nr) m).has

pub root-held : (σ : Machine) (first : Call) (k : Name) → Reset of_machine σ first → Memᴰ k (decision σ first).issued → (at (step σ first).table k.number).tag ≡ k.tag
root-held σ first k g m =
    held_first σ first g k.number
    ∙ by_reset σ first (λ c. Memᴰ k (decision σ c).issued → 0 ≡ k.tag) g
    (λ k0 k1 ν b ok m. sym (ap (λ (x : Name). x.tag) (Memᴰ.eq_of_singleton (subst (λ (d : Decision). Memᴰ k d.issued) (accepted σ (reset_call k0 k1 ν b) ok).1 m)))) m
