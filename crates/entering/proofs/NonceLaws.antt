-- The search for a nonce with another tag, a step at a time.
-- Assumes nothing.
use mathlib.Core.Path.{◌≡◌, refl, sym, ap, ◌∙◌}
use mathlib.Core.Bool.{false, not, ◌&&◌, cond}
use mathlib.Core.Logic.{◌⊎◌, inl, inr}
use mathlib.Core.List.{List}
use Prim.Native.Nat.{ℕ, zero, suc, ◌+◌, ◌-◌, ◌≤◌, ◌<◌}
use native.Mathlib.Omega.{arith}
use lib.Dec.{eqb}
use borrow.Author.Tests.{eq-eqb, eqb-false, eqb-true, ne_eqb, not-false}
use Rattle.layout.specs.Entry.{dated}
use Rattle.layout.specs.declared.entry.Entry.{Entry}
use Rattle.machine.specs.Issuing.{issue, last_held, other_nonce, pass_over}
use Rattle.machine.specs.Parts.{moved, put, spent, State}
use Rattle.machine.proofs.Choices.{by_both, by_cond}
use Rattle.machine.proofs.Fuel.{other-least, pass_over_lem}
use Rattle.machine.proofs.TableLaws.{at_other}
use Rattle.std.specs.Prelude.{Some, None}
use Rattle.entering.specs.Nonces.{FindsTwo, Sought, SoughtTwo}
use Rattle.entering.specs.declared.nonces.Found.{Found}
use Rattle.entering.specs.declared.nonces.FoundTwo.{FoundTwo}

pass_step : (tries : ℕ) (s : State) (n : ℕ) (e : ℕ → Entry) (old ν : ℕ) → 0 < tries
    → pass_over tries s n e old ν ≡ cond (eqb (issue s n (e ν)).tag old) (pass_over (tries - 1) s n e old (ν + 1)) ν
unfolding pass_over
pass_step zero s n e old ν h = absurd (omega arith)
pass_step (suc tries) s n e old ν h = let z : suc tries - 1 ≡ tries = omega arith in rw z

-- the ways on from a nonce with which the entry has the tag g
module _ (s : State) (n : ℕ) (e : ℕ → Entry) (old next ν g : ℕ)
    (inv : pass_over (spent - next) s n e old next ≡ pass_over (spent - ν) s n e old ν) (left : ν < spent) (tagged : g ≡ (issue s n (e ν)).tag) where
  step_nonce : pass_over (spent - next) s n e old next ≡ cond (eqb g old) (pass_over (spent - ν - 1) s n e old (ν + 1)) ν
  step_nonce = inv ∙ pass_step (spent - ν) s n e old ν (omega arith) ∙ rw (← tagged)

  pub pass-found : (g ≡ old → ⊥) → ν ≡ pass_over (spent - next) s n e old next
  pass-found h = sym (step_nonce ∙ rw (ne_eqb _ _ h))

  pub pass_on : g ≡ old → pass_over (spent - next) s n e old next ≡ pass_over (spent - (ν + 1)) s n e old (ν + 1)
  pass_on h = let less : spent - ν - 1 ≡ spent - (ν + 1) = omega arith in step_nonce ∙ rw (eq-eqb _ _ h, less)

pub pass_none : (s : State) (n : ℕ) (e : ℕ → Entry) (old next ν : ℕ) → pass_over (spent - next) s n e old next ≡ pass_over (spent - ν) s n e old ν → spent ≤ ν
    → ν ≡ pass_over (spent - next) s n e old next
unfolding pass_over
pass_none s n e old next ν inv h =
    let none : spent - ν ≡ 0 = omega arith in
    sym (inv ∙ rw none refl)

-- ---- what is found

-- the search goes by the key alone
pass-moved : (tries : ℕ) (s : State) (l ν k n : ℕ) (e : ℕ → Entry) (old x : ℕ) → pass_over tries (moved s l ν k) n e old x ≡ pass_over tries s n e old x
unfolding pass_over
pass-moved zero s l ν k n e old x = refl
pass-moved (suc tries) s l ν k n e old x = rw (pass-moved tries s l ν k n e old (x + 1))

-- what a search from the old tag, which the entry last held, has come to
module _ (s : State) (t : List ℕ) (n old : ℕ) (e : Entry) (held : old ≡ last_held t n) where
  pub finds : (r : Found) → r.nonce < spent → r.tag ≡ (issue s n (dated e r.nonce)).tag → r.nonce ≡ pass_over (spent - s.next) s n (dated e) old s.next → Sought s t n e (Some r)
  finds r l g h = record { nonce = h ∙ rw held; left = l; tag = g }

  pub finds_none : pass_over (spent - s.next) s n (dated e) old s.next ≡ spent → Sought s t n e None
  finds_none h = rw (← held) h

-- ---- two issues, one behind the other

-- the part is tried with the nonce one, and the rest with the nonce two: all before were passed over, and the rest is behind the part, whose tag will do if the
-- rest is further behind
pub record Tries (s : State) (n k : ℕ) (e f : ℕ → Entry) (last kept one two : ℕ) : Type 0 where
  pub behind : one < two
  pub most : one ≤ spent
  pub first : pass_over (spent - s.next) s n e last s.next ≡ pass_over (spent - one) s n e last one
  pub second : pass_over (spent - (one + 1)) s k f kept (one + 1) ≡ pass_over (spent - two) s k f kept two
  pub done : (two ≡ one + 1) ⊎ (((issue s n (e one)).tag ≡ last → ⊥) × (one < spent))

pub tries-start : (s : State) (n k : ℕ) (e f : ℕ → Entry) (last kept : ℕ) → s.next ≤ spent → Tries s n k e f last kept s.next (s.next + 1)
tries-start s n k e f last kept h = record { behind = omega arith; most = h; first = refl; second = refl; done = inl refl }

module _ (s : State) (n k : ℕ) (e f : ℕ → Entry) (last kept one two g h : ℕ) (inv : Tries s n k e f last kept one two) (left : two < spent)
    (given : g ≡ (issue s n (e one)).tag) (second : h ≡ (issue s k (f two)).tag) where
  -- the part is passed over: then the rest was next to it
  next_to : g ≡ last → two ≡ one + 1
  next_to q = go inv.done
    where
      go : (two ≡ one + 1) ⊎ (((issue s n (e one)).tag ≡ last → ⊥) × (one < spent)) → two ≡ one + 1
      go (inl z) = z
      go (inr z) = absurd (z.0 (sym given ∙ q))

  pub tries-part : g ≡ last → Tries s n k e f last kept (one + 1) (one + 1 + 1)
  tries-part q = record { behind = omega arith; most = omega (arith, inv.behind); first = pass_on s n e last s.next one g inv.first (omega (arith, inv.behind)) given q; second = refl; done = inl refl }

  -- the rest alone is
  pub tries-rest : (g ≡ last → ⊥) → h ≡ kept → Tries s n k e f last kept one (two + 1)
  tries-rest p q =
      record { behind = omega (arith, inv.behind); most = inv.most; first = inv.first; second = pass_on s k f kept (one + 1) two h inv.second left second q; done = inr ((λ z. p (given ∙ z)), omega (arith, inv.behind)) }

  -- one of them is, and what is tried next is further behind
  module _ (some : (not (eqb g last) && not (eqb h kept)) ≡ false) where
    pub tries_on : Tries s n k e f last kept (cond (eqb g last) (one + 1) one) (cond (eqb g last) (one + 1 + 1) (two + 1))
    tries_on =
        by_both (λ x y. (not (eqb g last) && not (eqb h kept)) ≡ false → Tries s n k e f last kept x y) (eqb g last)
        (λ q z. tries-part (eqb-true g last q))
        (λ q z. tries-rest (eqb-false g last q) (eqb-true h kept (not-false (eqb h kept) (rw q at z))))
        some

    pub tries_less : two < cond (eqb g last) (one + 1 + 1) (two + 1)
    tries_less = by_cond (λ x. two < x) (eqb g last) (λ q. omega (arith, next_to (eqb-true g last q))) (λ q. omega arith)

  -- neither is
  pub tries-both : (g ≡ last → ⊥) → (h ≡ kept → ⊥) → (one ≡ pass_over (spent - s.next) s n e last s.next) × (two ≡ pass_over (spent - (one + 1)) s k f kept (one + 1))
  tries-both p q = (pass-found s n e last s.next one g inv.first (omega (arith, inv.behind)) given p, pass-found s k f kept (one + 1) two h inv.second left second q)

module _ (s : State) (t : List ℕ) (n k : ℕ) (e f : Entry) (apart : n ≡ k → ⊥) (last kept : ℕ) (held : last ≡ last_held t n) (other : kept ≡ last_held t k) where
  -- the second entry is another, so that it holds its tag still when the first is written
  kept-tag : (a : Entry) → last_held (put t n a) k ≡ last_held t k
  kept-tag a = ap (λ (x : Entry). x.tag) (at_other t n k a (λ z. apart (sym z)))

  -- the nonce of the second, where the first took ν, and l and total are then the last number and the free total
  behind : (l total ν : ℕ) → pass_over (spent - (ν + 1)) s k (dated f) kept (ν + 1) ≡ other_nonce (moved s l (ν + 1) total) (put t n (issue s n (dated e ν))) k (dated f)
  behind l total ν = rw (other, ← kept-tag (issue s n (dated e ν))) (sym (pass-moved _ s _ _ _ k (dated f) _ _))

  -- both are found
  pub found-both : (r : FoundTwo) → r.second.nonce < spent → Tries s n k (dated e) (dated f) last kept r.first.nonce r.second.nonce
      → r.first.tag ≡ (issue s n (dated e r.first.nonce)).tag → r.second.tag ≡ (issue s k (dated f r.second.nonce)).tag
      → (r.first.tag ≡ last → ⊥) → (r.second.tag ≡ kept → ⊥) → FindsTwo s t n e k f r
  found-both r left inv a b p q =
      let both = tries-both s n k (dated e) (dated f) last kept _ _ _ _ inv left a b p q in
      record {
        one = record { nonce = both.0 ∙ rw held; left = omega (arith, inv.behind); tag = a };
        two = λ l total. record { nonce = both.1 ∙ behind l total r.first.nonce; left = left; tag = b };
      }

  -- there are no two
  pub found_none : (one two : ℕ) → spent ≤ two → Tries s n k (dated e) (dated f) last kept one two → SoughtTwo s t n e k f None
  found_none one two end inv = λ l total. go l total inv.done
    where
      ν : ℕ
      ν = other_nonce s t n (dated e)

      at_one : ν ≡ pass_over (spent - one) s n (dated e) last one
      at_one = rw (← held) inv.first

      go : (l total : ℕ) → (two ≡ one + 1) ⊎ (((issue s n (dated e one)).tag ≡ last → ⊥) × (one < spent)) → spent ≤ other_nonce (moved s l (ν + 1) total) (put t n (issue s n (dated e ν))) k (dated f)
      go l total (inl z) = omega (arith, at_one, (pass_over_lem (spent - one) s n (dated e) last one).from, other-least (moved s l (ν + 1) total) (put t n (issue s n (dated e ν))) k (dated f))
      go l total (inr z) =
          let same : ν ≡ one = at_one ∙ sym (pass-found s n (dated e) last one one _ refl z.1 refl z.0) in
          let at_two : other_nonce (moved s l (ν + 1) total) (put t n (issue s n (dated e ν))) k (dated f) ≡ pass_over (spent - two) s k (dated f) kept two = sym (behind l total ν) ∙ rw same inv.second in
          omega (arith, at_two, (pass_over_lem (spent - two) s k (dated f) kept two).from)
