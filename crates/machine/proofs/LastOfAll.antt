-- The last stage: what it changes, and what not.
-- Assumes nothing.
use mathlib.Core.Path.{◌≡◌, refl, sym, ap, ◌∙◌}
use mathlib.Core.Logic.{◌≢◌, ◌⊎◌, inl, inr}
use mathlib.Core.Bool.{Bool, true, false, true≢false}
use mathlib.Core.List.Memᴰ
use mathlib.Core.List.{List, [], ◌∷◌, Memᴰ}
use Prim.Native.Nat.{ℕ, ◌≤◌, ◌<◌}
use native.Mathlib.Omega.{arith}
use native.Mathlib.Decide.{dec_le}
use lib.Dec.{eqb}
use lib.ListN.{length}
use borrow.Author.Tests.{eq-eqb}
use Rattle.machine.specs.LastOfAll.{among, LastOfAll, made_length, made_limited, makes}
use Rattle.machine.specs.MachineSystem.{Accepted}
use Rattle.machine.specs.Operations.{carried, Decision, Fill, grant}
use Rattle.machine.specs.Requests.{Call}
use Rattle.machine.specs.Rows.{row}
use Rattle.machine.specs.Steps.{answer, blind, decide, decision, limited, Machine, pass, stop, telling, told_length, verdict}
use Rattle.machine.specs.Stops.{checks, lastly, refusal_number}
use Rattle.machine.proofs.Choices.{by_cond}
use Rattle.machine.proofs.Decided.{Course, course, early, fits_made, late, made_fits, made-stops, not_told, passing, settled-told, tells, through}
use Rattle.machine.proofs.Rows.{late_room, leaves, moves, Plain, plain}

-- what the test does not find is not there
among_not : (ns : List ℕ) → among 14 ns ≡ false → Memᴰ 14 ns → ⊥
among_not [] h m = Memᴰ.not-nil m
among_not (k ∷ ns) h m = go (among_not ns) (Memᴰ.cases_cons m)
  where
    go : (among 14 ns ≡ false → Memᴰ 14 ns → ⊥) → (14 ≡ k) ⊎ Memᴰ 14 ns → ⊥
    go f (inl e) = let z : among 14 (k ∷ ns) ≡ true = rw (eq-eqb k 14 (sym e)) in true≢false (sym z ∙ h)
    go f (inr i) = by_cond (λ (b : Bool). b ≡ false → ⊥) (eqb k 14) (λ e z. true≢false z) (λ e z. f z i) h

plain-told : {f : Fill} → Plain f → (memory : List ℕ) → told_length f memory ≡ 0
plain-told leaves memory = refl
plain-told moves memory = refl

plain-lastly : {f : Fill} → Plain f → (memory b : List ℕ) → lastly f memory b ≡ []
plain-lastly leaves memory b = refl
plain-lastly moves memory b = refl

-- what does not keep to its limit, or does not fit
not_fitting : (b : Bool) (n l : ℕ) → (b ≡ true → n ≤ l → ⊥) → (b ≡ false) ⊎ (l < n)
not_fitting false n l h = inl refl
not_fitting true n l h = by (dec_le n l)
  where
    by : Dec (n ≤ l) → (◌≡◌ {A = Bool} true false) ⊎ (l < n)
    by (yes j) = absurd (h refl j)
    by (no j) = inr (omega arith)

module _ (σ : Machine) (q : Call) where
  abbrev fill : Fill
  fill = (grant (length σ.memory) σ.table q.request q.buffer).effect.fill

  abbrev number : Decision → ℕ
  number d = d.reply.refusal

  as_decided : makes q.request ≡ false → decision σ q ≡ blind σ q
  as_decided none = go (course σ q)
    where
      p : Plain fill
      p = plain (length σ.memory) σ.state σ.table q.request q.buffer (among_not (row q.request) none)

      go : Course σ q → decision σ q ≡ blind σ q
      go (through c l b e) = e ∙ ap (λ (n : ℕ). telling n (carried σ.state σ.table (grant (length σ.memory) σ.table q.request q.buffer))) (plain-told p σ.memory) ∙ sym b
      go (late c r h b e) =
          let z : pass ≡ stop r = ap verdict (sym (plain-lastly p σ.memory q.buffer)) ∙ h in
          cc
      go (early r b e) = e ∙ sym b

  refused-before : (blind σ q).reply.refusal ≢ 0 → decision σ q ≡ blind σ q
  refused-before n = go (course σ q)
    where
      go : Course σ q → decision σ q ≡ blind σ q
      go (through c l b e) = absurd (n (ap number b))
      go (late c r h b e) = absurd (n (ap number b))
      go (early r b e) = e ∙ sym b

  -- what it makes, where it's granted without a look at memory
  made : blind σ q ≡ carried σ.state σ.table (grant (length σ.memory) σ.table q.request q.buffer) → made_length σ q ≡ told_length fill σ.memory
  made b = ap (λ (d : Decision). told_length d.effect.fill σ.memory) b

  made-limit : blind σ q ≡ carried σ.state σ.table (grant (length σ.memory) σ.table q.request q.buffer) → made_limited σ q ≡ limited fill σ.memory
  made-limit b = ap (λ (d : Decision). limited d.effect.fill σ.memory) b

  tells-length : Accepted σ q → ((answer σ q).reply.length ≡ made_length σ q) × (made_limited σ q ≡ true) × (made_length σ q ≤ length q.buffer)
  unfolding answer
  tells-length a = go (course σ q)
    where
      go : Course σ q → ((answer σ q).reply.length ≡ made_length σ q) × (made_limited σ q ≡ true) × (made_length σ q ≤ length q.buffer)
      go (through c l b e) = let fits = made_fits fill σ.memory q.buffer l in (ap (λ (d : Decision). d.reply.length) e ∙ sym (made b), made-limit b ∙ fits.0, omega (arith, made b, fits.1))
      go (late c r h b e) = absurd (omega (arith, (tells r).least, ap number e))
      go (early r b e) = absurd (omega (arith, (tells r).least, ap number e))

  told-short : (answer σ q).reply.refusal ≡ 14 → ((blind σ q).reply.refusal ≡ 0) × ((made_limited σ q ≡ false) ⊎ (length q.buffer < made_length σ q))
  unfolding answer decide
  told-short a = go (course σ q)
    where
      go : Course σ q → ((blind σ q).reply.refusal ≡ 0) × ((made_limited σ q ≡ false) ⊎ (length q.buffer < made_length σ q))
      go (through c l b e) = absurd (omega (arith, ap number e))
      go (late c r h b e) = (
        ap number b,
        not_fitting (made_limited σ q) (made_length σ q) (length q.buffer)
            (λ i j.
            let z : pass ≡ stop r = sym (passing (lastly fill σ.memory q.buffer) (fits_made fill σ.memory q.buffer (sym (made-limit b) ∙ i) (omega (arith, made b)))) ∙ h in
            let clash : ◌≡◌ {A = ℕ} 0 1 = cc in
            omega (arith, clash)),
      )
      go (early r b e) =
          let cs = checks (length σ.memory) σ.state σ.table q.request q.buffer in
          absurd
          (not_told 14 (omega arith) cs (late_room (length σ.memory) σ.state σ.table q.request q.buffer)
          (sym (settled-told (verdict cs) σ.state σ.table (grant (length σ.memory) σ.table q.request q.buffer)) ∙ ap number b ∙ sym (ap number e) ∙ a))

  stops-short : (blind σ q).reply.refusal ≡ 0 → (made_limited σ q ≡ false) ⊎ (length q.buffer < made_length σ q) → (answer σ q).reply.refusal ≡ 14
  unfolding answer
  stops-short g long = go (course σ q)
    where
      clash : (made_limited σ q ≡ false) ⊎ (length q.buffer < made_length σ q) → made_limited σ q ≡ true → made_length σ q ≤ length q.buffer → ⊥
      clash (inl h) i j = true≢false (sym i ∙ h)
      clash (inr h) i j = omega arith

      go : Course σ q → (answer σ q).reply.refusal ≡ 14
      go (through c l b e) = let fits = made_fits fill σ.memory q.buffer l in absurd (clash long (made-limit b ∙ fits.0) (omega (arith, made b, fits.1)))
      go (late c r h b e) = ap number e ∙ ap refusal_number (made-stops fill σ.memory q.buffer r h)
      go (early r b e) = absurd (omega (arith, (tells r).least, ap number b))

pub last_of_all : LastOfAll
last_of_all = record { others = as_decided; refused = refused-before; told = tells-length; short = told-short; stops = stops-short }
