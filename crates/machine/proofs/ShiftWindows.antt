-- Shift windows: an access between its other checks, and one without leases.
-- Assumes nothing.
use mathlib.Core.Path.{◌≡◌, refl, sym, ap, ◌∙◌}
use mathlib.Core.Logic.{◌⊎◌, inl, inr}
use mathlib.Core.Bool.{Bool, true, false, true≢false}
use mathlib.Core.List.{List, [], ◌∷◌, ◌++◌, append_assoc}
use Prim.Native.Nat.{ℕ, ◌*◌, ◌/◌, ◌%◌, ◌<◌, ◌≤◌}
use native.Mathlib.Omega.{arith}
use lib.ListN.{length}
use borrow.Author.Tests.{eq-eqb, eqb-false, eqb-true, le-leb, leb-true, lt-ltb, ltb-true, not-true}
use Rattle.bits.proofs.TestLaws.{both}
use Rattle.leases.specs.Lease.{all_sound, first_leases, is_open, leases_of, week}
use Rattle.leases.specs.Windows.{Admits, Without}
use Rattle.leases.proofs.Windows.{all_sound_lem, opens}
use Rattle.tokens.specs.Token.{named}
use Rattle.machine.specs.Operations.{Grant, grant, number_of}
use Rattle.machine.specs.Parts.{State}
use Rattle.machine.specs.Requests.{Access, accessing, clone, create, derive, dumping, execute_only, loading, lock, look, merge, moving, no_shift, page_in, page_out, release, Request, reset, revoke, Shift, unlock}
use Rattle.machine.specs.ShiftWindows.{accesses, AsBefore, before, bringing, InShifts, Leaseless, Shut, Unsound, Windows, Within}
use Rattle.machine.specs.Steps.{decide, finished, pass, settle, stop, Verdict, verdict}
use Rattle.machine.specs.Stops.{at_request, Check, checks, in_order, leased, leases_sound, need_all, nonces_left, Places, Refusal, refusal_number, shift_fits, sizes, unleased, window_open}
use Rattle.machine.proofs.Choices.{by_cond}
use Rattle.machine.proofs.Decided.{accepted, AllTrue, and_then, answered, need_all_lem, needed, not_told, Passed, passed-split, passing, spared, told, true-split, verdict_append}

-- ---- what is judged besides

-- it holds for the token k
pub record Held (φ : Shift) (k : ℕ) : Type 0 where
  pub fits : AllTrue (shift_fits φ)
  pub sound : (leases_sound φ).holds ≡ true
  pub opened : (window_open φ k).holds ≡ true

-- and is what the paper asks
held-within : (φ : Shift) (k : ℕ) → Held φ k → Within φ k
held-within φ k h =
    let zero : length φ.leases % 8 ≡ 0 = eqb-true (length φ.leases % 8) 0 h.fits.0 in
    record {
      whole = (length φ.leases / 8, omega arith);
      few = leb-true (length φ.leases) 512 h.fits.1.0;
      minute = ltb-true φ.minute week h.fits.1.1.0;
      sound = (all_sound_lem (leases_of φ.leases)).each h.sound;
      opened = (opens (leases_of φ.leases) (number_of k) (named k).tag φ.minute).only h.opened;
    }

-- a token without a lease, or with an open one, is open
open_by : (φ : Shift) (k : ℕ) → Without (leases_of φ.leases) (number_of k) (named k).tag ⊎ Admits (leases_of φ.leases) (number_of k) (named k).tag φ.minute → (window_open φ k).holds ≡ true
open_by φ k (inl w) = (opens (leases_of φ.leases) (number_of k) (named k).tag φ.minute).without w
open_by φ k (inr a) = (opens (leases_of φ.leases) (number_of k) (named k).tag φ.minute).any a

pub within_held : (φ : Shift) (k : ℕ) → Within φ k → Held φ k
within_held φ k h =
    let n : ℕ = h.whole.0 in
    let long : length φ.leases ≡ 8 * n = h.whole.1 in
    record {
      fits = (eq-eqb (length φ.leases % 8) 0 (omega arith), (le-leb (length φ.leases) 512 h.few, (lt-ltb φ.minute week h.minute, tt)));
      sound = (all_sound_lem (leases_of φ.leases)).all h.sound;
      opened = open_by φ k h.opened;
    }

-- no lease, at a minute of the week
held_none : (φ : Shift) (k : ℕ) → φ.leases ≡ [] → φ.minute < week → Held φ k
unfolding all_sound is_open leases_of first_leases
held_none φ k e h = record { fits = (rw e, (rw e, (lt-ltb φ.minute week h, tt))); sound = rw e; opened = rw e }

-- ---- verdicts

-- of lists that have the same verdicts, one after the other
joined : (xs ys zs ws : List Check) → verdict xs ≡ verdict ys → verdict zs ≡ verdict ws → verdict (xs ++ zs) ≡ verdict (ys ++ ws)
joined xs ys zs ws e f = verdict_append xs zs ∙ rw (e, f) (sym (verdict_append ys ws))

-- of one with checks behind it that pass
tail-passes : (xs ys : List Check) → verdict ys ≡ pass → verdict (xs ++ ys) ≡ verdict xs
tail-passes xs ys h = verdict_append xs ys ∙ rw h (same (verdict xs))
  where
    same : (v : Verdict) → and_then v pass ≡ v
    same pass = refl
    same (stop r) = refl

need_append : (r : Refusal) (xs ys : List Bool) → need_all r (xs ++ ys) ≡ need_all r xs ++ need_all r ys
need_append r [] ys = refl
need_append r (x ∷ xs) ys = rw (need_append r xs ys)

-- if one check of a list alone has the number that is told, those before it passed, and it did not
only-told : (n : ℕ) → 1 ≤ n → (xs : List Check) (c : Check) (ys : List Check) → spared n xs ≡ true → spared n ys ≡ true → told (verdict (xs ++ (c ∷ ys))) ≡ n → Passed xs × (c.holds ≡ false)
only-told n l [] c ys g h = by_cond (λ (v : Verdict). told v ≡ n → Unit {0} × (c.holds ≡ false)) c.holds (λ e k. absurd (not_told n l ys h k)) (λ e k. (tt, e))
only-told n l (x ∷ xs) c ys g h =
    let ab = both _ _ g in
    by_cond (λ (v : Verdict). told v ≡ n → Passed (x ∷ xs) × (c.holds ≡ false)) x.holds
    (λ e k. let r = only-told n l xs c ys ab.1 h k in ((e, r.0), r.1))
    (λ e k. absurd (eqb-false (refusal_number x.refusal) n (not-true _ ab.0) k))

-- ---- the checks of a request, with the shift's among them

module _ (m : ℕ) (s : State) (t : List ℕ) (g : Grant) (φ : Shift) (k : ℕ) (p : Places) where
  abbrev one : List Bool
  one = sizes m t ++ p.request

  abbrev left : List Check
  left = p.rest ++ (nonces_left s t g ∷ [])

  abbrev sound : List Check
  sound = leases_sound φ ∷ []

  abbrev opened : List Check
  opened = window_open φ k ∷ []

  abbrev plain : List Check
  plain = in_order m s t g p

  abbrev full : List Check
  full = in_order m s t g (leased φ k p)

  -- where they pass, the shift's hold
  shift_held : Passed full → Held φ k
  shift_held h =
      let a = passed-split (need_all at_request (sizes m t ++ (p.request ++ shift_fits φ))) (((p.after ++ sound) ++ (p.tokens ++ opened)) ++ left) h in
      let c = passed-split (p.after ++ sound) (p.tokens ++ opened) (passed-split ((p.after ++ sound) ++ (p.tokens ++ opened)) left a.1).0 in
      let f = true-split (sizes m t) (p.request ++ shift_fits φ) (needed at_request (sizes m t ++ (p.request ++ shift_fits φ)) a.0) in
      record { fits = (true-split p.request (shift_fits φ) f.1).1; sound = (passed-split p.after sound c.0).1.0; opened = (passed-split p.tokens opened c.1).1.0 }

  -- 16 is told of an unsound lease alone, and 15 of a closed token
  abbrev first : List Check
  first = need_all at_request (sizes m t ++ (p.request ++ shift_fits φ)) ++ p.after

  abbrev asked : List Check
  asked = need_all at_request (sizes m t ++ (p.request ++ shift_fits φ))

  -- its checks, with 16 in their middle, and with 15
  by_lease : full ≡ first ++ (leases_sound φ ∷ ((p.tokens ++ opened) ++ left))
  by_lease =
      ap (λ (cs : List Check). asked ++ cs) (append_assoc (p.after ++ sound) (p.tokens ++ opened) left ∙ append_assoc p.after sound ((p.tokens ++ opened) ++ left))
      ∙ sym (append_assoc asked p.after (leases_sound φ ∷ ((p.tokens ++ opened) ++ left)))

  lease-told : spared 16 first ≡ true → spared 16 ((p.tokens ++ opened) ++ left) ≡ true → told (verdict full) ≡ 16 → Unsound φ
  lease-told g h k all =
      true≢false (sym ((all_sound_lem (leases_of φ.leases)).all all) ∙ (only-told 16 (omega arith) first (leases_sound φ) ((p.tokens ++ opened) ++ left) g h (ap (λ (cs : List Check). told (verdict cs)) (sym by_lease) ∙ k)).1)

  abbrev early : List Check
  early = first ++ (sound ++ p.tokens)

  by_window : full ≡ early ++ (window_open φ k ∷ left)
  by_window = by_lease ∙ ap (λ (cs : List Check). first ++ (leases_sound φ ∷ cs)) (append_assoc p.tokens opened left) ∙ sym (append_assoc first (leases_sound φ ∷ p.tokens) (window_open φ k ∷ left))

  window_told : spared 15 early ≡ true → spared 15 left ≡ true → told (verdict full) ≡ 15 → Shut φ k
  window_told g h e =
      let r = only-told 15 (omega arith) early (window_open φ k) left g h (ap (λ (cs : List Check). told (verdict cs)) (sym by_window) ∙ e) in
      record {
        sound = (all_sound_lem (leases_of φ.leases)).each (passed-split first (sound ++ p.tokens) r.0).1.0;
        shut = λ o. true≢false (sym (open_by φ k o) ∙ r.1);
      }

  -- and where the shift's hold the others decide
  same_verdict : Held φ k → verdict full ≡ verdict plain
  same_verdict x =
      let facts : need_all at_request (sizes m t ++ (p.request ++ shift_fits φ)) ≡ need_all at_request one ++ need_all at_request (shift_fits φ) =
      ap (need_all at_request) (sym (append_assoc (sizes m t) p.request (shift_fits φ))) ∙ need_append at_request one (shift_fits φ) in
      let request : verdict (need_all at_request (sizes m t ++ (p.request ++ shift_fits φ))) ≡ verdict (need_all at_request one) =
      ap verdict facts ∙ tail-passes (need_all at_request one) (need_all at_request (shift_fits φ)) (passing (need_all at_request (shift_fits φ)) (need_all_lem at_request (shift_fits φ) x.fits)) in
      let tokens : verdict ((p.after ++ sound) ++ (p.tokens ++ opened)) ≡ verdict (p.after ++ p.tokens) =
      joined (p.after ++ sound) p.after (p.tokens ++ opened) p.tokens (tail-passes p.after sound (passing sound (x.sound, tt))) (tail-passes p.tokens opened (passing opened (x.opened, tt))) in
      joined (need_all at_request (sizes m t ++ (p.request ++ shift_fits φ))) (need_all at_request one) (((p.after ++ sound) ++ (p.tokens ++ opened)) ++ left) ((p.after ++ p.tokens) ++ left) request
      (joined ((p.after ++ sound) ++ (p.tokens ++ opened)) (p.after ++ p.tokens) left left tokens refl)

-- ---- each request

-- what was judged before does not look at a shift
blind : (m : ℕ) (s : State) (t : List ℕ) {q r : Request} {k : ℕ} {φ ψ : Shift} → InShifts q r k φ ψ → (b : List ℕ) → before m s t q b ≡ before m s t r b
blind m s t accesses b = refl

-- an access that its shift lets through is decided as before
through : (m : ℕ) (s : State) (t : List ℕ) {q r : Request} {k : ℕ} {φ ψ : Shift} → InShifts q r k φ ψ → (b : List ℕ) → Held φ k → decide m s t q b ≡ before m s t q b
unfolding decide
through m s t (accesses {w = w} {k = k} {u = u} {φ = φ}) b h =
    let g : Grant = grant m t (accessing w k u φ) b in
    ap (λ (v : Verdict). settle v s t g) (same_verdict m s t g φ k (unleased m s t (accessing w k u φ) b) h)

-- one that passes its checks was let through
held_by : (m : ℕ) (s : State) (t : List ℕ) {q r : Request} {k : ℕ} {φ ψ : Shift} → InShifts q r k φ ψ → (b : List ℕ) → Passed (checks m s t q b) → Held φ k
held_by m s t (accesses {w = w} {k = k} {u = u} {φ = φ}) b h = shift_held m s t (grant m t (accessing w k u φ) b) φ k (unleased m s t (accessing w k u φ) b) h

-- none of the other checks tells 15 or 16, of whichever kind
kind_spared : (m : ℕ) (s : State) (t : List ℕ) (w : Access) (k u : ℕ) (φ : Shift) (b : List ℕ)
    → let g = grant m t (accessing w k u φ) b in
    let p = unleased m s t (accessing w k u φ) b in
    (spared 15 (early m s t g φ k p) ≡ true) × (spared 15 (left m s t g φ k p) ≡ true) × (spared 16 (first m s t g φ k p) ≡ true) × (spared 16 ((p.tokens ++ opened m s t g φ k p) ++ left m s t g φ k p) ≡ true)
kind_spared m s t (moving w) k u φ b = (refl, refl, refl, refl)
kind_spared m s t loading k u φ b = (refl, refl, refl, refl)
kind_spared m s t dumping k u φ b = (refl, refl, refl, refl)

-- and what it is told
closed_by : (m : ℕ) (s : State) (t : List ℕ) {q r : Request} {k : ℕ} {φ ψ : Shift} → InShifts q r k φ ψ → (b : List ℕ) → told (verdict (checks m s t q b)) ≡ 15 → Shut φ k
closed_by m s t (accesses {w = w} {k = k} {u = u} {φ = φ}) b = window_told m s t (grant m t (accessing w k u φ) b) φ k (unleased m s t (accessing w k u φ) b) (kind_spared m s t w k u φ b).0 (kind_spared m s t w k u φ b).1

unsound_by : (m : ℕ) (s : State) (t : List ℕ) {q r : Request} {k : ℕ} {φ ψ : Shift} → InShifts q r k φ ψ → (b : List ℕ) → told (verdict (checks m s t q b)) ≡ 16 → Unsound φ
unsound_by m s t (accesses {w = w} {k = k} {u = u} {φ = φ}) b = lease-told m s t (grant m t (accessing w k u φ) b) φ k (unleased m s t (accessing w k u φ) b) (kind_spared m s t w k u φ b).2 (kind_spared m s t w k u φ b).3

turned_round : {q r : Request} {k : ℕ} {φ ψ : Shift} → InShifts q r k φ ψ → InShifts r q k ψ φ
turned_round accesses = accesses

pub windows : Windows
windows = record {
  granted = λ σ {q} {r} {k} {φ} a b ok. held-within φ k (held_by (length σ.memory) σ.state σ.table a b (accepted σ (bringing q b) ok).0);
  closed = λ σ {q} {r} {k} {φ} a b e. closed_by (length σ.memory) σ.state σ.table a b (answered σ (bringing q b) 15 (omega arith) (omega arith) e);
  unsound = λ σ {q} {r} {k} {φ} a b e. unsound_by (length σ.memory) σ.state σ.table a b (answered σ (bringing q b) 16 (omega arith) (omega arith) e);
  within = λ σ {q} {r} {k} {φ} a b w.
      let m : ℕ = length σ.memory in
      ap (finished σ.state σ.table σ.memory b)
      (through m σ.state σ.table a b (within_held φ k w)
      ∙ blind m σ.state σ.table a b
      ∙ sym (through m σ.state σ.table (turned_round a) b (held_none no_shift k refl (omega arith))));
}

-- ---- without leases

pub as_before : AsBefore
unfolding decide
as_before = record { decided = λ m s t q b. by m s t b q; blind = λ m s t a b. blind m s t a b }
  where
    by : (m : ℕ) (s : State) (t b : List ℕ) (q : Request) → Leaseless q → decide m s t q b ≡ before m s t q b
    by m s t b (reset k0 k1 ν) h = refl
    by m s t b (accessing w k u φ) h = let a = accesses {w = w} {k = k} {u = u} {φ = φ} {ψ = no_shift} in let n = h _ _ _ a in through m s t a b (held_none φ k n.0 n.1)
    by m s t b (create k u l x p c) h = refl
    by m s t b (merge j k u c) h = refl
    by m s t b (derive k o l p c) h = refl
    by m s t b (execute_only k c) h = refl
    by m s t b (clone k) h = refl
    by m s t b (release k) h = refl
    by m s t b (lock k u) h = refl
    by m s t b (unlock k u) h = refl
    by m s t b (revoke k c) h = refl
    by m s t b (page_out k u f c) h = refl
    by m s t b (page_in j k u c) h = refl
    by m s t b (look v) h = refl
