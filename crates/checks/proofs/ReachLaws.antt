-- Places 2 to 5: a law for each way out.
-- Assumes nothing.
use mathlib.Core.Path.{◌≡◌, refl, sym, ◌∙◌, ap, subst}
use mathlib.Core.Bool.{Bool, true, false, not, ◌&&◌, cond}
use mathlib.Core.List.{List, [], ◌∷◌}
use Rattle.std.specs.Prelude.{Result, Ok}
use Prim.Native.Nat.{ℕ, ◌+◌, ◌*◌, ◌/◌, ◌≤◌, ◌<◌}
use native.Mathlib.Omega.{arith}
use lib.Dec.{eqb, ltb}
use lib.ListN.{length}
use borrow.Author.Tests.{eq-eqb, eqb-true, le-ltb, lt-ltb, ltb-true, ne_eqb}
use Rattle.tokens.specs.Token.{named}
use Rattle.layout.specs.Form.{ill_formed}
use Rattle.layout.specs.declared.entry.Entry.{Entry}
use Rattle.tokens.specs.declared.token.Named.{Named}
use Rattle.machine.specs.Line.{bad_of, dead, ill, is_ill, is_locked, is_paged, itself, Line, line_of, owner, owner_of, paged_out, walk}
use Rattle.machine.specs.Operations.{named_entry, number_of}
use Rattle.machine.specs.Parts.{at, size}
use Rattle.machine.specs.Steps.{pass, stop, Verdict, verdict}
use Rattle.machine.specs.Stops.{at_entry, at_form, at_line, at_lock, at_paged, Check, entry_named, formed, is_named, line_alive, line_formed, live, lock_open, not_paged, Refusal, refusal_number}
use Rattle.machine.proofs.Basics.{present, range}
use Rattle.machine.proofs.Decided.{passed}
use Rattle.machine.proofs.Fuel.{line_formed_lem, walk-owner}
use Rattle.table.proofs.LineLaws.{own_owner}
use Rattle.checks.specs.Holds.{named_holds, ReadAs}
use Rattle.checks.specs.Reached.{formed_verdict, live_verdict, Near, page_verdict, Reaches, reach_verdict}
use Rattle.checks.specs.declared.refusal.Refusal as code
use Rattle.checks.proofs.VerdictLaws.{all_pass, all_stop, first_passes, first_stops, parts-pass}

-- the number that a verdict tells, 0 for a pass
number_in : Verdict → ℕ
number_in pass = 0
number_in (stop r) = refusal_number r

-- ---- place 2

module _ (t : List ℕ) (k n g : ℕ) (is : ReadAs k n g) where
  pub entry_in : (e : Entry) → e ≡ at t n → n < length t / 32 → (not (eqb e.kind 0) && eqb e.tag g) ≡ named_holds t k
  unfolding size named_holds
  entry_in e q h = rw (q, is.tagged, ← is.numbered, lt-ltb n (length t / 32) h)

  pub entry-out : length t / 32 ≤ n → false ≡ named_holds t k
  unfolding size named_holds
  entry-out h = rw (← is.numbered, le-ltb n (length t / 32) h)

-- a token that is read as n is read as n's number and tag
pub read_as : (k : ℕ) (n : Named) → n ≡ named k → ReadAs k n.number n.tag
read_as k n is = record { numbered = ap (λ (x : Named). x.number) is; tagged = ap (λ (x : Named). x.tag) is }

-- what is so of the entry of number n is so of the one that the token k names
module _ (k : ℕ) (n : Named) (is : n ≡ named k) where
  pub unpaged : (t : List ℕ) {b : Bool} → b ≡ is_paged (at t n.number) → is_paged (named_entry t k) ≡ b
  unpaged t h = sym (h ∙ ap (λ (x : Named). is_paged (at t x.number)) is)

  pub ill_named : (m : ℕ) (t : List ℕ) (e : Entry) {b : Bool} → e ≡ at t n.number → b ≡ ill_formed m e → ill_formed m (named_entry t k) ≡ b
  ill_named m t e q h = sym (h ∙ ap (ill_formed m) q ∙ ap (λ (x : Named). ill_formed m (at t x.number)) is)

-- an entry that is named stands in the table
pub size_in : (t : List ℕ) (n : ℕ) → ltb n (size t) ≡ true → 32 * n + 32 ≤ length t
unfolding size
size_in t n h = let i : n < length t / 32 = ltb-true _ _ h in omega arith

module _ (m : ℕ) (t : List ℕ) (k : ℕ) where
  -- ---- places 2 to 4

  abbrev line : Line
  line = line_of m t (number_of k)

  formed_first : (r : Refusal) → formed_verdict m t k ≡ stop r → live_verdict m t k ≡ stop r
  unfolding formed_verdict live_verdict
  formed_first r h = first_stops (formed m t k) (line_alive m t k ∷ []) h

  formed-named : named_holds t k ≡ false → formed_verdict m t k ≡ stop at_entry
  unfolding formed_verdict named_holds
  formed-named h = first_stops (entry_named t k) (not_paged t k ∷ line_formed m t k ∷ []) (all_stop at_entry (is_named t k) h)

  pub live-named : named_holds t k ≡ false → live_verdict m t k ≡ stop at_entry
  live-named h = formed_first at_entry (formed-named h)

  formed-paged : named_holds t k ≡ true → is_paged (named_entry t k) ≡ true → formed_verdict m t k ≡ stop at_paged
  unfolding formed_verdict named_holds
  formed-paged there out = first_passes (entry_named t k) (not_paged t k ∷ line_formed m t k ∷ []) (all_pass at_entry (is_named t k) there) ∙ rw out

  pub live-paged : named_holds t k ≡ true → is_paged (named_entry t k) ≡ true → live_verdict m t k ≡ stop at_paged
  live-paged there out = formed_first at_paged (formed-paged there out)

  module _ (there : named_holds t k ≡ true) (here : is_paged (named_entry t k) ≡ false) where
    form : formed_verdict m t k ≡ verdict (line_formed m t k ∷ [])
    unfolding formed_verdict named_holds
    form = first_passes (entry_named t k) (not_paged t k ∷ line_formed m t k ∷ []) (all_pass at_entry (is_named t k) there) ∙ rw here

    -- a line that does not begin at a paged entry does not end at one
    not_out : (o : ℕ) → line ≡ paged_out o → ⊥
    unfolding named_holds
    not_out o e =
        let full = (passed (entry_named t k) (all_pass at_entry (is_named t k) there)).1.0 in
        let ends : line ≡ owner (owner_of line) = walk-owner _ m t (number_of k) (present (named_entry t k) full (ap not here)) (rw e (refl, refl)) in
        let out : paged_out o ≡ owner (owner_of line) = sym e ∙ ends in
        let z : ◌≡◌ {A = ℕ} 0 1 = cc in
        absurd (omega arith)

    alive : formed_verdict m t k ≡ pass → live_verdict m t k ≡ verdict (line_alive m t k ∷ [])
    unfolding formed_verdict live_verdict
    alive h = first_passes (formed m t k) (line_alive m t k ∷ []) h

    pub live-ill : (i : ℕ) → line ≡ ill i → live_verdict m t k ≡ stop (at_form (bad_of (number_of k) (ill i)))
    live-ill i l = formed_first (at_form (bad_of (number_of k) (ill i))) (form ∙ rw l)

    pub live-dead : (d : ℕ) → line ≡ dead d → live_verdict m t k ≡ stop (at_line (bad_of (number_of k) (dead d)))
    live-dead d l = alive (form ∙ rw l) ∙ rw l

    pub live-owner : (o : ℕ) → line ≡ owner o → live_verdict m t k ≡ pass
    live-owner o l = alive (form ∙ rw l) ∙ rw l

  -- ---- places 2 and 3 alone: what is known of places 2 to 4 tells them, and a dead line, which is refusal 4, passes

  pub formed-dead : (r : Refusal) → refusal_number r ≡ 4 → live_verdict m t k ≡ stop r → (formed_verdict m t k ≡ pass) × (false ≡ is_locked t line)
  unfolding number_in
  formed-dead r n h = go (named_holds t k) refl (is_paged (named_entry t k)) refl line refl
    where
      other : (v : Verdict) → live_verdict m t k ≡ v → number_in v ≡ 4
      other v e = ap number_in (sym e ∙ h) ∙ n

      go : (b : Bool) → named_holds t k ≡ b → (p : Bool) → is_paged (named_entry t k) ≡ p → (l : Line) → line ≡ l → (formed_verdict m t k ≡ pass) × (false ≡ is_locked t line)
      go false q p i l e = absurd (omega (arith, other _ (live-named q)))
      go true q true i l e = absurd (omega (arith, other _ (live-paged q i)))
      go true q false i (owner o) e = absurd (omega (arith, other _ (live-owner q i o e)))
      go true q false i (paged_out o) e = absurd (not_out q i o e)
      go true q false i (ill k) e = absurd (omega (arith, other _ (live-ill q i k e)))
      go true q false i (dead d) e = (form q i ∙ rw e, rw e)

  pub formed-stop : (r : Refusal) → (refusal_number r ≡ 4 → ⊥) → live_verdict m t k ≡ stop r → formed_verdict m t k ≡ stop r
  unfolding number_in
  formed-stop r n h = go (named_holds t k) refl (is_paged (named_entry t k)) refl line refl
    where
      go : (b : Bool) → named_holds t k ≡ b → (p : Bool) → is_paged (named_entry t k) ≡ p → (l : Line) → line ≡ l → formed_verdict m t k ≡ stop r
      go false q p i l e = formed-named q ∙ sym (live-named q) ∙ h
      go true q true i l e = formed-paged q i ∙ sym (live-paged q i) ∙ h
      go true q false i (owner o) e = let d : pass ≡ stop r = sym (live-owner q i o e) ∙ h in let z : ◌≡◌ {A = ℕ} 0 1 = cc in absurd (omega arith)
      go true q false i (paged_out o) e = absurd (not_out q i o e)
      go true q false i (ill k) e = (form q i ∙ rw e) ∙ sym (live-ill q i k e) ∙ h
      go true q false i (dead d) e = absurd (n (ap number_in (sym h ∙ live-dead q i d e)))

  pub live_is_formed : live_verdict m t k ≡ pass → formed_verdict m t k ≡ pass
  unfolding formed_verdict live_verdict
  live_is_formed h = (parts-pass (formed m t k) (line_alive m t k ∷ []) h).0

  -- ---- place 5

  module _ (u : ℕ) where
    pub reach-stop : (r : Refusal) → live_verdict m t k ≡ stop r → reach_verdict m t k u ≡ stop r
    unfolding reach_verdict live_verdict
    reach-stop r h = first_stops (live m t k) (lock_open m t k u ∷ []) h

    lock : (o : ℕ) (e : Entry) → live_verdict m t k ≡ pass → line_of m t (number_of k) ≡ owner o → e ≡ at t o
        → reach_verdict m t k u ≡ cond (not (e.locked && not (eqb e.holder u))) pass (stop at_lock)
    unfolding reach_verdict live_verdict
    lock o e h l q = first_passes (live m t k) (lock_open m t k u ∷ []) h ∙ rw (l, q)

    pub reach-locked : (o : ℕ) (e : Entry) → live_verdict m t k ≡ pass → line_of m t (number_of k) ≡ owner o → e ≡ at t o
        → (e.locked && not (eqb e.holder u)) ≡ true → reach_verdict m t k u ≡ stop at_lock
    reach-locked o e h l q z = lock o e h l q ∙ rw z

    pub reach_open : (o : ℕ) (e : Entry) → live_verdict m t k ≡ pass → line_of m t (number_of k) ≡ owner o → e ≡ at t o
        → (e.locked && not (eqb e.holder u)) ≡ false → reach_verdict m t k u ≡ pass
    reach_open o e h l q z = lock o e h l q ∙ rw z

  -- ---- a token that may name a paged entry

  abbrev onward : (u : ℕ) → List Check
  onward u = line_formed m t k ∷ line_alive m t k ∷ lock_open m t k u ∷ []

  module _ (u : ℕ) where
    pub page-named : named_holds t k ≡ false → page_verdict m t k u ≡ stop at_entry
    unfolding page_verdict named_holds
    page-named h = first_stops (entry_named t k) (onward u) (all_stop at_entry (is_named t k) h)

    module _ (there : named_holds t k ≡ true) where
      page_on : page_verdict m t k u ≡ verdict (onward u)
      unfolding page_verdict named_holds
      page_on = first_passes (entry_named t k) (onward u) (all_pass at_entry (is_named t k) there)

      -- it names one, which is ill-formed or not
      pub page-ill : is_paged (named_entry t k) ≡ true → ill_formed m (named_entry t k) ≡ true → page_verdict m t k u ≡ stop (at_form itself)
      unfolding walk
      page-ill out bad = page_on ∙ rw (bad, eq-eqb (number_of k) (number_of k) refl)

      pub page_out_lem : is_paged (named_entry t k) ≡ true → ill_formed m (named_entry t k) ≡ false → page_verdict m t k u ≡ pass
      unfolding walk
      page_out_lem out formed = page_on ∙ rw (formed, eqb-true (named_entry t k).kind 3 out)

      -- or another, which goes as with any request
      pub page-other : is_paged (named_entry t k) ≡ false → page_verdict m t k u ≡ reach_verdict m t k u
      unfolding reach_verdict named_holds
      page-other here = page_on ∙ sym (first_passes (entry_named t k) (not_paged t k ∷ onward u) (all_pass at_entry (is_named t k) there) ∙ rw here)

  -- ---- what a token that passes says

  pub formed_in : formed_verdict m t k ≡ pass → 32 * number_of k + 32 ≤ length t
  unfolding formed_verdict
  formed_in h = size_in t (number_of k) (passed (formed m t k) h).0

  pub live_in : live_verdict m t k ≡ pass → 32 * number_of k + 32 ≤ length t
  unfolding formed_verdict live_verdict
  live_in h = formed_in (parts-pass (formed m t k) (line_alive m t k ∷ []) h).0

  pub reach_is_live : (u : ℕ) → reach_verdict m t k u ≡ pass → live_verdict m t k ≡ pass
  unfolding reach_verdict live_verdict
  reach_is_live u h = (parts-pass (live m t k) (lock_open m t k u ∷ []) h).0

  pub reach_in : (u : ℕ) → reach_verdict m t k u ≡ pass → 32 * number_of k + 32 ≤ length t
  reach_in u h = live_in (reach_is_live u h)

-- an entry that is there and not ill-formed lies in memory
pub reached_inside : (m : ℕ) (t : List ℕ) (n : ℕ) → not (eqb (at t n).kind 0) ≡ true → not (is_paged (at t n)) ≡ true → not (is_ill (line_of m t n)) ≡ true → (at t n).base + (at t n).length ≤ m
reached_inside m t n full here formed = (range m (at t n) (present (at t n) full here) (line_formed_lem m t n formed)).1

-- what a token came to is known of a verdict that is the same
pub reaches_as : (t : List ℕ) (r : Result ℕ code.Refusal) (l : Line) (v w : Verdict) → w ≡ v → Reaches t r v l → Reaches t r w l
reaches_as t r l v w e h = subst (λ (x : Verdict). Reaches t r x l) (sym e) h

-- ---- a direct, well-formed entry is its own owner

module _ (m : ℕ) (t : List ℕ) (k : ℕ) (n : Named) (is : n ≡ named k) (h : Near m t n) where
  near-named : named_holds t k ≡ true
  near-named =
      let one = h.direct in
      sym (entry_in t k n.number n.tag (read_as k n is) (at t n.number) refl h.inside)
      ∙ rw (ne_eqb (at t n.number).kind 0 (λ q. absurd (omega (arith, one, q))), eq-eqb (at t n.number).tag n.tag h.tagged)

  near-line : line_of m t (number_of k) ≡ owner n.number
  near-line = ap (λ (x : Named). line_of m t x.number) (sym is) ∙ sym (own_owner m t n.number (at t n.number) false refl (sym h.formed) refl h.direct)

  near-here : is_paged (named_entry t k) ≡ false
  near-here =
      let one = h.direct in
      subst (λ (x : Named). is_paged (at t x.number) ≡ false) is (ne_eqb (at t n.number).kind 3 (λ q. absurd (omega (arith, one, q))))

  pub near_reaches : Reaches t (Ok n.number) (live_verdict m t k) (line_of m t (number_of k))
  near_reaches = let i = h.inside in (live-owner m t k near-named near-here n.number near-line, (near-line, omega arith))
