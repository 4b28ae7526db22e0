-- Paging out: the ways out of its checks, and what it leaves.
-- Assumes nothing.
use mathlib.Core.Path.{◌≡◌, refl, sym, ap, ◌∙◌}
use mathlib.Core.Bool.{Bool, true, false, not, ◌&&◌, cond}
use mathlib.Core.List.{List, [], ◌∷◌, ◌++◌}
use Rattle.std.specs.Prelude.{Ok, Err, None}
use Prim.Native.Nat.{ℕ, ◌+◌, ◌*◌, ◌/◌, ◌^◌, ◌≤◌, ◌<◌}
use native.Mathlib.Omega.{arith}
use native.Mathlib.Decide.{dec_lt}
use Rattle.std.proofs.Math.Bool.{and-true}
use lib.Dec.{eqb, leb, ltb}
use lib.ListN.{drop, length, replicate, take}
use lib.Seq.{sets}
use borrow.Author.Tests.{eq-eqb, eqb-false, eqb-true, leb-true, lt-ltb, ltb-true, ne_eqb, not-false, not-true}
use Rattle.tokens.specs.Token.{named}
use Rattle.layout.specs.Entry.{dated, entry_of, laid_paged, words_number}
use Rattle.layout.specs.declared.entry.Entry.{Entry}
use Rattle.layout.specs.declared.entry.Words.{Words}
use Rattle.tokens.specs.declared.token.Named.{Named}
use Rattle.tokens.specs.declared.read.Token.{Token}
use Rattle.checks.specs.Holds.{request_holds, settings_hold}
use Rattle.checks.specs.Reached.{reach_verdict}
use Rattle.checks.specs.declared.refusal.Refusal.TheVariants.{Nonces}
use Rattle.checks.proofs.ReachLaws.{reach_in, reached_inside}
use Rattle.machine.specs.Issuing.{issue, new_number, other_nonce}
use Rattle.machine.specs.Operations.{book, fresh, Grant, grant_page_out, named_entry, nothing, number_of, out_of}
use Rattle.machine.specs.Parts.{at, moved, put, size, spent, State}
use Rattle.machine.specs.Requests.{page_out}
use Rattle.machine.specs.Steps.{buffer_after, memory_after, pass, stop, Verdict}
use Rattle.machine.specs.Stops.{at_bounds, at_kind, at_standing, places, sizes}
use Rattle.machine.specs.Writes.{give, opened, reissue, written}
use Rattle.machine.proofs.Decided.{AllTrue, Passed}
use Rattle.machine.proofs.Fuel.{number_first, other-least}
use Rattle.entering.specs.Nonces.{FindsTwo, SoughtTwo}
use Rattle.entering.specs.declared.nonces.Found.{Found}
use Rattle.entering.specs.declared.nonces.FoundTwo.{FoundTwo}
use Rattle.issuing.proofs.WriteLaws.{new_kept}
use Rattle.table.specs.Left.{left_as, left_by}
use Rattle.table.specs.States.{state_as}
use Rattle.table.specs.declared.state.StateWords.{StateWords}
use Rattle.table.proofs.FitLaws.{at_fits}
use Rattle.rulings.specs.Allotments.{allot_verdict, Limits}
use Rattle.rulings.specs.Rulings.{ended, front_on, giving_two, handed, inner_on, ruled, tokens_on}
use Rattle.rulings.proofs.AllotLaws.{limits, new_in}
use Rattle.rulings.proofs.RulingLaws.{front, front-passed, front-tokens, left_effect, left_ruled, request-true, spent-effect, spent-ruled}
use Rattle.segments.proofs.SegmentLaws.{both_hold, leaving}

module _ (m : ℕ) (s : State) (t : List ℕ) (x : Token) (u f c : ℕ) (b : List ℕ) where
  -- place 1, as the code tests it; every page-file number that there is fits
  pub out-request : {set r : Bool} → f < 2 ^ 64 → set ≡ settings_hold m s t → (set && ltb u (2 ^ 55) && leb c 3 && eqb x.named.offset 0) ≡ r → request_holds m s t (page_out x.word u f c) b ≡ r
  unfolding settings_hold request_holds
  out-request page setting h = sym (rw (setting, x.reads, lt-ltb f (2 ^ 64) page, and-true (settings_hold m s t && ltb u (2 ^ 55) && leb c 3))) ∙ h

module _ (m : ℕ) (s : State) (t : List ℕ) (k u f c : ℕ) (b : List ℕ) where
  pub out-limits : request_holds m s t (page_out k u f c) b ≡ true → Limits s t
  out-limits ok =
      let all : AllTrue (sizes m t ++ (places m s t (page_out k u f c) b).request) = request-true m s t (page_out k u f c) b ok in
      limits m s t (search)

  pub out-token : {v : Verdict} → reach_verdict m t k u ≡ v → tokens_on m s t (page_out k u f c) b ≡ v
  unfolding reach_verdict tokens_on
  out-token h = h

  -- places 6 to 9, where the token names e, and the buffer has l bytes
  module _ (e : Entry) (l : ℕ) (here : e ≡ named_entry t k) (long : l ≡ length b) where
    pub idle_kind : (e.kind ≡ 1 → ⊥) → inner_on m s t (page_out k u f c) b ≡ stop at_kind
    unfolding inner_on
    idle_kind h = rw (← here, ne_eqb e.kind 1 h)

    module _ (one : e.kind ≡ 1) where
      pub idle-bounds : (l ≡ e.length → ⊥) → inner_on m s t (page_out k u f c) b ≡ stop at_bounds
      unfolding inner_on
      idle-bounds h = rw (← here, ← long, eq-eqb e.kind 1 one, ne_eqb l e.length h)

      module _ (equal : l ≡ e.length) where
        standing : inner_on m s t (page_out k u f c) b ≡ cond (not e.locked && eqb e.count 0) (allot_verdict s t) (stop at_standing)
        unfolding inner_on allot_verdict
        standing = rw (← here, ← long, eq-eqb e.kind 1 one, eq-eqb l e.length equal) (both_hold (not e.locked) (eqb e.count 0) _ _)

        pub idle_standing : not (not e.locked && eqb e.count 0) ≡ true → inner_on m s t (page_out k u f c) b ≡ stop at_standing
        idle_standing h = standing ∙ rw (not-true (not e.locked && eqb e.count 0) h)

        pub idle-allot : not (not e.locked && eqb e.count 0) ≡ false → inner_on m s t (page_out k u f c) b ≡ allot_verdict s t
        idle-allot h = standing ∙ rw (not-false (not e.locked && eqb e.count 0) h)

-- ---- what a pass says, where the token names n, and its entry is e

pub record Idle (m : ℕ) (s : State) (t : List ℕ) (n : ℕ) (e : Entry) (c : ℕ) (b : List ℕ) : Type 0 where
  pub inside : 32 * n + 32 ≤ length t
  pub small : n < 1024
  pub segment : e.base + e.length ≤ m
  pub long : length b ≡ e.length
  pub rights : e.permissions < 8
  pub encoded : c ≤ 3
  pub next : s.next ≤ spent
  pub new : (32 * new_number s t + 32 ≤ length t) × (new_number s t < 1024)
  pub full : (at t n).kind ≡ 0 → ⊥
  pub apart : n ≡ new_number s t → ⊥

module _ (m : ℕ) (s : State) (t : List ℕ) (k u f c : ℕ) (b : List ℕ) (h : front_on m s t (page_out k u f c) b ≡ pass) where
  named_in : 32 * number_of k + 32 ≤ length t
  unfolding reach_verdict tokens_on
  named_in = reach_in m t k u (front-tokens m s t (page_out k u f c) b h)

  named-idle : Idle m s t (number_of k) (named_entry t k) c b
  unfolding size
  named-idle =
      let all : Passed (front m s t (page_out k u f c) b) = front-passed m s t (page_out k u f c) b h in
      let i : number_of k < length t / 32 = ltb-true _ _ (search) in
      let set : Limits s t = limits m s t (search) in
      let one : (named_entry t k).kind ≡ 1 = eqb-true (named_entry t k).kind 1 (search) in
      let free : (at t (new_number s t)).kind ≡ 0 = (number_first s t (eqb-false _ _ (not-true _ (search)))).free in
      record {
        inside = named_in;
        small = omega (arith, set.most);
        segment = reached_inside m t (number_of k) (search) (search) (search);
        long = eqb-true (length b) (named_entry t k).length (search);
        rights = (at_fits t (number_of k)).permissions;
        encoded = leb-true c 3 (search);
        next = set.left;
        new = new_in s t set (search);
        full = λ z. omega arith;
        apart = λ z. omega (arith, ap (λ (i : ℕ). (at t i).kind) z);
      }

module _ (m : ℕ) (s : State) (t : List ℕ) (x : Token) (u f c : ℕ) (b : List ℕ) (h : front_on m s t (page_out x.word u f c) b ≡ pass) where
  pub out_in : 32 * x.named.number + 32 ≤ length t
  out_in = rw x.reads (named_in m s t x.word u f c b h)

  pub idle : {e : Entry} → e ≡ at t x.named.number → Idle m s t x.named.number e c b
  idle there = rw (there, x.reads) (named-idle m s t x.word u f c b h)

-- ---- what is handed back

-- the token k names n, its entry is e; w and v are what is issued, paged out and zeroed, and new is the new number
pub record Sends (s : StateWords) (t : List ℕ) (k p : ℕ) (n : Named) (e : Entry) (w v new : ℕ) : Type 0 where
  pub is : n ≡ named k
  pub there : e ≡ at t n.number
  pub full : (at t n.number).kind ≡ 0 → ⊥
  pub paged : entry_of w ≡ out_of e p 0
  pub anew : entry_of v ≡ fresh e 0
  pub number : new ≡ new_number (state_as s) t

pub sends : (m : ℕ) (s : StateWords) (t : List ℕ) (x : Token) (u p c : ℕ) (b : List ℕ) {new : ℕ} → (front_on m (state_as s) t (page_out x.word u p c) b ≡ pass) × (new ≡ new_number (state_as s) t)
    → {e : Entry} (w v : Words) → e ≡ at t x.named.number → entry_of (words_number w) ≡ out_of e p 0 → entry_of (words_number v) ≡ fresh e 0
    → Sends s t x.word p x.named e (words_number w) (words_number v) new
sends m s t x u p c b h w v there paged anew = record { is = x.reads; there = there; full = (idle m (state_as s) t x u p c b h.0 there).full; paged = paged; anew = anew; number = h.1 }

module _ {s : StateWords} {t : List ℕ} {k p : ℕ} {n : Named} {e : Entry} {w v new : ℕ} (x : Sends s t k p n e w v new) (c : ℕ) where
  abbrev g : Grant
  g = grant_page_out t (number_of k) p c

  here : e ≡ named_entry t k
  here = rw x.is at x.there

  -- the state and the table that the first issue leaves
  abbrev ν : ℕ
  ν = other_nonce (state_as s) t (number_of k) (out_of (named_entry t k) p)

  abbrev s₁ : State
  s₁ = moved (state_as s) s.last (ν + 1) s.total

  abbrev t₁ : List ℕ
  t₁ = put t (number_of k) (issue (state_as s) (number_of k) (out_of (named_entry t k) p ν))

  next : (book (state_as s) t g).state.next ≡ other_nonce s₁ t₁ (new_number s₁ t₁) (fresh (named_entry t k)) + 1
  next = refl

  -- the new number is sought after it, and is as before it
  kept : ν < spent → new ≡ new_number s₁ t₁
  kept h =
      let first : Found = record { nonce = other_nonce (state_as s) t n.number (dated (entry_of w)); tag = (issue (state_as s) n.number (dated (entry_of w) (other_nonce (state_as s) t n.number (dated (entry_of w))))).tag } in
      let same = new_kept (state_as s) t new n.number c w first (record { nonce = refl; left = rw (x.paged, here, x.is) h; tag = refl }) x.full (rw x.paged (laid_paged refl)) x.number in
      rw (x.paged, here, x.is) at same

  -- there are too few nonces
  module _ (none : SoughtTwo (state_as s) t n.number (entry_of w) new (entry_of v) None) where
    too_few : spent < (book (state_as s) t g).state.next
    too_few = go (dec_lt ν spent)
      where
        go : Dec (ν < spent) → spent < (book (state_as s) t g).state.next
        go (yes i) = let end = none s.last s.total in omega (arith, next, rw (x.paged, x.anew, here, x.is, kept i) at end)
        go (no i) = omega (arith, next, other-least s₁ t₁ (new_number s₁ t₁) (fresh (named_entry t k)))

    pub out-spent : handed s t (Err Nonces) ≡ ruled (ended (state_as s) t g)
    out-spent = spent-ruled s t g too_few

    pub out_stays : (ended (state_as s) t g).effect ≡ nothing
    out_stays = spent-effect (state_as s) t g too_few

  -- or they are those of f
  module _ {f : FoundTwo} (found : FindsTwo (state_as s) t n.number (entry_of w) new (entry_of v) f) where
    enough : (book (state_as s) t g).state.next ≤ spent
    enough =
        let first : f.first.nonce ≡ ν = found.one.nonce ∙ rw (x.paged, here, x.is) in
        let second = found.two s.last s.total in
        let low : ν < spent = rw first at found.one.left in
        omega (arith, next, second.left, rw (x.paged, x.anew, here, x.is, first, kept low) at second.nonce)

    pub out-grants : {s' : StateWords} {t' : List ℕ} {i j : ℕ} → left_as s' t' (i ∷ j ∷ []) ≡ left_by (written c (opened (state_as s) t) (reissue n.number (dated (entry_of w)) ∷ give (dated (entry_of v)) ∷ []))
        → handed s' t' (Ok (giving_two i j)) ≡ ruled (ended (state_as s) t g)
    out-grants left = left_ruled (state_as s) t g enough _ (ap leaving left ∙ rw (x.paged, x.anew, x.there, x.is))

    pub out_clears : (memory memory' : List ℕ) → memory' ≡ sets memory e.base (replicate e.length 0) → memory' ≡ memory_after (ended (state_as s) t g).effect memory
    out_clears memory memory' cleared = cleared ∙ rw (left_effect (state_as s) t g enough, x.there, x.is)

    pub out_fills : (memory buffer buffer' : List ℕ) → buffer' ≡ take e.length (drop e.base memory) → buffer' ≡ buffer_after (ended (state_as s) t g).effect memory buffer
    out_fills memory buffer buffer' filled = filled ∙ rw (left_effect (state_as s) t g enough, x.there, x.is)
