-- Paging in: the ways out of its checks, and what it leaves.
-- Assumes nothing.
use mathlib.Core.Path.{◌≡◌, ap, sym, ◌∙◌}
use mathlib.Core.Bool.{Bool, true, false, not, ◌&&◌, cond}
use mathlib.Core.List.{List, [], ◌∷◌}
use Rattle.std.specs.Prelude.{Ok, Err, None}
use Prim.Native.Nat.{ℕ, ◌+◌, ◌*◌, ◌/◌, ◌^◌, ◌≤◌, ◌<◌}
use native.Mathlib.Omega.{arith}
use lib.Dec.{eqb, leb, ltb}
use lib.ListN.{length}
use lib.Seq.{sets}
use borrow.Author.Tests.{eqb-true, leb-true, ltb-true}
use Rattle.entering.specs.Nonces.{Finds, Sought}
use Rattle.entering.specs.declared.nonces.Found.{Found}
use Rattle.layout.specs.Entry.{dated}
use Rattle.layout.specs.declared.entry.Entry.{Entry}
use Rattle.tokens.specs.declared.token.Named.{Named}
use Rattle.tokens.specs.declared.read.Token.{Token}
use Rattle.checks.specs.Holds.{request_holds, settings_hold}
use Rattle.checks.specs.Reached.{page_verdict}
use Rattle.checks.specs.declared.refusal.Refusal.TheVariants.{Nonces}
use Rattle.checks.proofs.ReachLaws.{reached_inside, size_in}
use Rattle.checks.proofs.VerdictLaws.{first_passes, first_stops, parts-pass}
use Rattle.machine.specs.Line.{is_paged}
use Rattle.machine.specs.Operations.{book, Grant, grant_page_in, in_of, named_entry, number_of}
use Rattle.machine.specs.Parts.{at, most_free, size, spent, State}
use Rattle.machine.specs.Requests.{page_in}
use Rattle.machine.specs.Steps.{memory_after, pass, stop}
use Rattle.machine.specs.Stops.{at_bounds, at_kind, at_standing, page_reachable, Refusal}
use Rattle.machine.specs.Writes.{one_more, opened, reissue, vacated, write}
use Rattle.machine.proofs.Decided.{Passed, passed}
use Rattle.table.specs.Left.{left_as, left_by}
use Rattle.table.specs.States.{retotalled, state_as}
use Rattle.table.specs.declared.state.StateWords.{StateWords}
use Rattle.table.proofs.FitLaws.{at_fits}
use Rattle.rulings.specs.Rulings.{ended, front_on, giving_one, handed, inner_on, ruled, tokens_on}
use Rattle.rulings.proofs.RulingLaws.{front, front-passed, left_effect, left_ruled, spent-effect, spent-ruled}
use Rattle.segments.proofs.SegmentLaws.{both_hold, vacating}

-- place 1, as the code tests it
pub in_request : (m : ℕ) (s : State) (t : List ℕ) (x y : Token) (u c : ℕ) (b : List ℕ) {set r : Bool} → set ≡ settings_hold m s t
    → (set && ltb u (2 ^ 55) && leb c 3 && eqb x.named.offset 0 && eqb y.named.offset 0) ≡ r → request_holds m s t (page_in x.word y.word u c) b ≡ r
unfolding settings_hold request_holds
in_request m s t x y u c b setting h = sym (rw (setting, x.reads, y.reads)) ∙ h

module _ (m : ℕ) (s : State) (t : List ℕ) (j k u c : ℕ) (b : List ℕ) where
  -- ---- both tokens

  pub in_first : {r : Refusal} → page_verdict m t j u ≡ stop r → tokens_on m s t (page_in j k u c) b ≡ stop r
  unfolding tokens_on page_verdict
  in_first h = first_stops (page_reachable m t j u) (page_reachable m t k u) h

  pub in_second : page_verdict m t j u ≡ pass → tokens_on m s t (page_in j k u c) b ≡ page_verdict m t k u
  unfolding tokens_on page_verdict
  in_second h = first_passes (page_reachable m t j u) (page_reachable m t k u) h

  pub in_table : tokens_on m s t (page_in j k u c) b ≡ pass → (32 * number_of j + 32 ≤ length t) × (32 * number_of k + 32 ≤ length t)
  unfolding tokens_on
  in_table h =
      let each = parts-pass (page_reachable m t j u) (page_reachable m t k u) h in
      (size_in t (number_of j) (passed (page_reachable m t j u) each.0).0, size_in t (number_of k) (passed (page_reachable m t k u) each.1).0)

  -- ---- the two entries, which the tokens name as e and d, and the buffer, of n bytes

  module _ (n : ℕ) (e d : Entry) (first : e ≡ named_entry t j) (second : d ≡ named_entry t k) (long : n ≡ length b) where
    inner : inner_on m s t (page_in j k u c) b
        ≡ cond (eqb e.kind 3 && eqb d.kind 1) (cond (eqb n e.length && eqb e.length d.length) (cond (not d.locked && eqb d.count 0) pass (stop at_standing)) (stop at_bounds)) (stop at_kind)
    unfolding inner_on
    inner = rw (← first, ← second, ← long, both_hold (eqb e.kind 3) (eqb d.kind 1), both_hold (eqb n e.length) (eqb e.length d.length), both_hold (not d.locked) (eqb d.count 0))

    pub pair_kind : (eqb e.kind 3 && eqb d.kind 1) ≡ false → stop at_kind ≡ inner_on m s t (page_in j k u c) b
    pair_kind h = sym (inner ∙ rw h)

    module _ (kinds : (eqb e.kind 3 && eqb d.kind 1) ≡ true) where
      pub pair-bounds : (eqb n e.length && eqb e.length d.length) ≡ false → stop at_bounds ≡ inner_on m s t (page_in j k u c) b
      pair-bounds h = sym (inner ∙ rw (kinds, h))

      module _ (same : (eqb n e.length && eqb e.length d.length) ≡ true) where
        pub pair_standing : (not d.locked && eqb d.count 0) ≡ false → stop at_standing ≡ inner_on m s t (page_in j k u c) b
        pair_standing h = sym (inner ∙ rw (kinds, same, h))

        pub pair-pass : (not d.locked && eqb d.count 0) ≡ true → pass ≡ inner_on m s t (page_in j k u c) b
        pair-pass h = sym (inner ∙ rw (kinds, same, h))

-- ---- what a pass says of the entries of numbers n and i

pub record Bringable (m : ℕ) (s : State) (t : List ℕ) (n i c : ℕ) (b : List ℕ) : Type 0 where
  pub first : 32 * n + 32 ≤ length t
  pub second : 32 * i + 32 ≤ length t
  pub small : n < 1024
  pub rights : (at t n).permissions < 8
  pub room : (at t i).base + length b ≤ m
  pub encoded : c ≤ 3
  pub next : s.next ≤ spent

named-pair : (m : ℕ) (s : State) (t : List ℕ) (j k u c : ℕ) (b : List ℕ) → front_on m s t (page_in j k u c) b ≡ pass → Bringable m s t (number_of j) (number_of k) c b
unfolding size
named-pair m s t j k u c b h =
    let all : Passed (front m s t (page_in j k u c) b) = front-passed m s t (page_in j k u c) b h in
    let i : number_of j < length t / 32 = ltb-true _ _ (search) in
    let most : length t / 32 ≤ 1024 = leb-true _ _ (search) in
    let long : length b ≡ (named_entry t j).length = eqb-true _ _ (search) in
    let same : (named_entry t j).length ≡ (named_entry t k).length = eqb-true _ _ (search) in
    let one : (named_entry t k).kind ≡ 1 = eqb-true _ _ (search) in
    let here : not (is_paged (named_entry t k)) ≡ true = rw one in
    record {
      first = omega arith;
      second = size_in t (number_of k) (search);
      small = omega arith;
      rights = (at_fits t (number_of j)).permissions;
      room = omega (arith, reached_inside m t (number_of k) (search) here (search));
      encoded = leb-true c 3 (search);
      next = leb-true s.next spent (search);
    }

pub bringable : (m : ℕ) (s : State) (t : List ℕ) (x y : Token) (u c : ℕ) (b : List ℕ) → front_on m s t (page_in x.word y.word u c) b ≡ pass → Bringable m s t x.named.number y.named.number c b
bringable m s t x y u c b h = rw (x.reads, y.reads) (named-pair m s t x.word y.word u c b h)

-- ---- what is handed back

-- the tokens are x and y, their entries are e and d, and back is what comes in
pub record Brings (t : List ℕ) (x y : Token) (e d back : Entry) : Type 0 where
  pub first : e ≡ at t x.named.number
  pub second : d ≡ at t y.named.number
  pub over : back ≡ in_of e d 0

module _ {t : List ℕ} {y z : Token} {e d back : Entry} (x : Brings t y z e d back) (s : StateWords) (c : ℕ) (b : List ℕ) where
  abbrev one : Named
  one = y.named

  abbrev two : Named
  two = z.named

  abbrev g : Grant
  g = grant_page_in t (number_of y.word) (number_of z.word) c b

  -- no nonce is left
  module _ (none : Sought (state_as s) t one.number back None) where
    too_few : spent < (book (state_as s) t g).state.next
    too_few = omega (arith, rw (x.over, x.first, x.second, y.reads, z.reads) at none)

    pub in_spent : handed s t (Err Nonces) ≡ ruled (ended (state_as s) t g)
    in_spent = spent-ruled s t g too_few

    pub in_stays : (memory : List ℕ) → memory ≡ memory_after (ended (state_as s) t g).effect memory
    in_stays memory = rw (spent-effect (state_as s) t g too_few)

  -- or it is that of new
  module _ {new : Found} (found : Finds (state_as s) t one.number back new) where
    enough : (book (state_as s) t g).state.next ≤ spent
    enough = omega (arith, found.left, rw (x.over, x.first, x.second, y.reads, z.reads) at found.nonce)

    pub in_grants : {s₁ : StateWords} {i total : ℕ} {t₁ t₂ : List ℕ} → left_as s₁ t₁ (i ∷ []) ≡ left_by (write c (opened (state_as s) t) (reissue one.number (dated back)))
        → total ≡ one_more (most_free t₁) two.number s₁.total → t₂ ≡ vacated t₁ two.number
        → handed (retotalled s₁ total) t₂ (Ok (giving_one i)) ≡ ruled (ended (state_as s) t g)
    in_grants left more freed =
        left_ruled (state_as s) t g enough _ (rw (freed, more) (ap (vacating two.number) left ∙ rw (x.over, x.first, x.second, y.reads, z.reads)))

    pub in_stores : (memory memory' : List ℕ) → memory' ≡ sets memory d.base b → memory' ≡ memory_after (ended (state_as s) t g).effect memory
    in_stores memory memory' stored = stored ∙ rw (left_effect (state_as s) t g enough, x.second, z.reads)
