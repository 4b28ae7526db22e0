-- Merge: the ways out of its checks, and what it leaves.
-- Assumes nothing.
use mathlib.Core.Path.{◌≡◌, refl, sym, ap, ◌∙◌}
use mathlib.Core.Bool.{Bool, true, false, not, ◌&&◌, ◌||◌, cond}
use mathlib.Core.List.{List, [], ◌∷◌}
use Rattle.std.specs.Prelude.{Ok, Err}
use Prim.Native.Nat.{ℕ, ◌+◌, ◌*◌, ◌/◌, ◌^◌, ◌≤◌, ◌<◌}
use native.Mathlib.Omega.{arith}
use lib.Dec.{eqb, leb, ltb}
use lib.ListN.{length}
use borrow.Author.Tests.{eq-eqb, leb-true, ltb-true, ne_eqb}
use Rattle.tokens.specs.declared.read.Token.{Token}
use Rattle.entering.specs.Nonces.{Finds}
use Rattle.entering.specs.declared.nonces.Found.{Found}
use Rattle.layout.specs.Entry.{dated}
use Rattle.layout.specs.declared.entry.Entry.{Entry}
use Rattle.checks.specs.Holds.{request_holds, settings_hold}
use Rattle.checks.specs.Reached.{reach_verdict}
use Rattle.checks.specs.declared.refusal.Refusal.TheVariants.{Nonces}
use Rattle.checks.proofs.ReachLaws.{reached_inside, size_in}
use Rattle.checks.proofs.VerdictLaws.{first_passes, first_stops}
use Rattle.machine.specs.Issuing.{other_nonce}
use Rattle.machine.specs.Operations.{book, Grant, grant_merge, merged_of, named_entry, number_of}
use Rattle.machine.specs.Parts.{at, most_free, most_memory, size, spent, State}
use Rattle.machine.specs.Requests.{merge}
use Rattle.machine.specs.Steps.{pass, stop, Verdict}
use Rattle.machine.specs.Stops.{at_bounds, at_kind, at_standing, reachable, Refusal}
use Rattle.machine.specs.Writes.{one_more, opened, reissue, vacated, write}
use Rattle.machine.proofs.Decided.{Passed}
use Rattle.table.specs.Left.{left_as, left_by}
use Rattle.table.specs.States.{retotalled, state_as}
use Rattle.table.specs.declared.state.StateWords.{StateWords}
use Rattle.table.proofs.FitLaws.{at_fits}
use Rattle.rulings.specs.Asked.{merge_as}
use Rattle.rulings.specs.Rulings.{ended, front_on, giving_one, handed, inner_on, ruled, tokens_on}
use Rattle.rulings.specs.declared.reply.Granted.{Granted}
use Rattle.rulings.specs.declared.request.Merge.{Merge}
use Rattle.rulings.proofs.RulingLaws.{front, front_inner, front-passed, front-token, left_ruled, spent-ruled}
use Rattle.segments.proofs.SegmentLaws.{vacating}
use Rattle.merges.specs.Neighbours.{Pairs}
use Rattle.merges.specs.declared.merge.Pair.{Pair}

-- two facts with one refusal, and four, where it is asked whether any fails
either : (a b : Bool) (x y : Verdict) → cond a (cond b x y) y ≡ cond (not a || not b) y x
either false b x y = refl
either true false x y = refl
either true true x y = refl

any : (a b c d : Bool) (x y : Verdict) → cond (not a) (cond (not b) (cond c (cond d x y) y) y) y ≡ cond (a || b || not c || not d) y x
any true b c d x y = refl
any false true c d x y = refl
any false false false d x y = refl
any false false true false x y = refl
any false false true true x y = refl

-- ---- the checks, where the tokens are a and b

module _ (m : ℕ) (s : State) (t : List ℕ) (q : Merge) where
  module _ (a b : Token) (is_first : a.word ≡ q.first) (is_second : b.word ≡ q.second) where
    -- place 1, as the code's test says
    pub merge-request : (settings_hold m s t && ltb q.task (2 ^ 55) && leb q.encoding 3 && eqb a.named.offset 0 && eqb b.named.offset 0) ≡ request_holds m s t (merge_as q) []
    unfolding settings_hold request_holds
    merge-request = rw (a.reads, b.reads, is_first, is_second)

    pub merge-asked : {set r : Bool} → set ≡ settings_hold m s t
        → (set && ltb q.task (2 ^ 55) && leb q.encoding 3 && eqb a.named.offset 0 && eqb b.named.offset 0) ≡ r → request_holds m s t (merge_as q) [] ≡ r
    merge-asked setting h = sym merge-request ∙ rw setting at h

    -- both tokens
    module _ (ok : request_holds m s t (merge_as q) [] ≡ true) where
      pub first-stops : {r : Refusal} → reach_verdict m t a.word q.task ≡ stop r → front_on m s t (merge_as q) [] ≡ stop r
      unfolding tokens_on reach_verdict
      first-stops h = front-token m s t (merge_as q) [] ok (first_stops (reachable m t q.first q.task) (reachable m t q.second q.task) (rw is_first at h))

      module _ (one : reach_verdict m t a.word q.task ≡ pass) where
        onward : tokens_on m s t (merge_as q) [] ≡ reach_verdict m t b.word q.task
        unfolding tokens_on reach_verdict
        onward = first_passes (reachable m t q.first q.task) (reachable m t q.second q.task) (rw is_first at one) ∙ rw is_second

        pub second-stops : {r : Refusal} → reach_verdict m t b.word q.task ≡ stop r → front_on m s t (merge_as q) [] ≡ stop r
        second-stops h = front-token m s t (merge_as q) [] ok (onward ∙ h)

        pub both-pass : reach_verdict m t b.word q.task ≡ pass → front_on m s t (merge_as q) [] ≡ inner_on m s t (merge_as q) []
        both-pass h = front_inner m s t (merge_as q) [] ok (onward ∙ h)

-- the number that a token names
pub numbered : (a : Token) (k : ℕ) → a.word ≡ k → a.named.number ≡ number_of k
numbered a k is = rw (a.reads, is) refl

-- ---- the two entries, which the tokens name as d and e

module _ (m : ℕ) (s : State) (t : List ℕ) (j k u c : ℕ) (d e : Entry) (first : d ≡ named_entry t j) (second : e ≡ named_entry t k) where
  pub neighbour_kind : (not (eqb d.kind 1) || not (eqb e.kind 1)) ≡ true → inner_on m s t (merge j k u c) [] ≡ stop at_kind
  unfolding inner_on
  neighbour_kind h = rw (← first, ← second, either (eqb d.kind 1) (eqb e.kind 1), h)

  module _ (direct : (not (eqb d.kind 1) || not (eqb e.kind 1)) ≡ false) where
    pub neighbour_bounds : (e.base ≡ d.base + d.length → ⊥) → inner_on m s t (merge j k u c) [] ≡ stop at_bounds
    unfolding inner_on
    neighbour_bounds h = rw (← first, ← second, either (eqb d.kind 1) (eqb e.kind 1), direct, ne_eqb e.base (d.base + d.length) h)

    module _ (next : e.base ≡ d.base + d.length) where
      standing : inner_on m s t (merge j k u c) [] ≡ cond (d.locked || e.locked || not (eqb d.count 0) || not (eqb e.count 0)) (stop at_standing) pass
      unfolding inner_on
      standing = rw (← first, ← second, either (eqb d.kind 1) (eqb e.kind 1), direct, eq-eqb e.base (d.base + d.length) next) (any d.locked e.locked (eqb d.count 0) (eqb e.count 0) _ _)

      pub neighbour_standing : (d.locked || e.locked || not (eqb d.count 0) || not (eqb e.count 0)) ≡ true → inner_on m s t (merge j k u c) [] ≡ stop at_standing
      neighbour_standing h = standing ∙ rw h

      pub neighbour_pass : (d.locked || e.locked || not (eqb d.count 0) || not (eqb e.count 0)) ≡ false → inner_on m s t (merge j k u c) [] ≡ pass
      neighbour_pass h = standing ∙ rw h

-- ---- what a pass says of the entries of the numbers p

pub record Mergeable (s : State) (t : List ℕ) (p : Pair) (c : ℕ) : Type 0 where
  pub first : 32 * p.first + 32 ≤ length t
  pub second : 32 * p.second + 32 ≤ length t
  pub small : p.first < 1024
  pub sum : (at t p.first).length + (at t p.second).length < 2 ^ 32
  pub rights : (at t p.first).permissions < 8
  pub encoded : c ≤ 3
  pub next : s.next ≤ spent

pub mergeable : (m : ℕ) (s : State) (t : List ℕ) (q : Merge) (p : Pair) → Pairs q.first q.second (Ok p) (front_on m s t (merge_as q) []) → Mergeable s t p q.encoding
unfolding size
mergeable m s t q p h =
    let all : Passed (front m s t (merge_as q) []) = front-passed m s t (merge_as q) [] h.0 in
    let i : number_of q.first < length t / 32 = ltb-true _ _ (search) in
    let most : length t / 32 ≤ 1024 = leb-true _ _ (search) in
    let memory : m ≤ most_memory = leb-true _ _ (search) in
    record {
      first = rw h.1.0 (omega arith);
      second = rw h.1.1 (size_in t (number_of q.second) (search));
      small = rw h.1.0 (omega arith);
      sum = rw (h.1.0, h.1.1) (omega (arith, reached_inside m t (number_of q.first) (search) (search) (search), reached_inside m t (number_of q.second) (search) (search) (search)));
      rights = (at_fits t p.first).permissions;
      encoded = leb-true q.encoding 3 (search);
      next = leb-true s.next spent (search);
    }

-- ---- what is handed back, where the entries of the numbers p are d and e, and whole is issued

module _ (m : ℕ) (s : StateWords) (t : List ℕ) (q : Merge) (p : Pair) (d e whole : Entry) (h : Pairs q.first q.second (Ok p) (front_on m (state_as s) t (merge_as q) [])) (first : d ≡ at t p.first) (second : e ≡ at t p.second) (over : whole ≡ merged_of d e 0) where
  abbrev g : Grant
  g = grant_merge t (number_of q.first) (number_of q.second) q.encoding

  next : (book (state_as s) t g).state.next ≡ other_nonce (state_as s) t p.first (dated whole) + 1
  next = rw (over, first, second, h.1.0, h.1.1)

  pub merge-spent : other_nonce (state_as s) t p.first (dated whole) ≡ spent → handed s t (Err Nonces) ≡ ruled (ended (state_as s) t g)
  merge-spent none = spent-ruled s t g (omega (arith, next, none))

  pub merge-grants : (new : Found) → Finds (state_as s) t p.first whole new → (a : StateWords) (total k : ℕ) (t₁ t₂ : List ℕ) (r : Granted)
      → left_as a t₁ (k ∷ []) ≡ left_by (write q.encoding (opened (state_as s) t) (reissue p.first (dated whole)))
      → total ≡ one_more (most_free t₁) p.second a.total → t₂ ≡ vacated t₁ p.second
      → r ≡ giving_one k → handed (retotalled a total) t₂ (Ok r) ≡ ruled (ended (state_as s) t g)
  merge-grants new found a total k t₁ t₂ r left more freed done =
      left_ruled (state_as s) t g (omega (arith, next, found.nonce, found.left)) _
      (rw (done, freed, more)
      (ap (vacating p.second) left
      ∙ rw (over, first, second, h.1.0, h.1.1)))
