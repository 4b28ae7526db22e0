-- Create: the ways out of its checks, and what it leaves.
-- Assumes nothing.
use mathlib.Core.Path.{◌≡◌, refl, sym, ap, ◌∙◌}
use mathlib.Core.Bool.{Bool, true, false, not, ◌&&◌, ◌||◌, cond}
use mathlib.Core.List.{List, [], ◌∷◌, ◌++◌}
use Rattle.std.specs.Prelude.{None, Ok, Err}
use Prim.Native.Nat.{ℕ, ◌+◌, ◌*◌, ◌/◌, ◌^◌, ◌≤◌, ◌<◌}
use native.Mathlib.Omega.{arith}
use lib.Dec.{eqb, leb, ltb}
use lib.ListN.{length}
use borrow.Author.Tests.{eq-eqb, eqb-false, eqb-true, le-leb, leb-true, lt-leb, lt-ltb, ltb-true, ne_eqb, not-true}
use Rattle.tokens.specs.Permissions.{within}
use Rattle.tokens.specs.Token.{named}
use Rattle.tokens.specs.declared.read.Token.{Token}
use Rattle.layout.specs.Entry.{dated, laid_direct}
use Rattle.layout.specs.declared.entry.Entry.{Entry}
use Rattle.checks.specs.Holds.{request_holds, settings_hold}
use Rattle.checks.specs.Reached.{reach_verdict}
use Rattle.checks.specs.declared.refusal.Refusal.TheVariants.{Nonces}
use Rattle.checks.proofs.ReachLaws.{reach_in}
use Rattle.machine.specs.Issuing.{issue, new_number, other_nonce}
use Rattle.machine.specs.Operations.{book, Grant, grant_create, named_entry, number_of, part_of, rest_of}
use Rattle.machine.specs.Parts.{at, most_free, moved, put, size, spent, State}
use Rattle.machine.specs.Steps.{pass, stop, Verdict}
use Rattle.machine.specs.Stops.{at_bounds, at_kind, at_right, at_standing, places, sizes}
use Rattle.machine.specs.Writes.{give, one_less, one_more, opened, reissue, vacated, write, written}
use Rattle.machine.proofs.Decided.{AllTrue, Passed}
use Rattle.machine.proofs.Fuel.{number_first}
use Rattle.machine.proofs.TableLaws.{length-put}
use Rattle.entering.specs.Nonces.{Finds, FindsTwo, Issuable, SoughtTwo}
use Rattle.entering.specs.declared.nonces.Found.{Found}
use Rattle.entering.specs.declared.nonces.FoundTwo.{FoundTwo}
use Rattle.table.specs.Left.{Left, left_as, left_by}
use Rattle.table.specs.States.{retotalled, state_as}
use Rattle.table.specs.declared.state.StateWords.{StateWords}
use Rattle.table.proofs.FitLaws.{at_fits}
use Rattle.rulings.specs.Allotments.{allot_verdict, allotted, Limits}
use Rattle.rulings.specs.Rulings.{ended, front_on, giving_one, giving_two, handed, inner_on, ruled, tokens_on}
use Rattle.rulings.specs.declared.reply.Granted.{Granted}
use Rattle.rulings.specs.declared.request.Create.{Create}
use Rattle.rulings.proofs.AllotLaws.{limits, new_in, segment-inside}
use Rattle.rulings.proofs.RulingLaws.{front, front-passed, front-tokens, left_ruled, request-true, spent-ruled}
use Rattle.segments.specs.Creates.{create_with}
use Rattle.segments.proofs.SegmentLaws.{both_hold, leaving, vacating}

-- a test that always holds
and_true : (a b c : Bool) → c ≡ true → (a && b) ≡ (a && c && b)
and_true true b c h = rw h
and_true false b c h = refl

-- neither a nor not b, where it is asked whether either holds
neither : (a b : Bool) → (not a && b) ≡ not (a || not b)
neither true b = refl
neither false true = refl
neither false false = refl

module _ (m : ℕ) (s : State) (t : List ℕ) (x : Token) (q : Create) where
  -- place 1, as the code's test says; every user that there is fits
  pub create-request : q.user < 2 ^ 64
      → (settings_hold m s t && ltb q.task (2 ^ 55) && leb q.encoding 3 && leb q.permissions 7 && not (eqb q.length 0) && eqb x.named.offset 0) ≡ request_holds m s t (create_with x q) []
  unfolding settings_hold request_holds
  create-request user =
      rw x.reads
      (and_true (settings_hold m s t && ltb q.task (2 ^ 55) && leb q.encoding 3 && leb q.permissions 7 && not (eqb q.length 0)) (eqb (named x.word).offset 0) (ltb q.user (2 ^ 64)) (lt-ltb q.user (2 ^ 64) user))

  pub create-asked : {set b : Bool} → q.user < 2 ^ 64 → set ≡ settings_hold m s t
      → (set && ltb q.task (2 ^ 55) && leb q.encoding 3 && leb q.permissions 7 && not (eqb q.length 0) && eqb x.named.offset 0) ≡ b → request_holds m s t (create_with x q) [] ≡ b
  create-asked user setting h = sym (create-request user) ∙ rw setting at h

  pub create-limits : request_holds m s t (create_with x q) [] ≡ true → Limits s t × (q.permissions ≤ 7)
  create-limits ok =
      let all : AllTrue (sizes m t ++ (places m s t (create_with x q) []).request) = request-true m s t (create_with x q) [] ok in
      (limits m s t (search), leb-true q.permissions 7 (search))

  pub create-token : {v : Verdict} → reach_verdict m t x.word q.task ≡ v → tokens_on m s t (create_with x q) [] ≡ v
  unfolding reach_verdict tokens_on
  create-token h = h

  -- places 6 to 9, where the token names e
  module _ (e : Entry) (here : e ≡ named_entry t x.word) where
    pub cut_kind : (e.kind ≡ 1 → ⊥) → inner_on m s t (create_with x q) [] ≡ stop at_kind
    unfolding inner_on
    cut_kind h = rw (← here, ne_eqb e.kind 1 h)

    module _ (one : e.kind ≡ 1) {b : Bool} (right : b ≡ within q.permissions e.permissions) where
      pub cut_right : b ≡ false → inner_on m s t (create_with x q) [] ≡ stop at_right
      unfolding inner_on
      cut_right h = rw (← here, eq-eqb e.kind 1 one, ← right, h)

      module _ (held : b ≡ true) where
        pub cut-bounds : e.length < q.length → inner_on m s t (create_with x q) [] ≡ stop at_bounds
        unfolding inner_on
        cut-bounds h = rw (← here, eq-eqb e.kind 1 one, ← right, held, lt-leb q.length e.length h)

        module _ (short : q.length ≤ e.length) where
          standing : inner_on m s t (create_with x q) [] ≡ cond (not (e.locked || not (eqb e.count 0))) (allot_verdict s t) (stop at_standing)
          unfolding inner_on allot_verdict
          standing =
              rw
              (← here, eq-eqb e.kind 1 one, ← right, held, le-leb q.length e.length short, ← neither e.locked (eqb e.count 0))
              (both_hold (not e.locked) (eqb e.count 0) _ _)

          pub cut_standing : (e.locked || not (eqb e.count 0)) ≡ true → inner_on m s t (create_with x q) [] ≡ stop at_standing
          cut_standing h = standing ∙ rw h

          pub cut-allot : (e.locked || not (eqb e.count 0)) ≡ false → inner_on m s t (create_with x q) [] ≡ allot_verdict s t
          cut-allot h = standing ∙ rw h

-- ---- what a pass says, where the token is x, its entry e, and new the new number

pub record Parting (s : State) (t : List ℕ) (x : Token) (e : Entry) (q : Create) (new : ℕ) : Type 0 where
  pub inside : 32 * x.named.number + 32 ≤ length t
  pub small : x.named.number < 1024
  pub part : q.length ≤ e.length
  pub end : e.base + e.length < 2 ^ 32
  pub permitted : q.permissions < 8
  pub rights : e.permissions < 8
  pub encoded : q.encoding ≤ 3
  pub next : s.next ≤ spent
  pub new_inside : 32 * new + 32 ≤ length t
  pub new_small : new < 1024
  pub apart : new ≡ x.named.number → ⊥

-- what is issued as a direct entry can be, under either number
pub issuable : {t : List ℕ} {n : ℕ} {e f : Entry} → 32 * n + 32 ≤ length t → e ≡ f → f.kind ≡ 1 → Issuable t n e
issuable h is direct = record { inside = h; laid = rw is (laid_direct direct) }

module _ (m : ℕ) (s : State) (t : List ℕ) (x : Token) (q : Create) (h : front_on m s t (create_with x q) [] ≡ pass) where
  pub create_in : 32 * x.named.number + 32 ≤ length t
  unfolding reach_verdict tokens_on
  create_in = rw x.reads (reach_in m t x.word q.task (front-tokens m s t (create_with x q) [] h))

  named-parts : Parting s t x (at t x.named.number) q (new_number s t)
  unfolding size
  named-parts =
      let all : Passed (front m s t (create_with x q) []) = front-passed m s t (create_with x q) [] h in
      let i : number_of x.word < length t / 32 = ltb-true _ _ (search) in
      let set : Limits s t = limits m s t (search) in
      let permitted : q.permissions ≤ 7 = leb-true q.permissions 7 (search) in
      let one : (named_entry t x.word).kind ≡ 1 = eqb-true (named_entry t x.word).kind 1 (search) in
      let free : (at t (new_number s t)).kind ≡ 0 = (number_first s t (eqb-false _ _ (not-true _ (search)))).free in
      let new = new_in s t set (search) in
      record {
        inside = create_in;
        small = rw x.reads (omega (arith, set.most));
        part = rw x.reads (leb-true _ _ (search));
        end = rw x.reads (omega (arith, segment-inside m t (number_of x.word) (search) (search) (search) (search)));
        permitted = omega arith;
        rights = (at_fits t x.named.number).permissions;
        encoded = leb-true q.encoding 3 (search);
        next = set.left;
        new_inside = new.0;
        new_small = new.1;
        apart = rw x.reads (λ z. omega (arith, ap (λ (i : ℕ). (at t i).kind) z));
      }

pub parting : (m : ℕ) (s : State) (t : List ℕ) (x : Token) (q : Create) (new : ℕ) (e : Entry) → allotted m s t (create_with x q) new → e ≡ at t x.named.number → Parting s t x e q new
parting m s t x q new e h there = rw (there, h.1) (named-parts m s t x q h.0)

-- the entry n is still there once the part is given
pub rest_in : (s : State) (t : List ℕ) (n c : ℕ) (part : ℕ → Entry) (a : Left) → a ≡ left_by (write c (opened s t) (give part)) → 32 * n + 32 ≤ length t → 32 * n + 32 ≤ length a.table
rest_in s t n c part a gave h = omega (arith, ap (λ (y : Left). length y.table) gave ∙ length-put _ _ _)

-- ---- what is handed back

module _ (s : StateWords) (t : List ℕ) (x : Token) (q : Create) (e part : Entry) (new : ℕ) (there : e ≡ at t x.named.number) (cut : part ≡ part_of e q.length q.user q.permissions 0) (number : new ≡ new_number (state_as s) t) where
  abbrev g : Grant
  g = grant_create t (number_of x.word) q.length q.user q.permissions q.encoding

  here : e ≡ named_entry t x.word
  here = rw x.reads at there

  -- the part is all
  module _ (all : q.length ≡ e.length) where
    test : eqb q.length (named_entry t x.word).length ≡ true
    test = eq-eqb q.length (named_entry t x.word).length (rw here at all)

    whole_next : (book (state_as s) t g).state.next ≡ other_nonce (state_as s) t new (dated part) + 1
    whole_next = rw (cut, here, test, number)

    pub whole-spent : other_nonce (state_as s) t new (dated part) ≡ spent → handed s t (Err Nonces) ≡ ruled (ended (state_as s) t g)
    whole-spent none = spent-ruled s t g (omega (arith, whole_next, none))

    pub whole-grants : (f : Found) → Finds (state_as s) t new part f → (a : StateWords) (i k : ℕ) (t₁ t₂ : List ℕ) (r : Granted)
        → left_as a t₁ (k ∷ []) ≡ left_by (write q.encoding (opened (state_as s) t) (give (dated part)))
        → i ≡ one_more (most_free t₁) x.named.number a.total → t₂ ≡ vacated t₁ x.named.number → r ≡ giving_one k
        → handed (retotalled a i) t₂ (Ok r) ≡ ruled (ended (state_as s) t g)
    whole-grants f found a i k t₁ t₂ r gave more freed done =
        left_ruled (state_as s) t g (omega (arith, whole_next, found.nonce, found.left)) _
        (rw (done, freed, more)
        (ap (vacating x.named.number) gave
        ∙ rw (cut, there, x.reads, test)))

  -- there is a rest
  module _ (some : q.length ≡ e.length → ⊥) (rest : Entry) (over : rest ≡ rest_of e q.length 0) where
    untest : eqb q.length (named_entry t x.word).length ≡ false
    untest = ne_eqb q.length (named_entry t x.word).length (rw here at some)

    -- the state and the table that the part leaves
    abbrev ν : ℕ
    ν = other_nonce (state_as s) t (new_number (state_as s) t) (part_of (named_entry t x.word) q.length q.user q.permissions)

    abbrev s₁ : State
    s₁ = moved (state_as s) (new_number (state_as s) t) (ν + 1) (one_less s.total)

    abbrev t₁ : List ℕ
    t₁ = put t (new_number (state_as s) t) (issue (state_as s) (new_number (state_as s) t) (part_of (named_entry t x.word) q.length q.user q.permissions ν))

    two_next : (book (state_as s) t g).state.next ≡ other_nonce s₁ t₁ (number_of x.word) (rest_of (named_entry t x.word) q.length) + 1
    two_next = rw untest

    pub rest-spent : SoughtTwo (state_as s) t new part x.named.number rest None → handed s t (Err Nonces) ≡ ruled (ended (state_as s) t g)
    rest-spent none =
        let end = none (new_number (state_as s) t) (one_less s.total) in
        spent-ruled s t g (omega (arith, two_next, rw (over, cut, here, x.reads, number) at end))

    pub rest-grants : (f : FoundTwo) → FindsTwo (state_as s) t new part x.named.number rest f → (a : StateWords) (i k : ℕ) (t₂ : List ℕ) (r : Granted)
        → left_as a t₂ (i ∷ k ∷ []) ≡ left_by (written q.encoding (opened (state_as s) t) (give (dated part) ∷ reissue x.named.number (dated rest) ∷ []))
        → r ≡ giving_two i k → handed a t₂ (Ok r) ≡ ruled (ended (state_as s) t g)
    rest-grants f found a i k t₂ r left done =
        let first : f.first.nonce ≡ ν = found.one.nonce ∙ rw (cut, here, number) in
        let last = found.two (new_number (state_as s) t) (one_less s.total) in
        left_ruled (state_as s) t g (omega (arith, two_next, last.left, rw (over, cut, here, x.reads, first, number) at last.nonce)) _
        (rw done
        (ap leaving left
        ∙ rw (over, cut, there, x.reads, untest)))
