-- A buffer passed on whole: derive's bounds, and what a derive of the whole opens.
-- Assumes nothing.
use mathlib.Core.Path.{◌≡◌, refl, ap, ◌∙◌}
use mathlib.Core.Logic.{◌≢◌}
use mathlib.Core.Bool.{Bool, true, false, false≢true, not, ◌&&◌, ◌||◌, cond}
use mathlib.Core.List.{List, [], ◌∷◌}
use Prim.Native.Nat.{ℕ, zero, suc, ◌+◌, ◌-◌, ◌≤◌, ◌<◌}
use native.Mathlib.Omega.{arith}
use native.Mathlib.Decide.{ℕ_discrete}
use lib.Dec.{eqb}
use lib.ListN.{length}
use borrow.Author.Tests.{eq-eqb, le-leb, leb-true, lt-ltb, ltb-true, ne_eqb}
use Rattle.bits.proofs.TestLaws.{both}
use Rattle.layout.specs.Entry.{recounted}
use Rattle.layout.specs.Form.{ill_formed}
use Rattle.layout.specs.declared.entry.Entry.{Entry}
use Rattle.tokens.specs.Permissions.{within}
use Rattle.tokens.specs.Token.{named}
use Rattle.machine.specs.FromReset.{Sound}
use Rattle.machine.specs.Given.{name_in}
use Rattle.machine.specs.Issuing.{issue, new_number, other_nonce}
use Rattle.machine.specs.Line.{dead, ill, is_paged, Line, line_of, linked, locked_from, owner, owner_of, paged_out, parent_number, walk}
use Rattle.machine.specs.MachineSystem.{Accepted}
use Rattle.machine.specs.Operations.{child_of, effect_by, grant, named_entry, number_of}
use Rattle.machine.specs.Parts.{at, most_entries, most_free, most_memory, moved, put, size, spent, State}
use Rattle.machine.specs.Requests.{Access, accessing, Call, derive, dumping, loading, moving, right_for, Shift}
use Rattle.machine.specs.Searches.{FirstFree}
use Rattle.machine.specs.ShiftWindows.{Within}
use Rattle.machine.specs.Steps.{answer, decide, finished, Machine, pass, settle, step, stop, Verdict, verdict}
use Rattle.machine.specs.Stops.{asks, Check, checks, lastly, nonces_left, refusal_number}
use Rattle.machine.specs.WholeDerive.{access_call, AsExecuteOnly, Bounds, derive_call, length_of, Parts, PassedOn, Whole}
use Rattle.machine.specs.Writes.{Name, name_of, one_less, token_for}
use Rattle.machine.proofs.Basics.{link, neqb_true, owner-direct, parent, present, Present, range}
use Rattle.machine.proofs.Choices.{by_both, by_cond}
use Rattle.machine.proofs.Decided.{accepted, accepted_last, access-passed, AccessPassed, but_nonces, judged, Passed, passed, passed-access, passed-split, passing}
use Rattle.machine.proofs.Fuel.{line_enough, Live, number_first, other-least, walk-owns}
use Rattle.machine.proofs.Grants.{either}
use Rattle.machine.proofs.ShiftWindows.{Held, within_held}
use Rattle.machine.proofs.TableLaws.{at_other, at_same, in_table, length-put, size-put}
use Rattle.machine.proofs.WriteLaws.{names}
use Rattle.machine.proofs.Written.{Good, issue-indirect, parent-named, parent-tagged, recount-formed, recount_good}

-- ---- derive's bounds

-- every check with the number n holds
abbrev sparing : ℕ → List Check → Bool
sparing n [] = true
sparing n (c ∷ cs) = (not (eqb (refusal_number c.refusal) n) || c.holds) && sparing n cs

or_left : (a : Bool) → (a || false) ≡ true → a ≡ true
or_left true h = refl
or_left false h = h

-- the verdict does not tell the number n
Spared : ℕ → Verdict → Type 0
Spared n pass = Unit {0}
Spared n (stop r) = refusal_number r ≢ n

spared : (n : ℕ) (cs : List Check) → sparing n cs ≡ true → Spared n (verdict cs)
unfolding Spared
spared n [] h = tt
spared n (c ∷ cs) h =
    let two = both (not (eqb (refusal_number c.refusal) n) || c.holds) (sparing n cs) h in
    by_cond (λ (v : Verdict). Spared n v) c.holds
    (λ e. spared n cs two.1)
    (λ e. neqb_true (refusal_number c.refusal) n (or_left _ (rw e at two.0)))

pub bounds : Bounds
unfolding Bounds answer decide Spared
bounds σ k o l p c b = (
  λ h.
      told (verdict cs) (spared 8 cs (rw (le-leb (l + o) (named_entry σ.table k).length h))),
  λ h a. let all = (accepted σ (derive_call k o l p c b) a).0 in omega (arith, leb-true (l + o) (named_entry σ.table k).length (search)),
)
  where
    m : ℕ
    m = length σ.memory

    cs : List Check
    cs = checks m σ.state σ.table (derive k o l p c) b

    told : (v : Verdict) → Spared 8 v → (finished σ.state σ.table σ.memory b (settle v σ.state σ.table (grant m σ.table (derive k o l p c) b))).reply.refusal ≢ 8
    told pass h = λ e. omega arith
    told (stop r) h = h

-- ---- parts and the whole

module _ (σ : Machine) (k p c : ℕ) (b : List ℕ) where
  abbrev long : ℕ
  long = length_of σ k

  abbrev m₀ : ℕ
  m₀ = length σ.memory

  -- the checks of a derive but for place 11
  abbrev asked_of : (o l : ℕ) → List Check
  asked_of o l = judged m₀ σ.state σ.table (derive k o l p c) b

  parts-granted : (o l : ℕ) → Accepted σ (derive_call k o l p c b) → (o' l' : ℕ) → l' ≢ 0 → l' + o' ≤ long
      → (answer σ (derive_call k o' l' p c b)).reply.refusal ≢ 11 → Accepted σ (derive_call k o' l' p c b)
  parts-granted o l ok o' l' some ends other =
      let a : Passed (checks m₀ σ.state σ.table (derive k o l p c) b) = (accepted σ (derive_call k o l p c b) ok).0 in
      let same : verdict (asked_of o' l') ≡ verdict (asked_of o l) =
      rw (ne_eqb l 0 (neqb_true l 0 (search)), ne_eqb l' 0 some, le-leb (l + o) long (leb-true (l + o) long (search)), le-leb (l' + o') long ends) in
      let passes : Passed (asked_of o' l') = passed (asked_of o' l') (same ∙ passing (asked_of o l) (passed-split (asked_of o l) (nonces_left σ.state σ.table (grant m₀ σ.table (derive k o l p c) b) ∷ []) a).0) in
      either (λ e. e) (λ e. absurd (other e)) (but_nonces σ (derive_call k o' l' p c b) passes tt)

pub parts : Parts
unfolding Parts
parts σ k o l p c b = parts-granted σ k p c b o l

pub as_execute_only : AsExecuteOnly
unfolding AsExecuteOnly decide
as_execute_only σ k c b some = rw (ne_eqb (length_of σ k) 0 some, le-leb (length_of σ k + 0) (length_of σ k) (omega arith))

-- ---- accesses of one segment

-- what is judged by its kind goes by the segment's length, and what is done by its base too
asks_same : (w : Access) (o : ℕ) (b : List ℕ) (d e : Entry) → d.length ≡ e.length → asks w o b d ≡ asks w o b e
asks_same (moving w) o b d e l = rw l
asks_same loading o b d e l = rw l
asks_same dumping o b d e l = refl

effect_same : (w : Access) (o : ℕ) (b : List ℕ) (d e : Entry) → d.base ≡ e.base → d.length ≡ e.length → effect_by w d o b ≡ effect_by w e o b
effect_same (moving w) o b d e h l = rw h
effect_same loading o b d e h l = rw h
effect_same dumping o b d e h l = rw (h, l)

-- ---- what a derive of the whole leaves

module _ (σ : Machine) (fine : Sound σ) (k p c : ℕ) (b : List ℕ) (ok : Accepted σ (derive_call k 0 (length_of σ k) p c b)) where
  abbrev m : ℕ
  m = length σ.memory

  abbrev s : State
  s = σ.state

  abbrev t : List ℕ
  t = σ.table

  abbrev n : ℕ
  n = number_of k

  abbrev e : Entry
  e = at t n

  abbrev new : ℕ
  new = new_number s t

  abbrev whole : Call
  whole = derive_call k 0 e.length p c b

  all : Passed (checks m s t (derive k 0 e.length p c) b)
  all = (accepted σ whole ok).0

  full : e.kind ≢ 0
  full = let a : Passed (checks m s t (derive k 0 e.length p c) b) = all in neqb_true e.kind 0 (search)

  stands : Present e
  stands = let a : Passed (checks m s t (derive k 0 e.length p c) b) = all in present e (search) (search)

  first : FirstFree t s.last (size t - 1) new
  first = let a : Passed (checks m s t (derive k 0 e.length p c) b) = all in number_first s t (neqb_true new 0 (search))

  most : size t ≤ 1024
  most = let a : Passed (checks m s t (derive k 0 e.length p c) b) = all in leb-true (size t) most_entries (search)

  -- the child's nonce
  abbrev ν : ℕ
  ν = other_nonce s t new (child_of n e 0 e.length p)

  left_nonce : ν + 1 ≤ spent
  left_nonce = let a : Passed (checks m s t (derive k 0 e.length p c) b) = all in leb-true (ν + 1) spent (search)

  not_below : s.next ≤ ν
  not_below = other-least s t new (child_of n e 0 e.length p)

  good : Good m e
  good = record { storable = fine.storable n full; formed = fine.formed n full; lockable = fine.lockable n; paged_lockable = fine.paged_lockable n; counted = fine.counted n }

  low : n < 1024
  low = omega (arith, in_table t n full, most)

  abbrev child : Entry
  child = issue s new (child_of n e 0 e.length p ν)

  child_good : Good m child
  child_good =
      let a : Passed (checks m s t (derive k 0 e.length p c) b) = all in
      let r = range m e stands good.formed in
      issue-indirect m s new n (leb-true m most_memory (search)) good low r.0 (omega (arith, r.1)) (omega (arith, leb-true p 7 (search))) (omega (arith, left_nonce))

  abbrev counted : Entry
  counted = recounted e (e.count + 1)

  counted_good : Good m counted
  counted_good =
      let a : Passed (checks m s t (derive k 0 e.length p c) b) = all in
      recount_good m good stands (omega (arith, ltb-true e.count 65535 (search))) (λ i. omega arith)

  abbrev t' : List ℕ
  t' = put (put t new child) n counted

  -- the child is there; of every other entry at most the count has changed
  there : at t' new ≡ child
  there = at_other (put t new child) n new counted (λ z. full (rw z at first.free)) ∙ at_same t new child child_good.storable first.inside

  recounted-there : (j : ℕ) → (at t j).kind ≢ 0 → (i : ℕ) × (at t' j ≡ recounted (at t j) i)
  recounted-there j f = go (ℕ_discrete j n)
    where
      go : Dec (j ≡ n) → (i : ℕ) × (at t' j ≡ recounted (at t j) i)
      go (yes z) = (e.count + 1, rw z (at_same (put t new child) n counted counted_good.storable (rw size-put (in_table t n full))))
      go (no z) = ((at t j).count, at_other (put t new child) n j counted z ∙ at_other t new j child (λ y. f (rw y first.free)))

  -- so that a live line stays as it is
  same_up : (f j : ℕ) → (at t j).kind ≢ 0 → Live (walk f m t j) → walk f m t' j ≡ walk f m t j
  unfolding walk
  same_up zero j h = λ l. absurd (false≢true l.1)
  same_up (suc f) j h =
      let r = recounted-there j h in
      rw (r.1, recount-formed m (at t j) r.0)
      (by_both Same (ill_formed m (at t j)) (λ i l. absurd (false≢true l.0))
      (λ i. by_both Same (eqb (at t j).kind 1) (λ d l. refl)
      (λ d. by_both Same (is_paged (at t j)) (λ g l. refl)
      (λ g. by_cond (λ (y : Line). Same (cond (linked t' (recounted (at t j) r.0)) (walk f m t' (parent_number (at t j))) (dead j)) y) (linked t (at t j))
      (λ i l.
      let up = recounted-there (parent_number (at t j)) (link (at t j) (parent t j) i).present.full in
      let same : linked t' (recounted (at t j) r.0) ≡ true = rw up.1 i in
      rw same (same_up f (parent_number (at t j)) (link (at t j) (parent t j) i).present.full l))
      (λ i l. absurd (false≢true l.1))))))
    where
      Same : Line → Line → Type 0
      Same x y = Live y → x ≡ y

  -- the link holds, so that the child's line is its parent's
  number-above : parent_number child ≡ n
  number-above = parent-named m n e good low

  linked-above : linked t' child ≡ true
  linked-above =
      rw (number-above, (recounted-there n full).1, ne_eqb e.kind 0 full, ne_eqb e.kind 3 stands.here, parent-tagged m n e good low, eq-eqb e.tag e.tag refl, lt-ltb e.nonce ν (omega (arith, not_below, fine.below n full)))

  same_parent : Live (line_of m t n) → line_of m t' n ≡ line_of m t n
  same_parent l = ap (λ (x : Entry). walk (suc x.nonce) m t' n) (recounted-there n full).1 ∙ same_up (suc e.nonce) n full l

  same_line : Live (line_of m t n) → line_of m t' new ≡ line_of m t n
  unfolding walk
  same_line l = rw (there, child_good.formed, linked-above, number-above) (line_enough ν m t' n (rw (recounted-there n full).1 (omega (arith, not_below, fine.below n full))) ∙ same_parent l)

  -- and its lock too
  same_lock : (l : Line) (u : ℕ) → (at t (owner_of l)).kind ≢ 0 → Live l → locked_from t' u l ≡ locked_from t u l
  same_lock (owner o) u f l = ap (λ (z : Entry). z.locked && not (eqb z.holder u)) (recounted-there o f).1
  same_lock (paged_out o) u f l = refl
  same_lock (dead o) u f l = absurd (false≢true l.1)
  same_lock (ill o) u f l = absurd (false≢true l.0)

  -- ---- accesses through both

  abbrev token : ℕ
  token = token_for c (name_of new child)

  token-names : name_in token ≡ name_of new child
  token-names =
      let a : Passed (checks m s t (derive k 0 e.length p c) b) = all in
      names s c new (child_of n e 0 e.length p ν) (leb-true c 3 (search)) (omega (arith, first.inside, most))

  abbrev s' : State
  s' = moved s new (ν + 1) (one_less s.total)

  abbrev σ' : Machine
  σ' = record { state = s'; table = t'; memory = σ.memory }

  left : step σ whole ≡ σ'
  unfolding step
  left = rw (accepted σ whole ok).1

  module _ (w : Access) (allowed : within (right_for w) p ≡ true) (x y u : ℕ) (φ ψ : Shift) (d : List ℕ) (nx : name_in x ≡ name_in token) (ny : name_in y ≡ name_in k) (ox : (named x).offset ≡ (named y).offset)
      (opened : Accepted σ (access_call w y u ψ d)) (admitted : Within φ x) where
    shift : Held φ x
    shift = within_held φ x admitted

    through : AccessPassed m s t w y u ψ d
    through = access-passed m s t w y u ψ d (accepted σ (access_call w y u ψ d) opened).0

    at_x : number_of x ≡ new
    at_x = ap (λ (z : Name). z.number) (nx ∙ token-names)

    at_y : number_of y ≡ n
    at_y = ap (λ (z : Name). z.number) ny

    tag_x : (named x).tag ≡ child.tag
    tag_x = ap (λ (z : Name). z.tag) (nx ∙ token-names)

    -- the segment is the same
    named_x : named_entry t' x ≡ child
    named_x = rw at_x there

    named_y : named_entry t y ≡ e
    named_y = rw at_y

    judged_same : asks w (named x).offset d (named_entry t' x) ≡ asks w (named y).offset d (named_entry t y)
    judged_same = rw (ox, named_x, named_y) (asks_same w (named y).offset d child e refl)

    moved_same : effect_by w (named_entry t' x) (named x).offset d ≡ effect_by w (named_entry t y) (named y).offset d
    moved_same = rw (ox, named_x, named_y) (effect_same w (named y).offset d child e (omega arith) refl)

    passes : Passed (checks m s' t' (accessing w x u φ) d)
    passes =
        let h = through in
        let long : length t' ≡ length t = length-put _ _ _ ∙ length-put _ _ _ in
        let wide : size t' ≡ size t = size-put _ _ _ ∙ size-put _ _ _ in
        let live : Live (line_of m t n) = rw (← at_y) (search, search) in
        let owned : (at t (owner_of (line_of m t n))).kind ≢ 0 = λ z. omega (arith, owner-direct (walk-owns (suc e.nonce) m t n stands live)) in
        let line : line_of m t' (number_of x) ≡ line_of m t n = rw at_x (same_line live) in
        let open' : not (locked_from t u (line_of m t n)) ≡ true = rw (← at_y) (search) in
        passed-access m s' t' w x u φ d
        (record {
          sizes = rw (long, wide) h.sizes;
          settings = (rw wide (lt-ltb new (size t) first.inside), (le-leb 1 (ν + 1) (omega arith), (le-leb (ν + 1) spent left_nonce, (rw wide (le-leb (one_less s.total) (most_free t) (omega (arith, leb-true s.total (most_free t) (search)))), tt))));
          task = h.task;
          asked = rw judged_same h.asked;
          shift = shift.fits;
          after = rw judged_same h.after;
          sound = shift.sound;
          tokens = (rw (at_x, size-put, size-put) (lt-ltb new (size t) first.inside), (rw (at_x, there), (rw (at_x, there, tag_x) (eq-eqb child.tag child.tag refl), (rw (at_x, there), (rw line live.0, (rw line live.1, (rw (line, same_lock (line_of m t n) u owned live) open', tt)))))));
          opened = shift.opened;
          right = rw named_x allowed;
          bounds = rw judged_same h.bounds;
          nonces = le-leb (ν + 1) spent left_nonce;
        })

    same_opens : (answer σ' (access_call w x u φ d) ≡ answer σ (access_call w y u ψ d)) × ((step σ' (access_call w x u φ d)).memory ≡ (step σ (access_call w y u ψ d)).memory)
    unfolding answer step decide
    same_opens =
        let to = passing (checks m s' t' (accessing w x u φ) d) passes in
        let from = passing (checks m s t (accessing w y u ψ) d) (accepted σ (access_call w y u ψ d) opened).0 in
        let last = passing (lastly (effect_by w (named_entry t y) (named y).offset d).fill σ.memory d) (accepted_last σ (access_call w y u ψ d) opened).0 in
        (rw (to, from, moved_same, last), rw (to, from, moved_same, last))

  passed_on : PassedOn σ k p whole
  unfolding answer
  passed_on = record {
    token = token;
    carried = rw (accepted σ whole ok).1;
    opens = λ w allowed x y u φ ψ d nx ny ox. rw left (same_opens w allowed x y u φ ψ d nx ny ox);
  }

pub whole-passed : Whole
unfolding Whole
whole-passed = passed_on
