-- A request is granted, with all its checks passed, or refused, with one of 01's numbers.
-- Assumes nothing.
use mathlib.Core.Path.{◌≡◌, refl, sym, ap, ◌∙◌}
use mathlib.Core.Logic.{◌≢◌, ◌⊎◌, inl, inr}
use mathlib.Core.Bool.{Bool, true, false, not, ◌&&◌, cond}
use mathlib.Core.List.{List, [], ◌∷◌, ◌++◌, append_assoc}
use Prim.Native.Nat.{ℕ, ◌≤◌}
use native.Mathlib.Omega.{arith}
use lib.Dec.{eqb, leb}
use lib.ListN.{drop, length, take}
use borrow.Author.Tests.{eqb-false, le-leb, leb-true, not-true}
use Rattle.bits.proofs.TestLaws.{both}
use Rattle.layout.specs.declared.entry.Entry.{Entry}
use Rattle.tokens.specs.Permissions.{within}
use Rattle.tokens.specs.Token.{named}
use Rattle.machine.specs.Line.{ancestor, itself}
use Rattle.machine.specs.MachineSystem.{Accepted}
use Rattle.machine.specs.Operations.{book, carried, Decision, entire, Fill, front, Grant, grant, named_entry, unfilled}
use Rattle.machine.specs.Parts.{spent, State}
use Rattle.machine.specs.Refusals.{Told}
use Rattle.machine.specs.Requests.{Access, accessing, Call, Request, right_for, Shift}
use Rattle.machine.specs.Steps.{answer, blind, concluded, decide, decision, finished, limited, Machine, pass, refused, settle, stop, telling, told_length, Verdict, verdict}
use Rattle.machine.specs.Stops.{Asked, asks, at_bounds, at_checksum, at_entry, at_form, at_kind, at_lease, at_line, at_lock, at_nonces, at_numbers, at_paged, at_record, at_request, at_right, at_room, at_standing, at_window, Check, checks, lastly, leases_sound, need_all, nonces_left, Places, places, reachable, Refusal, refusal_bad, refusal_number, rights_held, settings, shift_fits, sizes, task_fits, window_open}
use Rattle.machine.proofs.Choices.{by_cond}

-- ---- what a refusal tells

plain-told : (n : ℕ) → 1 ≤ n → n ≤ 17 → (3 ≤ n → n ≤ 4 → ⊥) → Told n 0
plain-told n a b h = record { least = a; most = b; line = λ i j. absurd (h i j); plain = λ i j. refl }

line-told : (n k : ℕ) → 3 ≤ n → n ≤ 4 → 1 ≤ k → k ≤ 2 → Told n k
line-told n k a b h i = record { least = omega arith; most = omega arith; line = λ j l. (h, i); plain = λ j l. absurd (omega arith) }

pub tells : (r : Refusal) → Told (refusal_number r) (refusal_bad r)
tells at_request = plain-told _ (omega arith) (omega arith) (λ a b. omega arith)
tells at_entry = plain-told _ (omega arith) (omega arith) (λ a b. omega arith)
tells (at_form itself) = line-told _ _ (omega arith) (omega arith) (omega arith) (omega arith)
tells (at_form ancestor) = line-told _ _ (omega arith) (omega arith) (omega arith) (omega arith)
tells (at_line itself) = line-told _ _ (omega arith) (omega arith) (omega arith) (omega arith)
tells (at_line ancestor) = line-told _ _ (omega arith) (omega arith) (omega arith) (omega arith)
tells at_lock = plain-told _ (omega arith) (omega arith) (λ a b. omega arith)
tells at_kind = plain-told _ (omega arith) (omega arith) (λ a b. omega arith)
tells at_right = plain-told _ (omega arith) (omega arith) (λ a b. omega arith)
tells at_bounds = plain-told _ (omega arith) (omega arith) (λ a b. omega arith)
tells at_standing = plain-told _ (omega arith) (omega arith) (λ a b. omega arith)
tells at_numbers = plain-told _ (omega arith) (omega arith) (λ a b. omega arith)
tells at_nonces = plain-told _ (omega arith) (omega arith) (λ a b. omega arith)
tells at_record = plain-told _ (omega arith) (omega arith) (λ a b. omega arith)
tells at_checksum = plain-told _ (omega arith) (omega arith) (λ a b. omega arith)
tells at_room = plain-told _ (omega arith) (omega arith) (λ a b. omega arith)
tells at_window = plain-told _ (omega arith) (omega arith) (λ a b. omega arith)
tells at_lease = plain-told _ (omega arith) (omega arith) (λ a b. omega arith)
tells at_paged = plain-told _ (omega arith) (omega arith) (λ a b. omega arith)

-- ---- the verdict

abbrev pub Passed : List Check → Type 0
Passed [] = Unit {0}
Passed (c ∷ cs) = (c.holds ≡ true) × Passed cs

-- and the verdict of such a list is a pass
pub passed : (cs : List Check) → verdict cs ≡ pass → Passed cs
passed [] h = tt
passed (c ∷ cs) h = go c.holds (passed cs) h
  where
    go : (b : Bool) → (verdict cs ≡ pass → Passed cs) → cond b (verdict cs) (stop c.refusal) ≡ pass → (b ≡ true) × Passed cs
    go true f h = (refl, f h)
    go false f h = let z : ◌≡◌ {A = ℕ} 0 1 = cc in absurd (omega arith)

pub passed-split : (xs ys : List Check) → Passed (xs ++ ys) → Passed xs × Passed ys
passed-split [] ys h = (tt, h)
passed-split (x ∷ xs) ys h = let r = passed-split xs ys h.1 in ((h.0, r.0), r.1)

pub passed_join : (xs ys : List Check) → Passed xs → Passed ys → Passed (xs ++ ys)
passed_join [] ys h k = k
passed_join (x ∷ xs) ys h k = (h.0, passed_join xs ys h.1 k)

pub passing : (cs : List Check) → Passed cs → verdict cs ≡ pass
passing [] h = refl
passing (c ∷ cs) h = rw h.0 (passing cs h.1)

-- what a verdict tells, and a decision by it
abbrev pub told : Verdict → ℕ
told pass = 0
told (stop r) = refusal_number r

pub settled-told : (v : Verdict) (s : State) (t : List ℕ) (g : Grant) → (settle v s t g).reply.refusal ≡ told v
settled-told pass s t g = refl
settled-told (stop r) s t g = refl

-- no check of a list has this number
abbrev pub spared : ℕ → List Check → Bool
spared n [] = true
spared n (c ∷ cs) = not (eqb (refusal_number c.refusal) n) && spared n cs

pub not_told : (n : ℕ) → 1 ≤ n → (cs : List Check) → spared n cs ≡ true → told (verdict cs) ≡ n → ⊥
not_told n l [] h = λ k. omega arith
not_told n l (c ∷ cs) h =
    let ab = both _ _ h in
    by_cond (λ (v : Verdict). told v ≡ n → ⊥) c.holds (λ e. not_told n l cs ab.1) (λ e k. eqb-false (refusal_number c.refusal) n (not-true _ ab.0) k)

-- one list after another
abbrev pub and_then : Verdict → Verdict → Verdict
and_then pass v = v
and_then (stop r) v = stop r

pub verdict_append : (cs ds : List Check) → verdict (cs ++ ds) ≡ and_then (verdict cs) (verdict ds)
verdict_append [] ds = refl
verdict_append (c ∷ cs) ds = go c.holds (verdict_append cs ds)
  where
    go : (b : Bool) → verdict (cs ++ ds) ≡ and_then (verdict cs) (verdict ds) → cond b (verdict (cs ++ ds)) (stop c.refusal) ≡ and_then (cond b (verdict cs) (stop c.refusal)) (verdict ds)
    go true h = h
    go false h = refl

-- facts that hold, each
abbrev pub AllTrue : List Bool → Type 0
AllTrue [] = Unit {0}
AllTrue (b ∷ bs) = (b ≡ true) × AllTrue bs

pub needed : (r : Refusal) (bs : List Bool) → Passed (need_all r bs) → AllTrue bs
needed r [] h = tt
needed r (b ∷ bs) h = (h.0, needed r bs h.1)

pub need_all_lem : (r : Refusal) (bs : List Bool) → AllTrue bs → Passed (need_all r bs)
need_all_lem r [] h = tt
need_all_lem r (b ∷ bs) h = (h.0, need_all_lem r bs h.1)

pub true-split : (xs ys : List Bool) → AllTrue (xs ++ ys) → AllTrue xs × AllTrue ys
true-split [] ys h = (tt, h)
true-split (x ∷ xs) ys h = let r = true-split xs ys h.1 in ((h.0, r.0), r.1)

pub true_join : (xs ys : List Bool) → AllTrue xs → AllTrue ys → AllTrue (xs ++ ys)
true_join [] ys h k = k
true_join (x ∷ xs) ys h k = (h.0, true_join xs ys h.1 k)

-- what every request that passes has passed: the sizes, places 6 to 10, and place 11
module _ (m : ℕ) (s : State) (t : List ℕ) (q : Request) (b : List ℕ) (h : Passed (checks m s t q b)) where
  abbrev p : Places
  p = places m s t q b

  abbrev nonces : List Check
  nonces = nonces_left s t (grant m t q b) ∷ []

  parted : Passed (need_all at_request (sizes m t ++ p.request)) × Passed ((p.after ++ p.tokens) ++ (p.rest ++ nonces))
  parted = passed-split (need_all at_request (sizes m t ++ p.request)) ((p.after ++ p.tokens) ++ (p.rest ++ nonces)) h

  pub sizes-passed : AllTrue (sizes m t)
  sizes-passed = (true-split (sizes m t) p.request (needed at_request (sizes m t ++ p.request) parted.0)).0

  last : Passed p.rest × Passed nonces
  last = passed-split p.rest nonces (passed-split (p.after ++ p.tokens) (p.rest ++ nonces) parted.1).1

  pub rest-passed : Passed p.rest
  rest-passed = last.0

  pub nonces_passed : (book s t (grant m t q b)).state.next ≤ spent
  nonces_passed = leb-true (book s t (grant m t q b)).state.next spent last.1.0

-- what an access that passes has passed, of whichever kind
module _ (m : ℕ) (s : State) (t : List ℕ) (w : Access) (k u : ℕ) (φ : Shift) (b : List ℕ) where
  abbrev e : Entry
  e = named_entry t k

  abbrev of : Asked
  of = asks w (named k).offset b e

  pub record AccessPassed : Type 0 where
    pub sizes : AllTrue (sizes m t)
    pub settings : AllTrue (settings s t)
    pub task : task_fits u ≡ true
    pub asked : AllTrue of.request
    pub shift : AllTrue (shift_fits φ)
    pub after : Passed of.after
    pub sound : (leases_sound φ).holds ≡ true
    pub tokens : Passed (reachable m t k u)
    pub opened : (window_open φ k).holds ≡ true
    pub right : within (right_for w) e.permissions ≡ true
    pub bounds : Passed of.bounds
    pub nonces : leb s.next spent ≡ true

  abbrev one : List Bool
  one = settings s t ++ (task_fits u ∷ of.request)

  abbrev two : List Check
  two = of.after ++ (leases_sound φ ∷ [])

  abbrev three : List Check
  three = reachable m t k u ++ (window_open φ k ∷ [])

  abbrev four : List Check
  four = rights_held (right_for w) e ∷ of.bounds

  abbrev five : List Check
  five = nonces_left s t (grant m t (accessing w k u φ) b) ∷ []

  pub access-passed : Passed (checks m s t (accessing w k u φ) b) → AccessPassed
  access-passed h =
      let a = passed-split (need_all at_request (sizes m t ++ (one ++ shift_fits φ))) ((two ++ three) ++ (four ++ five)) h in
      let f = true-split (sizes m t) (one ++ shift_fits φ) (needed at_request (sizes m t ++ (one ++ shift_fits φ)) a.0) in
      let g = true-split one (shift_fits φ) f.1 in
      let i = true-split (settings s t) (task_fits u ∷ of.request) g.0 in
      let c = passed-split (two ++ three) (four ++ five) a.1 in
      let d = passed-split two three c.0 in
      let l = passed-split of.after (leases_sound φ ∷ []) d.0 in
      let r = passed-split (reachable m t k u) (window_open φ k ∷ []) d.1 in
      let z = passed-split four five c.1 in
      record {
        sizes = f.0;
        settings = i.0;
        task = i.1.0;
        asked = i.1.1;
        shift = g.1;
        after = l.0;
        sound = l.1.0;
        tokens = r.0;
        opened = r.1.0;
        right = z.0.0;
        bounds = z.0.1;
        nonces = z.1.0;
      }

  pub passed-access : AccessPassed → Passed (checks m s t (accessing w k u φ) b)
  passed-access p =
      passed_join (need_all at_request (sizes m t ++ (one ++ shift_fits φ))) ((two ++ three) ++ (four ++ five))
      (need_all_lem at_request (sizes m t ++ (one ++ shift_fits φ)) (true_join (sizes m t) (one ++ shift_fits φ) p.sizes (true_join one (shift_fits φ) (true_join (settings s t) (task_fits u ∷ of.request) p.settings (p.task, p.asked)) p.shift)))
      (passed_join (two ++ three) (four ++ five)
      (passed_join two three (passed_join of.after (leases_sound φ ∷ []) p.after (p.sound, tt)) (passed_join (reachable m t k u) (window_open φ k ∷ []) p.tokens (p.opened, tt)))
      (passed_join four five (p.right, p.bounds) (p.nonces, tt)))

-- what holds of a pass, with the checks passed, and of every stop, holds of the verdict
by_checks : (P : Verdict → Type 0) (cs : List Check) → (Passed cs → P pass) → ((r : Refusal) → P (stop r)) → P (verdict cs)
by_checks P [] f g = f tt
by_checks P (c ∷ cs) f g = by_cond P c.holds (λ h. by_checks P cs (λ p. f (h, p)) g) (λ h. g c.refusal)

-- and so of what is decided on a request without a look at memory
pub by_decision : (P : Decision → Type 0) (m : ℕ) (s : State) (t : List ℕ) (q : Request) (b : List ℕ)
    → (Passed (checks m s t q b) → P (carried s t (grant m t q b)))
    → ((r : Refusal) → P (refused s t r))
    → P (decide m s t q b)
unfolding decide
by_decision P m s t q b f g = by_checks (λ (v : Verdict). P (settle v s t (grant m t q b))) (checks m s t q b) f g

-- one whose checks pass, and the last ones, of what it makes, is accepted
pub granted_by : (σ : Machine) (q : Call) → Passed (checks (length σ.memory) σ.state σ.table q.request q.buffer)
    → Passed (lastly (grant (length σ.memory) σ.table q.request q.buffer).effect.fill σ.memory q.buffer) → Accepted σ q
unfolding answer decide
granted_by σ q h l =
    rw (passing (checks (length σ.memory) σ.state σ.table q.request q.buffer) h, passing (lastly (grant (length σ.memory) σ.table q.request q.buffer).effect.fill σ.memory q.buffer) l)

-- all checks but place 11; one that passes these, and the last ones, is accepted, or refused by 11
abbrev pub judged : ℕ → State → List ℕ → Request → List ℕ → List Check
judged m s t q b = let p = places m s t q b in need_all at_request (sizes m t ++ p.request) ++ ((p.after ++ p.tokens) ++ p.rest)

pub but_nonces : (σ : Machine) (q : Call) → Passed (judged (length σ.memory) σ.state σ.table q.request q.buffer)
    → Passed (lastly (grant (length σ.memory) σ.table q.request q.buffer).effect.fill σ.memory q.buffer) → Accepted σ q ⊎ ((answer σ q).reply.refusal ≡ 11)
unfolding answer decide
but_nonces σ q h l =
    let whole : checks m σ.state σ.table q.request q.buffer ≡ cs ++ (nonces ∷ []) =
    rw (append_assoc (need_all at_request (sizes m σ.table ++ p.request)) ((p.after ++ p.tokens) ++ p.rest) (nonces ∷ []), append_assoc (p.after ++ p.tokens) p.rest (nonces ∷ [])) in
    let last : verdict (checks m σ.state σ.table q.request q.buffer) ≡ verdict (nonces ∷ []) = ap verdict whole ∙ verdict_append cs (nonces ∷ []) ∙ rw (passing cs h) in
    let number : Verdict → ℕ = λ v. (finished σ.state σ.table σ.memory q.buffer (settle v σ.state σ.table (grant m σ.table q.request q.buffer))).reply.refusal in
    rw last
    (by_cond (λ (v : Verdict). (number v ≡ 0) ⊎ (number v ≡ 11)) nonces.holds
    (λ e. inl (rw (passing (lastly (grant (length σ.memory) σ.table q.request q.buffer).effect.fill σ.memory q.buffer) l)))
    (λ e. inr refl))
  where
    m : ℕ
    m = length σ.memory

    p : Places
    p = places m σ.state σ.table q.request q.buffer

    cs : List Check
    cs = judged m σ.state σ.table q.request q.buffer

    nonces : Check
    nonces = nonces_left σ.state σ.table (grant m σ.table q.request q.buffer)

-- ---- the last stage

-- what is made, where it passes: it keeps to its limit, and has its room
pub made_fits : (f : Fill) (memory b : List ℕ) → Passed (lastly f memory b) → (limited f memory ≡ true) × (told_length f memory ≤ length b)
made_fits unfilled memory b h = (refl, omega arith)
made_fits (entire a n f) memory b h = (refl, omega arith)
made_fits (front a n f limit) memory b h = (h.0, leb-true (length (f (take n (drop a memory)))) (length b) h.1.0)

pub fits_made : (f : Fill) (memory b : List ℕ) → limited f memory ≡ true → told_length f memory ≤ length b → Passed (lastly f memory b)
fits_made unfilled memory b h i = tt
fits_made (entire a n f) memory b h i = tt
fits_made (front a n f limit) memory b h i = (h, (le-leb (length (f (take n (drop a memory)))) (length b) i, tt))

-- and where it does not: 14
pub made-stops : (f : Fill) (memory b : List ℕ) (r : Refusal) → verdict (lastly f memory b) ≡ stop r → r ≡ at_room
made-stops unfilled memory b r h = cc
made-stops (entire a n f) memory b r h = cc
made-stops (front a n f limit) memory b r h =
    let o = f (take n (drop a memory)) in
    by_cond (λ (v : Verdict). v ≡ stop r → r ≡ at_room) (limit o)
    (λ i. by_cond (λ (v : Verdict). v ≡ stop r → r ≡ at_room) (leb (length o) (length b)) (λ j e. cc) (λ j e. cc))
    (λ i e. cc)
    h

-- ---- a call

module _ (σ : Machine) (q : Call) where
  abbrev cs : List Check
  cs = checks (length σ.memory) σ.state σ.table q.request q.buffer

  abbrev asked : Grant
  asked = grant (length σ.memory) σ.table q.request q.buffer

  -- the last checks, of what it makes
  abbrev ls : List Check
  ls = lastly asked.effect.fill σ.memory q.buffer

  abbrev given : Decision
  given = telling (told_length asked.effect.fill σ.memory) (carried σ.state σ.table asked)

  -- it is accepted, having passed its checks and the last ones, and does what `grant` says; or the last ones stop it; or it is refused before
  pub data Course : Type 0 where
    through : Passed cs → Passed ls → blind σ q ≡ carried σ.state σ.table asked → decision σ q ≡ given → Course
    late : Passed cs → (r : Refusal) → verdict ls ≡ stop r → blind σ q ≡ carried σ.state σ.table asked → decision σ q ≡ refused σ.state σ.table r → Course
    early : (r : Refusal) → blind σ q ≡ refused σ.state σ.table r → decision σ q ≡ refused σ.state σ.table r → Course

  pub course : Course
  course = by_decision (λ (d : Decision). blind σ q ≡ d → Course) (length σ.memory) σ.state σ.table q.request q.buffer (λ p e. go p e (verdict ls) refl) (λ r e. early r e (rw e)) refl
    where
      go : Passed cs → blind σ q ≡ carried σ.state σ.table asked → (v : Verdict) → verdict ls ≡ v → Course
      go p e pass h = through p (passed ls h) e (rw (e, h))
      go p e (stop r) h = late p r h e (rw (e, h))

  -- in short: accepted or refused
  pub data Turned : Type 0 where
    taken : Accepted σ q → Passed cs → decision σ q ≡ given → Turned
    away : (r : Refusal) → decision σ q ≡ refused σ.state σ.table r → (Accepted σ q → ⊥) → Turned

  abbrev number : Decision → ℕ
  number d = d.reply.refusal

  pub turned : Turned
  unfolding answer
  turned = go course
    where
      go : Course → Turned
      go (through p l b e) = taken (ap number e) p e
      go (late p r h b e) = away r e (λ a. omega (arith, (tells r).least, ap number e))
      go (early r b e) = away r e (λ a. omega (arith, (tells r).least, ap number e))

  pub accepted : Accepted σ q → Passed cs × (decision σ q ≡ given)
  accepted a = go turned
    where
      go : Turned → Passed cs × (decision σ q ≡ given)
      go (taken b p e) = (p, e)
      go (away r e n) = absurd (n a)

  -- what it makes fits, and it was granted before a look at memory
  pub accepted_last : Accepted σ q → Passed ls × (blind σ q ≡ carried σ.state σ.table asked)
  unfolding answer
  accepted_last a = go course
    where
      go : Course → Passed ls × (blind σ q ≡ carried σ.state σ.table asked)
      go (through p l b e) = (l, b)
      go (late p r h b e) = absurd (omega (arith, (tells r).least, ap number e))
      go (early r b e) = absurd (omega (arith, (tells r).least, ap number e))

  -- a number but 14 is that of its checks
  pub answered : (n : ℕ) → 1 ≤ n → n ≢ 14 → (answer σ q).reply.refusal ≡ n → told (verdict cs) ≡ n
  unfolding answer decide
  answered n l m h = go course
    where
      go : Course → told (verdict cs) ≡ n
      go (through p k b e) = absurd (omega (arith, ap number e))
      go (late p r k b e) = absurd (m (sym h ∙ ap number e ∙ ap refusal_number (made-stops asked.effect.fill σ.memory q.buffer r k)))
      go (early r b e) = sym (settled-told (verdict cs) σ.state σ.table asked) ∙ ap number b ∙ sym (ap number e) ∙ h

  -- an answer's number is the verdict of the checks and then of the last ones
  pub answer-told : (answer σ q).reply.refusal ≡ told (verdict (cs ++ ls))
  unfolding answer decide
  answer-told = by (verdict cs) ∙ ap told (sym (verdict_append cs ls))
    where
      over : (n : ℕ) (v : Verdict) → (concluded v σ.state σ.table n (carried σ.state σ.table asked)).reply.refusal ≡ told v
      over n pass = refl
      over n (stop r) = refl

      by : (v : Verdict) → (finished σ.state σ.table σ.memory q.buffer (settle v σ.state σ.table asked)).reply.refusal ≡ told (and_then v (verdict ls))
      by pass = over (told_length asked.effect.fill σ.memory) (verdict ls)
      by (stop r) = refl
