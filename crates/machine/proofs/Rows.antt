-- The rows of refusals, by computation; and a request that issues nothing passes place 11.
-- Assumes nothing.
use mathlib.Core.Path.{◌≡◌, refl, sym, ap, subst, ◌∙◌}
use mathlib.Core.Logic.{◌⊎◌, inl, inr}
use mathlib.Core.Bool.{Bool, true, cond}
use mathlib.Core.List.{List, [], ◌∷◌, ◌++◌, append_assoc, Memᴰ}
use Prim.Native.Nat.{ℕ}
use native.Mathlib.Omega.{arith}
use lib.Dec.{eqb, leb}
use lib.ListN.{drop, length, take}
use borrow.Author.Tests.{eqb-true, le-leb, ltb-true}
use Rattle.machine.specs.Operations.{entire, Fill, front, grant, unfilled}
use Rattle.machine.specs.Parts.{begun, spent, State}
use Rattle.machine.specs.Requests.{accessing, clone, create, derive, dumping, execute_only, fetching, loading, lock, look, merge, moving, page_in, page_out, reading, release, Request, reset, revoke, task_of, unlock, writing}
use Rattle.machine.specs.Rows.{Among, ended, numbers, Ordered, row, Tasks}
use Rattle.machine.specs.Steps.{pass, stop, Verdict, verdict}
use Rattle.machine.specs.Stops.{at_request, at_room, Check, checks, lastly, need, need_all, nonces_left, Places, places, refusal_number, settings, sizes}
use Rattle.machine.specs.Writes.{opened}
use Rattle.machine.proofs.Choices.{by_both, by_cond}
use Rattle.machine.proofs.Decided.{and_then, answer-told, needed, Passed, passed-split, spared, told, true-split, verdict_append}
use Rattle.machine.proofs.WriteLaws.{Calm, calm_still, release_calm}

-- ---- a verdict's number is one of those of its checks

Stopped : List ℕ → Verdict → Type 0
Stopped ns pass = Unit {0}
Stopped ns (stop r) = Memᴰ (refusal_number r) ns

later : (n : ℕ) (ns : List ℕ) (v : Verdict) → Stopped ns v → Stopped (n ∷ ns) v
unfolding Stopped
later n ns pass h = tt
later n ns (stop r) h = mathlib.Core.List.Memᴰ.tail h

stopped : (k : ℕ) (cs : List Check) → Stopped (k ∷ numbers k cs) (verdict cs)
unfolding Stopped
stopped k [] = tt
stopped k (c ∷ cs) =
    let n : ℕ = refusal_number c.refusal in
    by_cond (λ (ns : List ℕ). Stopped (k ∷ ns) (cond c.holds (verdict cs) (stop c.refusal))) (eqb n k)
    (λ e. by_cond (λ (v : Verdict). Stopped (k ∷ numbers k cs) v) c.holds (λ h. stopped k cs) (λ h. mathlib.Core.List.Memᴰ.head (eqb-true n k e)))
    (λ e. by_cond (λ (v : Verdict). Stopped (k ∷ n ∷ numbers n cs) v) c.holds
    (λ h. later k (n ∷ numbers n cs) (verdict cs) (stopped n cs))
    (λ h. mathlib.Core.List.Memᴰ.tail (mathlib.Core.List.Memᴰ.head refl)))

-- ---- place 11

-- a last check that holds where those before it do changes no verdict
last_passed : (cs : List Check) (c : Check) → (Passed cs → c.holds ≡ true) → verdict (cs ++ (c ∷ [])) ≡ verdict cs
last_passed [] c h = rw (h tt)
last_passed (x ∷ cs) c h = by_both (λ (v w : Verdict). v ≡ w) x.holds (λ e. last_passed cs c (λ p. h (e, p))) (λ e. refl)

module _ (m : ℕ) (s : State) (t : List ℕ) (q : Request) (b : List ℕ) where
  abbrev before : List Check
  before = need_all at_request (sizes m t ++ (places m s t q b).request) ++ (((places m s t q b).after ++ (places m s t q b).tokens) ++ (places m s t q b).rest)

  abbrev last : Check
  last = nonces_left s t (grant m t q b)

  judged : checks m s t q b ≡ before ++ (last ∷ [])
  judged =
      let p : Places = places m s t q b in
      ap (λ (cs : List Check). need_all at_request (sizes m t ++ p.request) ++ cs) (sym (append_assoc (p.after ++ p.tokens) p.rest (last ∷ [])))
      ∙ sym (append_assoc (need_all at_request (sizes m t ++ p.request)) ((p.after ++ p.tokens) ++ p.rest) (last ∷ []))

  abbrev made : (memory : List ℕ) → List Check
  made memory = lastly (grant m t q b).effect.fill memory b

  -- one that issues has all its checks in its row
  issues : (memory : List ℕ) → numbers 0 (checks m s t q b ++ made memory) ≡ row q → Stopped (0 ∷ row q) (verdict (checks m s t q b ++ made memory))
  issues memory e = rw e at (stopped 0 (checks m s t q b ++ made memory))

  -- another has all but place 11
  spares : (memory : List ℕ) → numbers 0 (before ++ made memory) ≡ row q → (Passed before → last.holds ≡ true) → Stopped (0 ∷ row q) (verdict (checks m s t q b ++ made memory))
  spares memory e h =
      let same : verdict (checks m s t q b) ≡ verdict before = ap verdict judged ∙ last_passed before last h in
      let all : verdict (checks m s t q b ++ made memory) ≡ verdict (before ++ made memory) =
      verdict_append (checks m s t q b) (made memory) ∙ ap (λ (v : Verdict). and_then v (verdict (made memory))) same ∙ sym (verdict_append before (made memory)) in
      subst (λ (v : Verdict). Stopped (0 ∷ row q) v) (sym all) (rw e at (stopped 0 (before ++ made memory)))

  -- with place 1 passed, a request that takes the state and issues nothing passes place 11
  calm : (more : List Bool) → (places m s t q b).request ≡ settings s t ++ more → Calm (grant m t q b).writes → Passed before → last.holds ≡ true
  calm more r c p =
      let one = needed at_request (sizes m t ++ (places m s t q b).request) (passed-split (need_all at_request (sizes m t ++ (places m s t q b).request)) (((places m s t q b).after ++ (places m s t q b).tokens) ++ (places m s t q b).rest) p).0 in
      let two = (true-split (settings s t) more (rw r at (true-split (sizes m t) (places m s t q b).request one).1)).0 in
      rw (calm_still (grant m t q b).encoding (opened s t) (grant m t q b).writes c).state two.1.1.0

-- ---- each request

fifth : {a b c d : ℕ} {ns : List ℕ} → Memᴰ 5 (a ∷ b ∷ c ∷ d ∷ 5 ∷ ns)
fifth = mathlib.Core.List.Memᴰ.tail (mathlib.Core.List.Memᴰ.tail (mathlib.Core.List.Memᴰ.tail (mathlib.Core.List.Memᴰ.tail (mathlib.Core.List.Memᴰ.head refl))))

-- behind 17 too, after 16, and after 12 and 13
sixth : {a b c d e : ℕ} {ns : List ℕ} → Memᴰ 5 (a ∷ b ∷ c ∷ d ∷ e ∷ 5 ∷ ns)
sixth = mathlib.Core.List.Memᴰ.tail fifth

seventh : {a b c d e f : ℕ} {ns : List ℕ} → Memᴰ 5 (a ∷ b ∷ c ∷ d ∷ e ∷ f ∷ 5 ∷ ns)
seventh = mathlib.Core.List.Memᴰ.tail sixth

ninth : {a b c d e f g h : ℕ} {ns : List ℕ} → Memᴰ 5 (a ∷ b ∷ c ∷ d ∷ e ∷ f ∷ g ∷ h ∷ 5 ∷ ns)
ninth = mathlib.Core.List.Memᴰ.tail (mathlib.Core.List.Memᴰ.tail seventh)

-- its checks, with the last ones, are those of its row, what stops it is one of them, 14 is among the last alone, and it carries a task only if it is judged for
-- the lock
row_of : (m : ℕ) (s : State) (t : List ℕ) (q : Request) (memory b : List ℕ)
    → (numbers 0 (checks m s t q b ++ lastly (grant m t q b).effect.fill memory b) ≡ ended (row q)) × Stopped (0 ∷ row q) (verdict (checks m s t q b ++ lastly (grant m t q b).effect.fill memory b)) × (spared 14 (checks m s t q b) ≡ true) × ((task_of q ≡ 0) ⊎ Memᴰ 5 (row q))
row_of m s t (reset k0 k1 ν) z b = (refl, spares m s t (reset k0 k1 ν) b z refl (λ p. le-leb ν spent (omega (arith, ltb-true ν spent p.1.1.1.1.1.1.0))), refl, inl refl)
row_of m s t (accessing (moving reading) k u φ) z b = (refl, spares m s t (accessing (moving reading) k u φ) b z refl (calm m s t (accessing (moving reading) k u φ) b _ refl tt), refl, inr seventh)
row_of m s t (accessing (moving writing) k u φ) z b = (refl, spares m s t (accessing (moving writing) k u φ) b z refl (calm m s t (accessing (moving writing) k u φ) b _ refl tt), refl, inr seventh)
row_of m s t (accessing (moving fetching) k u φ) z b = (refl, spares m s t (accessing (moving fetching) k u φ) b z refl (calm m s t (accessing (moving fetching) k u φ) b _ refl tt), refl, inr seventh)
row_of m s t (create k u l x p c) z b = (refl, issues m s t (create k u l x p c) b z refl, refl, inr sixth)
row_of m s t (merge j k u c) z b = (refl, issues m s t (merge j k u c) b z refl, refl, inr sixth)
row_of m s t (derive k o l p c) z b = (refl, issues m s t (derive k o l p c) b z refl, refl, inl refl)
row_of m s t (execute_only k c) z b = (refl, issues m s t (execute_only k c) b z refl, refl, inl refl)
row_of m s t (clone k) z b = (refl, spares m s t (clone k) b z refl (calm m s t (clone k) b _ refl tt), refl, inl refl)
row_of m s t (release k) z b = (refl, spares m s t (release k) b z refl (calm m s t (release k) b _ refl (release_calm m t _)), refl, inl refl)
row_of m s t (lock k u) z b = (refl, spares m s t (lock k u) b z refl (calm m s t (lock k u) b _ refl tt), refl, inr sixth)
row_of m s t (unlock k u) z b = (refl, spares m s t (unlock k u) b z refl (calm m s t (unlock k u) b _ refl tt), refl, inr sixth)
row_of m s t (accessing loading k u φ) z b = (refl, spares m s t (accessing loading k u φ) b z refl (calm m s t (accessing loading k u φ) b _ refl tt), refl, inr ninth)
row_of m s t (accessing dumping k u φ) z b = (refl, spares m s t (accessing dumping k u φ) b z refl (calm m s t (accessing dumping k u φ) b _ refl tt), refl, inr seventh)
row_of m s t (page_out k u f c) z b = (refl, issues m s t (page_out k u f c) b z refl, refl, inr sixth)
row_of m s t (page_in j k u c) z b = (refl, issues m s t (page_in j k u c) b z refl, refl, inr fifth)
row_of m s t (look v) z b = elim v [ ]
row_of m s t (revoke k c) z b = (refl, issues m s t (revoke k c) b z refl, refl, inl refl)

pub rows_ordered : Ordered
unfolding Ordered
rows_ordered m s t q memory b = (row_of m s t q memory b).0

pub rows_tasks : Tasks
unfolding Tasks
rows_tasks q = (row_of 0 (begun [] 0 0 0) [] q [] []).3

-- 14 is none of a request's own checks
pub late_room : (m : ℕ) (s : State) (t : List ℕ) (q : Request) (b : List ℕ) → spared 14 (checks m s t q b) ≡ true
late_room m s t q b = (row_of m s t q [] b).2

pub refusals-among : Among
unfolding Among Stopped
refusals-among σ q =
    let m : ℕ = length σ.memory in
    rw (answer-told σ q)
    (by (verdict (checks m σ.state σ.table q.request q.buffer ++ lastly (grant m σ.table q.request q.buffer).effect.fill σ.memory q.buffer))
    (row_of m σ.state σ.table q.request σ.memory q.buffer).1)
  where
    by : (v : Verdict) → Stopped (0 ∷ row q.request) v → Memᴰ (told v) (0 ∷ row q.request)
    by pass h = mathlib.Core.List.Memᴰ.head refl
    by (stop r) h = h

-- ---- what makes nothing

-- the number of a list's last check is among its numbers, or it's the one before them
last_number : (k : ℕ) (cs : List Check) (c : Check) → Memᴰ (refusal_number c.refusal) (k ∷ numbers k (cs ++ (c ∷ [])))
last_number k [] c =
    by_cond (λ (ns : List ℕ). Memᴰ (refusal_number c.refusal) (k ∷ ns)) (eqb (refusal_number c.refusal) k)
    (λ e. mathlib.Core.List.Memᴰ.head (eqb-true (refusal_number c.refusal) k e))
    (λ e. mathlib.Core.List.Memᴰ.tail (mathlib.Core.List.Memᴰ.head refl))
last_number k (d ∷ cs) c =
    let n : ℕ = refusal_number d.refusal in
    by_cond (λ (ns : List ℕ). Memᴰ (refusal_number c.refusal) (k ∷ ns)) (eqb n k) (λ e. last_number k cs c) (λ e. mathlib.Core.List.Memᴰ.tail (last_number n cs c))

-- 14 stands in a row if it stands there with 11
in_row : (ns : List ℕ) → Memᴰ 14 (ended ns) → Memᴰ 14 ns
in_row [] h = absurd (omega (arith, mathlib.Core.List.Memᴰ.eq_of_singleton h))
in_row (n ∷ ns) h =
    by_cond (λ (xs : List ℕ). Memᴰ 14 xs → Memᴰ 14 (n ∷ ns)) (eqb n 11) (λ e i. i)
    (λ e. by_cond (λ (xs : List ℕ). Memᴰ 14 xs → Memᴰ 14 (n ∷ ns)) (eqb n 14) (λ f i. behind (mathlib.Core.List.Memᴰ.cases_cons i)) (λ f i. each (in_row ns) (mathlib.Core.List.Memᴰ.cases_cons i)))
    h
  where
    each : (Memᴰ 14 (ended ns) → Memᴰ 14 ns) → (14 ≡ n) ⊎ Memᴰ 14 (ended ns) → Memᴰ 14 (n ∷ ns)
    each f (inl e) = mathlib.Core.List.Memᴰ.head e
    each f (inr i) = mathlib.Core.List.Memᴰ.tail (f i)

    behind : (◌≡◌ {A = ℕ} 14 11) ⊎ Memᴰ 14 (n ∷ ns) → Memᴰ 14 (n ∷ ns)
    behind (inl e) = absurd (omega (arith, e))
    behind (inr i) = i

-- a fill that makes nothing
pub data Plain : Fill → Type 0 where
  leaves : Plain unfilled
  moves : {a n : ℕ} {f : List ℕ → List ℕ} → Plain (entire a n f)

-- and that of a request with no 14 in its row is one
pub plain : (m : ℕ) (s : State) (t : List ℕ) (q : Request) (b : List ℕ) → (Memᴰ 14 (row q) → ⊥) → Plain (grant m t q b).effect.fill
plain m s t q b none = by (grant m t q b).effect.fill (row_of m s t q [] b).0
  where
    found : (◌≡◌ {A = ℕ} 14 0) ⊎ Memᴰ 14 (ended (row q)) → Memᴰ 14 (ended (row q))
    found (inl e) = absurd (omega (arith, e))
    found (inr i) = i

    by : (f : Fill) → numbers 0 (checks m s t q b ++ lastly f [] b) ≡ ended (row q) → Plain f
    by unfilled e = leaves
    by (entire a n f) e = moves
    by (front a n f limit) e =
        let o : List ℕ = f (take n (drop a [])) in
        let cs : List Check = checks m s t q b ++ (need at_room (limit o) ∷ []) in
        let c : Check = need at_room (leb (length o) (length b)) in
        let all : cs ++ (c ∷ []) ≡ checks m s t q b ++ lastly (front a n f limit) [] b = append_assoc (checks m s t q b) (need at_room (limit o) ∷ []) (c ∷ []) in
        let there : Memᴰ 14 (0 ∷ ended (row q)) = subst (λ (ns : List ℕ). Memᴰ 14 (0 ∷ ns)) (ap (numbers 0) all ∙ e) (last_number 0 cs c) in
        absurd (none (in_row (row q) (found (mathlib.Core.List.Memᴰ.cases_cons there))))
