-- Walks, climbs and the searches for a number and for a nonce: none ends for want of fuel, and what each finds.
-- Assumes nothing.
use mathlib.Core.Path.{◌≡◌, refl, ap, ◌∙◌}
use mathlib.Core.Logic.{◌≢◌}
use mathlib.Core.Bool.{true, false, false≢true, not}
use mathlib.Core.List.{List, ◌∷◌}
use Prim.Native.Nat.{ℕ, zero, suc, ◌+◌, ◌-◌, ◌≤◌, ◌<◌}
use native.Mathlib.Omega.{arith}
use native.Mathlib.Decide.{dec_lt, ℕ_discrete}
use lib.Dec.{eqb, leb, ltb}
use borrow.Author.Tests.{eqb-true, eqb-false, le-ltb, lt-ltb, ltb-true}
use Rattle.layout.specs.Form.{ill_formed}
use Rattle.layout.specs.declared.entry.Entry.{Entry}
use Rattle.layout.specs.Entry.{Laid, laid_direct, laid_indirect, laid_paged}
use Rattle.layout.proofs.FormLaws.{laid}
use Rattle.machine.specs.Issuing.{after, issue, last_held, new_number, other_nonce, pass_over, seek}
use Rattle.machine.specs.Line.{is_dead, is_ill, is_paged, Line, line_of, linked, owner, owner_of, parent_number, walk}
use Rattle.machine.specs.Operations.{climb}
use Rattle.machine.specs.Parts.{at, size, spent, State}
use Rattle.machine.specs.Searches.{FirstFree, FirstOther, NoneFree, onward, SameTag}
use Rattle.machine.specs.Segments.{above, itself, Owns}
use Rattle.machine.specs.Writes.{vacate, vacated, Write}
use Rattle.machine.proofs.Basics.{link, parent, Present}
use Rattle.machine.proofs.Choices.{by_both, by_cond}
use Rattle.machine.proofs.TableLaws.{vacated-other}

-- ---- up a line

-- the first entry of a line that is not ill-formed is well-formed
pub line_formed_lem : (m : ℕ) (t : List ℕ) (n : ℕ) → not (is_ill (line_of m t n)) ≡ true → ill_formed m (at t n) ≡ false
unfolding walk
line_formed_lem m t n =
    by_cond (λ (l : Line). not (is_ill l) ≡ true → ill_formed m (at t n) ≡ false) (ill_formed m (at t n))
    (λ e h. absurd (false≢true h))
    (λ e h. e)

abbrev pub Live : Line → Type 0
Live l = (not (is_ill l) ≡ true) × (not (is_dead l) ≡ true)

-- a live walk ends at the owner
pub walk-owns : (f m : ℕ) (t : List ℕ) (n : ℕ) → Present (at t n) → Live (walk f m t n) → Owns t n (owner_of (walk f m t n))
unfolding walk
walk-owns zero m t n k = λ h. absurd (false≢true h.1)
walk-owns (suc f) m t n k =
    by_cond P (ill_formed m (at t n)) (λ w h. absurd (false≢true h.0))
    (λ w. by_cond P (eqb (at t n).kind 1)
    (λ d h. itself (eqb-true (at t n).kind 1 d))
    (λ d. by_cond P (is_paged (at t n)) (λ g h. absurd (k.here (eqb-true (at t n).kind 3 g)))
    (λ g. by_cond P (linked t (at t n))
    (λ l h.
    above (record { indirect = kind_two (laid m (at t n) k.full w) (eqb-false (at t n).kind 1 d); holds = l })
    (walk-owns f m t (parent_number (at t n)) (link (at t n) (parent t n) l).present h))
    (λ l h. absurd (false≢true h.1)))))
  where
    P : Line → Type 0
    P x = Live x → Owns t n (owner_of x)

    kind_two : Laid (at t n).kind → (at t n).kind ≢ 1 → (at t n).kind ≡ 2
    kind_two (laid_direct i) d = absurd (d i)
    kind_two (laid_indirect i) d = i
    kind_two (laid_paged i) d = absurd (k.here i)

pub walk-owner : (f m : ℕ) (t : List ℕ) (n : ℕ) → Present (at t n) → Live (walk f m t n) → walk f m t n ≡ owner (owner_of (walk f m t n))
unfolding walk
walk-owner zero m t n k = λ h. absurd (false≢true h.1)
walk-owner (suc f) m t n k =
    by_cond P (ill_formed m (at t n)) (λ w h. absurd (false≢true h.0))
    (λ w. by_cond P (eqb (at t n).kind 1) (λ d h. refl)
    (λ d. by_cond P (is_paged (at t n)) (λ g h. absurd (k.here (eqb-true (at t n).kind 3 g)))
    (λ g. by_cond P (linked t (at t n)) (λ l h. walk-owner f m t (parent_number (at t n)) (link (at t n) (parent t n) l).present h) (λ l h. absurd (false≢true h.1)))))
  where
    P : Line → Type 0
    P x = Live x → x ≡ owner (owner_of x)

-- and the owner is well-formed
pub walk-formed : (f m : ℕ) (t : List ℕ) (n : ℕ) → Present (at t n) → Live (walk f m t n) → ill_formed m (at t (owner_of (walk f m t n))) ≡ false
unfolding walk
walk-formed zero m t n k = λ h. absurd (false≢true h.1)
walk-formed (suc f) m t n k =
    by_cond P (ill_formed m (at t n)) (λ w h. absurd (false≢true h.0))
    (λ w. by_cond P (eqb (at t n).kind 1)
    (λ d h. w)
    (λ d. by_cond P (is_paged (at t n)) (λ g h. absurd (k.here (eqb-true (at t n).kind 3 g)))
    (λ g. by_cond P (linked t (at t n)) (λ l h. walk-formed f m t (parent_number (at t n)) (link (at t n) (parent t n) l).present h) (λ l h. absurd (false≢true h.1)))))
  where
    P : Line → Type 0
    P x = Live x → ill_formed m (at t (owner_of x)) ≡ false

-- two fuels above the first entry's nonce give the same line
pub walk_fuel : (f g m : ℕ) (t : List ℕ) (n : ℕ) → (at t n).nonce < f → (at t n).nonce < g → walk f m t n ≡ walk g m t n
unfolding walk
walk_fuel zero g m t n h i = absurd (omega arith)
walk_fuel (suc f) zero m t n h i = absurd (omega arith)
walk_fuel (suc f) (suc g) m t n h i =
    by_both Same (ill_formed m (at t n)) (λ w. refl)
    (λ w. by_both Same (eqb (at t n).kind 1) (λ d. refl)
    (λ d. by_both Same (is_paged (at t n)) (λ p. refl)
    (λ p. by_both Same (linked t (at t n))
    (λ l. let o : (at t (parent_number (at t n))).nonce < (at t n).nonce = (link (at t n) (parent t n) l).older in
    walk_fuel f g m t (parent_number (at t n)) (omega arith) (omega arith))
    (λ l. refl))))
  where
    Same : Line → Line → Type 0
    Same x y = x ≡ y

-- more than what `line_of` walks with changes nothing
pub line_enough : (f m : ℕ) (t : List ℕ) (n : ℕ) → (at t n).nonce < f → walk f m t n ≡ line_of m t n
line_enough f m t n h = walk_fuel f (suc (at t n).nonce) m t n h (omega arith)

-- two fuels above the first entry's nonce give the same writes
pub climb_fuel : (f g : ℕ) (t : List ℕ) (n : ℕ) → (at t n).nonce < f → (at t n).nonce < g → climb f t n ≡ climb g t n
unfolding climb
climb_fuel zero g t n h i = absurd (omega arith)
climb_fuel (suc f) zero t n h i = absurd (omega arith)
climb_fuel (suc f) (suc g) t n h i =
    by_both Same (leb 2 (at t n).count) (λ c. refl)
    (λ c. by_both Same (eqb (at t n).count 0) (λ z. refl)
    (λ z. by_both Same (eqb (at t n).kind 1) (λ d. refl)
    (λ d. by_both (λ x y. Same (vacate n ∷ x) (vacate n ∷ y)) (linked t (at t n))
    (λ l. let p : ℕ = parent_number (at t n) in
    let o : (at t p).nonce < (at t n).nonce = (link (at t n) (parent t n) l).older in
    -- the parent is another entry, so that it is still there when the child is freed
    let apart : p ≢ n = λ e. omega (arith, ap (λ (k : ℕ). (at t k).nonce) e) in
    let e : (at (vacated t n) p).nonce ≡ (at t p).nonce = ap (λ (x : Entry). x.nonce) (vacated-other t n p apart) in
    ap (λ ws. vacate n ∷ ws) (climb_fuel f g (vacated t n) p (omega arith) (omega arith)))
    (λ l. refl))))
  where
    Same : List Write → List Write → Type 0
    Same x y = x ≡ y

-- ---- a new number

-- the number after k is not 0, and in a table of two or more entries it is inside
after_not_zero : (t : List ℕ) (k : ℕ) → after t k ≢ 0
after_not_zero t k = by_cond (λ (x : ℕ). x ≢ 0) (ltb (k + 1) (size t)) (λ i e. omega arith) (λ i e. omega arith)

after_inside : (t : List ℕ) (k : ℕ) → 1 < size t → after t k < size t
after_inside t k h = by_cond (λ (x : ℕ). x < size t) (ltb (k + 1) (size t)) (λ i. ltb-true (k + 1) (size t) i) (λ i. h)

-- what is sought and not found is not there
seek_none : (f : ℕ) (t : List ℕ) (k : ℕ) → seek f t k ≡ 0 → (i : ℕ) → i < f → (at t (onward t (suc i) k)).kind ≢ 0
unfolding seek
seek_none zero t k h i j = absurd (omega arith)
seek_none (suc f) t k h zero j =
    by_cond (λ (x : ℕ). x ≡ 0 → (at t (after t k)).kind ≢ 0) (eqb (at t (after t k)).kind 0)
    (λ e z. absurd (after_not_zero t k z))
    (λ e z. eqb-false (at t (after t k)).kind 0 e)
    h
seek_none (suc f) t k h (suc i) j =
    by_cond (λ (x : ℕ). x ≡ 0 → (at t (onward t (suc (suc i)) k)).kind ≢ 0) (eqb (at t (after t k)).kind 0)
    (λ e z. absurd (after_not_zero t k z))
    (λ e z. seek_none f t (after t k) z i (omega arith))
    h

-- a free number one place further on is the first, if the one that comes next is not free
one_more_lem : (t : List ℕ) (k f n : ℕ) → (at t (after t k)).kind ≢ 0 → FirstFree t (after t k) f n → FirstFree t k (suc f) n
one_more_lem t k f n h r =
    record { between = suc r.between; place = r.place; among = omega arith; taken = further; free = r.free; inside = r.inside; not_zero = r.not_zero }
  where
    further : (i : ℕ) → i < suc r.between → (at t (onward t (suc i) k)).kind ≢ 0
    further zero j = h
    further (suc i) j = r.taken i (omega arith)

seek_first : (f : ℕ) (t : List ℕ) (k : ℕ) → 1 < size t → seek f t k ≢ 0 → FirstFree t k f (seek f t k)
unfolding seek
seek_first zero t k b = λ h. absurd (h refl)
seek_first (suc f) t k b =
    by_cond (λ (x : ℕ). x ≢ 0 → FirstFree t k (suc f) x) (eqb (at t (after t k)).kind 0)
    (λ e h. record { between = 0; place = refl; among = omega arith; taken = λ i j. absurd (omega arith); free = eqb-true (at t (after t k)).kind 0 e; inside = after_inside t k b; not_zero = h })
    (λ e h. one_more_lem t k f (seek f t (after t k)) (eqb-false (at t (after t k)).kind 0 e) (seek_first f t (after t k) b h))

-- the round: up to the table's end, and on from 1
onward_up : (t : List ℕ) (i k : ℕ) → k + i < size t → onward t i k ≡ k + i
onward_up t zero k h = omega arith
onward_up t (suc i) k h =
    let e : after t k ≡ k + 1 = rw (lt-ltb (k + 1) (size t) (omega arith)) in
    rw e (onward_up t i (k + 1) (omega arith) ∙ omega arith)

onward_add : (t : List ℕ) (i j k : ℕ) → onward t (i + j) k ≡ onward t j (onward t i k)
onward_add t zero j k = let e : 0 + j ≡ j = omega arith in rw e
onward_add t (suc i) j k = let e : suc i + j ≡ suc (i + j) = omega arith in rw e (onward_add t i j (after t k))

-- every number but 0 is met
onward_all : (t : List ℕ) (k n : ℕ) → 0 < n → n < size t → (i : ℕ) × (i < size t - 1) × (onward t (suc i) k ≡ n)
onward_all t k n h hn = go (dec_lt k n)
  where
    -- so many places on is the table's end; none, if k is beyond it
    left : ℕ
    left = size t - 1 - k

    end : Dec (k < size t) → size t ≤ onward t left k + 1
    end (yes i) = omega (arith, onward_up t left k (omega arith))
    end (no i) = let z : size t - 1 - k ≡ 0 = omega arith in rw z (omega arith)

    turn : onward t (suc left) k ≡ 1
    turn =
        let l : suc left ≡ left + 1 = omega arith in
        rw l (onward_add t left 1 k ∙ rw (le-ltb (onward t left k + 1) (size t) (end (dec_lt k (size t)))))

    go : Dec (k < n) → (i : ℕ) × (i < size t - 1) × (onward t (suc i) k ≡ n)
    go (yes d) =
        let up : onward t (n - k) k ≡ k + (n - k) = onward_up t (n - k) k (omega arith) in
        let l : suc (n - k - 1) ≡ n - k = omega arith in
        (n - k - 1, omega arith, rw l (omega arith))
    go (no d) =
        let up : onward t (n - 1) 1 ≡ 1 + (n - 1) = onward_up t (n - 1) 1 (omega arith) in
        let l : suc (left + (n - 1)) ≡ suc left + (n - 1) = omega arith in
        (left + (n - 1), omega arith, rw l (onward_add t (suc left) (n - 1) k ∙ rw turn (omega arith)))

-- a search in a table with the same numbers free finds the same
seek_same : (f : ℕ) (t t' : List ℕ) (k : ℕ) → size t' ≡ size t → ((i : ℕ) → eqb (at t' i).kind 0 ≡ eqb (at t i).kind 0) → seek f t' k ≡ seek f t k
unfolding seek
seek_same zero t t' k z h = refl
seek_same (suc f) t t' k z h = let on : after t' k ≡ after t k = rw z in rw (on, h (after t k), seek_same f t t' (after t k) z h)

pub number_same : (s s' : State) (t t' : List ℕ) → s'.last ≡ s.last → size t' ≡ size t → ((i : ℕ) → eqb (at t' i).kind 0 ≡ eqb (at t i).kind 0) → new_number s' t' ≡ new_number s t
number_same s s' t t' l z h = rw (z, l) (seek_same (size t - 1) t t' s.last z h)

-- "no free number" is said only if none is free
pub number_none : (s : State) (t : List ℕ) → new_number s t ≡ 0 → NoneFree t
number_none s t z n p q =
    let r : (i : ℕ) × (i < size t - 1) × (onward t (suc i) s.last ≡ n) = onward_all t s.last n p q in
    rw (← r.2) (seek_none (size t - 1) t s.last z r.0 r.1)

-- and a number that is given is the first free one
pub number_first : (s : State) (t : List ℕ) → new_number s t ≢ 0 → FirstFree t s.last (size t - 1) (new_number s t)
unfolding seek
number_first s t h = go (dec_lt 1 (size t))
  where
    go : Dec (1 < size t) → FirstFree t s.last (size t - 1) (new_number s t)
    go (yes b) = seek_first (size t - 1) t s.last b h
    go (no b) = let z : size t - 1 ≡ 0 = omega arith in absurd (h (rw z))

-- ---- the nonce of an issue

-- what comes of so many tries: all nonces before it have the old tag, and it has another unless the tries are used up
pub record Tried (s : State) (n : ℕ) (e : ℕ → Entry) (old ν tries r : ℕ) : Type 0 where
  pub from : ν ≤ r
  pub to : r ≤ ν + tries
  pub passed : SameTag s n e old ν r
  pub other : r < ν + tries → (issue s n (e r)).tag ≢ old

pub pass_over_lem : (f : ℕ) (s : State) (n : ℕ) (e : ℕ → Entry) (old ν : ℕ) → Tried s n e old ν f (pass_over f s n e old ν)
unfolding pass_over
pass_over_lem zero s n e old ν = record { from = omega arith; to = omega arith; passed = λ x i j. absurd (omega arith); other = λ i. absurd (omega arith) }
pass_over_lem (suc f) s n e old ν =
    by_cond (λ (x : ℕ). Tried s n e old ν (suc f) x) (eqb (issue s n (e ν)).tag old)
    (λ h. later (eqb-true (issue s n (e ν)).tag old h) (pass_over_lem f s n e old (ν + 1)))
    (λ h. record { from = omega arith; to = omega arith; passed = λ x i j. absurd (omega arith); other = λ i. eqb-false (issue s n (e ν)).tag old h })
  where
    later : {r : ℕ} → (issue s n (e ν)).tag ≡ old → Tried s n e old (ν + 1) f r → Tried s n e old ν (suc f) r
    later {r} h d = record { from = omega arith; to = omega arith; passed = λ x i j. same x i j (ℕ_discrete x ν); other = λ i. d.other (omega arith) }
      where
        same : (x : ℕ) → ν ≤ x → x < r → Dec (x ≡ ν) → (issue s n (e x)).tag ≡ old
        same x i j (yes q) = rw q h
        same x i j (no q) = d.passed x (omega arith) j

-- e is issued under number n
module _ (s : State) (t : List ℕ) (n : ℕ) (e : ℕ → Entry) where
  tried : Tried s n e (last_held t n) s.next (spent - s.next) (other_nonce s t n e)
  tried = pass_over_lem (spent - s.next) s n e (last_held t n) s.next

  -- its nonce is not below the next one, nor past the last
  pub other-least : s.next ≤ other_nonce s t n e
  other-least = tried.from

  pub other-most : s.next ≤ spent → other_nonce s t n e ≤ spent
  other-most h = omega (arith, tried.to)

  -- "too few left" is said only if each nonce that is left gives the tag that was last held
  pub other-spent : other_nonce s t n e ≡ spent → SameTag s n e (last_held t n) s.next spent
  other-spent h = rw h at tried.passed

  -- and a nonce that is taken is the first that gives another
  pub other_first : other_nonce s t n e < spent → FirstOther s n e (last_held t n) s.next (other_nonce s t n e)
  other_first h = record { from = tried.from; passed = tried.passed; other = tried.other (omega (arith, tried.from)) }
