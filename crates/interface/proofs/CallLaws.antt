-- From what the code hands back to what a call leaves.
-- Assumes nothing.
use mathlib.Core.Path.{◌≡◌, refl, ◌∙◌, ap, ap₂, sym}
use mathlib.Core.Bool.{Bool, true, false, ◌&&◌, cond}
use mathlib.Core.List.{List}
use Prim.Native.Nat.{ℕ, ◌<◌}
use native.Mathlib.Omega.{arith}
use lib.Dec.{eqb, eqb→eq, T}
use lib.ListN.{get_or, length}
use Rattle.bits.specs.SipHash.{word}
use Rattle.machine.proofs.Choices.{by_cond}
use Rattle.machine.proofs.Decided.{away, taken, Turned, turned}
use Rattle.machine.specs.Parts.{State}
use Rattle.machine.specs.Requests.{Access, accessing, Request, Shift}
use Rattle.machine.specs.Steps.{answer, Machine, step}
use Rattle.rulings.specs.Rulings.{reply_as}
use Rattle.rulings.specs.Served.{call_as, Served, standing}
use Rattle.rulings.specs.declared.reply.Granted.{Granted}
use Rattle.checks.specs.declared.refusal.Refusal.{Refusal}
use Rattle.std.specs.Prelude.{Result}
use Rattle.table.specs.States.{state_as}
use Rattle.table.specs.declared.state.StateWords.{StateWords}
use Rattle.interface.specs.Exported.{answer_bytes, answer_size, Asked, asked, carried, exported, known, Lent, lent_fits, request_of, request_size, served, shift_of, sized, state_bytes, state_of, state_size}
use Rattle.interface.specs.Meanings.{left}
use Rattle.interface.proofs.WordLaws.{words-kept}

-- a step of the code's state, stored, is what a known request leaves
pub step_carried : (q : Request) (s t m b a : List ℕ) (x y : StateWords) (r : Result Granted Refusal) (n : ℕ) (s' t' m' b' a' : List ℕ)
    → state_as x ≡ state_of s
    → Served q x t m b y t' m' b' r
    → s' ≡ state_bytes (state_as y)
    → (n ≡ (reply_as r).refusal) × (a' ≡ answer_bytes (reply_as r))
    → left n s' t' m' b' a' ≡ carried (known q) s t m b a
step_carried q s t m b a x y r n s' t' m' b' a' hx h hs ha =
    rw (hs, ha.0, ha.1)
    (ap₂ served h.step h.answer
    ∙ ap (λ (z : State). served (step (record { state = z; table = t; memory = m }) (call_as q b)) (answer (record { state = z; table = t; memory = m }) (call_as q b))) hx)

-- ---- an access leaves the state, so that its bytes need not be stored

pub access-leaves : (w : Access) (k u : ℕ) (φ : Shift) (σ : Machine) (b : List ℕ) → (step σ (call_as (accessing w k u φ) b)).state ≡ σ.state
unfolding step
access-leaves w k u φ σ b = go (turned σ (call_as (accessing w k u φ) b))
  where
    go : Turned σ (call_as (accessing w k u φ) b) → (step σ (call_as (accessing w k u φ) b)).state ≡ σ.state
    go (taken a p e) = rw e
    go (away r e n) = rw e

-- a state's bytes are those of its words
state-kept : (s : List ℕ) → ((i : ℕ) → get_or s i 0 < 256) → length s ≡ state_size → state_bytes (state_of s) ≡ s
state-kept s bytes long = words-kept 5 (word s) s (λ i. refl) bytes long

-- what is stored, or was left where the request leaves the state, is the state's bytes
pub stored-state : (leaves : Bool) (q : Request) (s t m b : List ℕ) (x y : StateWords) (r : Result Granted Refusal) (s' t' m' b' : List ℕ)
    → ((i : ℕ) → get_or s i 0 < 256)
    → length s ≡ state_size
    → state_as x ≡ state_of s
    → Served q x t m b y t' m' b' r
    → (leaves ≡ true → (σ : Machine) (b : List ℕ) → (step σ (call_as q b)).state ≡ σ.state)
    → s' ≡ cond leaves s (state_bytes (state_as y))
    → s' ≡ state_bytes (state_as y)
stored-state true q s t m b x y r s' t' m' b' bytes long hx h l e =
    e ∙ sym (state-kept s bytes long) ∙ ap state_bytes (sym (ap (λ (σ : Machine). σ.state) h.step ∙ l refl (standing x t m) b ∙ hx))
stored-state false q s t m b x y r s' t' m' b' bytes long hx h l e = e

-- ---- sizes

split : (w x y z : Bool) → T (w && x && y && z) → T w × (T x × (T y × T z))
split true true true z t = (tt, (tt, (tt, t)))
split true true false z t = absurd t
split true false y z t = absurd t
split false x y z t = absurd t

module _ (q s a : List ℕ) (l : Lent) where
  pub sizes : sized q s a l ≡ true → (length q ≡ request_size) × ((length s ≡ state_size) × (length a ≡ answer_size))
  sizes h =
      let t : T (sized q s a l) = rw h tt in
      let p = split (eqb (length q) request_size) (eqb (length s) state_size) (eqb (length a) answer_size) (lent_fits l) t in
      (eqb→eq (length q) request_size p.0, (eqb→eq (length s) state_size p.1.0, eqb→eq (length a) answer_size p.1.1.0))

  -- a request is known only where state and answer have theirs
  pub known-sizes : (r : Request) → known r ≡ asked q s a l → (length s ≡ state_size) × (length a ≡ answer_size)
  unfolding asked
  known-sizes r =
      by_cond (λ (k : Asked). known r ≡ k → (length s ≡ state_size) × (length a ≡ answer_size)) (sized q s a l) (λ e h. (sizes e).1)
      (λ e h. absurd (let z : ◌≡◌ {A = ℕ} 0 1 = cc in omega arith))

  -- and only where the request has its own; it is the one that its words pick
  pub request-sized : (r : Request) → asked q s a l ≡ known r → (length q ≡ request_size) × (known r ≡ request_of q (shift_of q l))
  unfolding asked
  request-sized r =
      by_cond (λ (k : Asked). k ≡ known r → (length q ≡ request_size) × (known r ≡ request_of q (shift_of q l))) (sized q s a l) (λ e h. ((sizes e).0, sym h))
      (λ e h. absurd (let z : ◌≡◌ {A = ℕ} 0 1 = cc in omega arith))

  -- ---- a call

  pub exported_as : (t m b : List ℕ) (k : Asked) → k ≡ asked q s a l → carried k s t m b a ≡ exported q s t m b a l
  unfolding exported
  exported_as t m b k h = ap (λ (k : Asked). carried k s t m b a) h
