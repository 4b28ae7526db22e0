-- One call: the state's bytes, what it asks, and what it leaves.
-- Assumes nothing.
use mathlib.Core.Path.{◌≡◌, refl, sym, ap, subst}
use mathlib.Core.Logic.{◌≢◌}
use mathlib.Core.Bool.{Bool, true, false, false≢true, not, ◌&&◌}
use mathlib.Core.List.{List, [], ◌∷◌}
use Prim.Native.Nat.{ℕ, zero, suc, ◌/◌, ◌^◌, ◌<◌}
use native.Mathlib.Nat.{mod-eq_of_lt}
use native.Mathlib.Omega.{arith}
use lib.Dec.{eqb}
use lib.ListN.{drop, get_or, length, replicate}
use borrow.Author.Tests.{not-true}
use Rattle.bits.specs.Bytes.{AllBytes}
use Rattle.bits.specs.SipHash.{word}
use Rattle.bits.proofs.TestLaws.{both}
use Rattle.machine.specs.MachineSystem.{IsReset, resets}
use Rattle.machine.specs.Parts.{State}
use Rattle.machine.specs.Requests.{Call, Request, reset, Shift}
use Rattle.machine.specs.Rows.{row}
use Rattle.machine.specs.Steps as steps
use Rattle.machine.specs.Steps.{Machine, step}
use Rattle.machine.proofs.Settled.{keys, KeysFit, none, StateFits, words-stay}
use Rattle.demands.specs.Demands.{asks, Brought, call, call_of, left_by, machine, next, Standing}
use Rattle.interface.specs.Exported.{Asked, asked, carried, Exported, exported, known, picked, requests, served, state_bytes, state_of, state_size, unknown}
use Rattle.interface.proofs.CallLaws.{request-sized}
use Rattle.interface.proofs.WordLaws.{length-word_bytes, word_lt, word_of, words-kept}

-- ---- a state and its bytes

pub byte_at : (s : List ℕ) → AllBytes s → (i : ℕ) → get_or s i 0 < 256
byte_at [] h i = omega arith
byte_at (x ∷ s) h zero = h.0
byte_at (x ∷ s) h (suc i) = byte_at s h.1 i

-- a state comes back from its bytes
state_back : (s : State) → StateFits s → state_of (state_bytes s) ≡ s
state_back s h =
    let ws : List ℕ = s.key0 ∷ s.key1 ∷ s.last ∷ s.next ∷ s.total ∷ [] in
    rw (word_of ws 0, word_of ws 1, word_of ws 2, word_of ws 3, word_of ws 4, mod-eq_of_lt h.key0, mod-eq_of_lt h.key1, mod-eq_of_lt h.last, mod-eq_of_lt h.next, mod-eq_of_lt h.total)

-- bytes are those of the state that they hold
pub state-kept : (s : List ℕ) → AllBytes s → length s ≡ state_size → state_bytes (state_of s) ≡ s
state-kept s h n = words-kept (state_size / 8) (word s) s (λ i. refl) (byte_at s h) n

-- what stands holds a state, to the byte
pub record Whole (κ : Standing) : Type 0 where
  pub sized : length κ.state ≡ state_size
  pub bytes : state_bytes (state_of κ.state) ≡ κ.state
  pub fits : StateFits (state_of κ.state)

pub whole-bytes : (κ : Standing) → AllBytes κ.state → length κ.state ≡ state_size → Whole κ
whole-bytes κ h n =
    let lt : (i : ℕ) → i < 5 → word κ.state i < 2 ^ 64 = λ i l. word_lt κ.state i (byte_at κ.state h) (omega arith) in
    record { sized = n; bytes = state-kept κ.state h n; fits = record { key0 = lt 0 (omega arith); key1 = lt 1 (omega arith); last = lt 2 (omega arith); next = lt 3 (omega arith); total = lt 4 (omega arith) } }

whole-state : (s : State) (t m : List ℕ) → StateFits s → Whole (record { state = state_bytes s; table = t; memory = m })
whole-state s t m h =
    let same = state_back s h in
    record { sized = length-word_bytes (s.key0 ∷ s.key1 ∷ s.last ∷ s.next ∷ s.total ∷ []); bytes = ap state_bytes same; fits = rw same h }

-- ---- what a call asks

-- where the state has its size, this is the call's alone
pub ask : Brought → Asked
ask q = asked q.request (replicate state_size 0) q.answer q.lent

pub asks_alone : (κ : Standing) (q : Brought) → length κ.state ≡ state_size → asks κ q ≡ ask q
unfolding ask asked
asks_alone κ q h = rw h

-- a reset is operation 0, with its keys
pub data Kind (o k x : ℕ) : Asked → Type 0 where
  first : (u : ℕ) → o ≡ 0 → Kind o k x (known (reset k x u))
  other : {r : Request} → o ≢ 0 → (IsReset r → ⊥) → Kind o k x (known r)
  neither : Kind o k x unknown

-- it alone is judged by one row of refusals
is_reset : Asked → Bool
is_reset (known r) = eqb (length (row r)) 1
is_reset unknown = false

no_reset : List Asked → Bool
no_reset [] = true
no_reset (k ∷ ks) = not (is_reset k) && no_reset ks

none_reset : (ks : List Asked) → no_reset ks ≡ true → (n : ℕ) → is_reset (get_or ks n unknown) ≡ false
unfolding is_reset no_reset
none_reset [] h n = refl
none_reset (k ∷ ks) h zero = not-true (is_reset k) (both (not (is_reset k)) (no_reset ks) h).0
none_reset (k ∷ ks) h (suc n) = none_reset ks (both (not (is_reset k)) (no_reset ks) h).1 n

kinds : (o k x u l m p c : ℕ) (φ : Shift) → Kind o k x (picked o k x u l m p c φ)
unfolding picked is_reset no_reset
kinds zero k x u l m p c φ = first u refl
kinds (suc n) k x u l m p c φ = go (get_or later n unknown) (none_reset later refl n)
  where
    later : List Asked
    later = drop 1 (requests k x u l m p c φ)

    apart : (r : Request) → is_reset (known r) ≡ false → IsReset r → ⊥
    apart _ h resets = false≢true (sym h)

    go : (k' : Asked) → is_reset k' ≡ false → Kind (suc n) k x k'
    go (known r) h = other (λ e. omega arith) (apart r h)
    go unknown h = neither

pub kind_of : (κ : Standing) (q : Brought) (r : Request) → asks κ q ≡ known r → Kind (word q.request 0) (word q.request 1) (word q.request 2) (known r)
kind_of κ q r h = subst (Kind (word q.request 0) (word q.request 1) (word q.request 2)) (sym (request-sized q.request κ.state q.answer q.lent r h).1) (kinds _ _ _ _ _ _ _ _ _)

keys_fit : (κ : Standing) (q : Brought) (r : Request) → AllBytes q.request → asks κ q ≡ known r → KeysFit r
keys_fit κ q r b h = go r (kind_of κ q r h)
  where
    lt : (i : ℕ) → i < 8 → word q.request i < 2 ^ 64
    lt i l = let n = (request-sized q.request κ.state q.answer q.lent r h).0 in word_lt q.request i (byte_at q.request b) (omega arith)

    go : (r : Request) → Kind (word q.request 0) (word q.request 1) (word q.request 2) (known r) → KeysFit r
    go _ (first u e) = keys _ _ u (lt 1 (omega arith)) (lt 2 (omega arith))
    go r (other e n) = none n

-- ---- a call

pub called_as : (κ : Standing) (q : Brought) (k : Asked) → asks κ q ≡ k → call κ q ≡ carried k κ.state κ.table κ.memory q.buffer q.answer
unfolding exported
called_as κ q k h = ap (λ (k : Asked). carried k κ.state κ.table κ.memory q.buffer q.answer) h

-- what a call that asks a request leaves, where what stands is whole: a step of the machine
pub steps_to : (κ : Standing) (q : Brought) (r : Request) → Whole κ → AllBytes q.request → asks κ q ≡ known r → (machine (next κ q) ≡ step (machine κ) (call_of r q)) × Whole (next κ q)
steps_to κ q r w b h =
    let σ : Machine = machine κ in
    let c : Call = call_of r q in
    let is : call κ q ≡ served (step σ c) (steps.answer σ c) = called_as κ q (known r) h in
    let fits : StateFits (step σ c).state = words-stay σ c (keys_fit κ q r b h) w.fits in (
      rw is (ap (λ (s : State). record { state = s; table = (step σ c).table; memory = (step σ c).memory }) (state_back (step σ c).state fits)),
      subst (λ (x : Exported). Whole (left_by x)) (sym is) (whole-state (step σ c).state (step σ c).table (step σ c).memory fits),
    )
