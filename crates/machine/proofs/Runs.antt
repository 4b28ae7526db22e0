-- Requests one after the other: what holds from reset on, the age of entries, and the tokens that were given.
-- Assumes nothing.
use mathlib.Core.Path.{◌≡◌, refl, sym, ap, subst, ◌∙◌}
use mathlib.Core.Logic.{◌≢◌}
use mathlib.Core.List.{List, [], ◌∷◌, ◌++◌, Memᴰ}
use Prim.Native.Nat.{ℕ, ◌≤◌, ◌<◌}
use native.Mathlib.Omega.{arith}
use native.Mathlib.Decide.{dec_lt}
use lib.ListN.{length}
use borrow.Author.Tests.{leb-true}
use Rattle.layout.specs.declared.entry.Entry.{Entry}
use Rattle.machine.specs.Demand3 as claim
use Rattle.machine.specs.FreeTotal.{free_in_all, vacant}
use Rattle.machine.specs.FromReset.{owned, owned_in_all}
use Rattle.machine.specs.LastToken.{issued_in}
use Rattle.machine.specs.MachineSystem.{Accepted, IsReset, of_machine, reset_call, resets, Unreset}
use Rattle.machine.specs.Operations.{carried, Decision, grant, grant_reset}
use Rattle.machine.specs.Parts.{at, begun, cleared, most_entries, most_free, most_memory, put, root, size, State}
use Rattle.machine.specs.Requests.{Call, Request, reset}
use Rattle.machine.specs.Steps.{decision, Machine, run, step, telling}
use Rattle.machine.specs.Stops.{checks}
use Rattle.machine.specs.System.{Never}
use Rattle.machine.specs.Writes.{name_of}
use Rattle.machine.proofs.Basics.{put_all}
use Rattle.machine.proofs.Decided.{accepted, away, Passed, taken, Turned, turned}
use Rattle.machine.proofs.Deeds.{deed_granted, deed_none}
use Rattle.machine.proofs.Effects.{memory-long}
use Rattle.machine.proofs.Fates.{core, Deed, Inv, inv_step, new_given, old_core, spares}
use Rattle.machine.proofs.Grants.{either, granted_fits}
use Rattle.machine.proofs.Lent.{as_long_lem}
use Rattle.machine.proofs.Sums.{owned-cleared, sum_first, vacant-cleared}
use Rattle.machine.proofs.TableLaws.{at_cleared, at_same, size-cleared, size-put}
use Rattle.machine.proofs.Tallies.{Tally}
use Rattle.machine.proofs.WriteLaws.{Within}
use Rattle.machine.proofs.Written.{direct_good, direct-storable, free_good, Good}

-- ---- one request

-- what holds of a machine from reset on
abbrev pub Well : Machine → Type 0
Well σ = Inv (length σ.memory) σ.state σ.table

-- the request is no granted reset
abbrev pub NotReset : Machine → Call → Type 0
NotReset σ q = claim.Reset of_machine σ q → ⊥

-- whatever length is told
deed_told : {m : ℕ} {s : State} {t : List ℕ} {q : Request} {d : Decision} {n : ℕ} → Deed m s t q d → Deed m s t q (telling n d)
deed_told h = record {
  up = h.up;
  least = h.least;
  above = h.above;
  moves = h.moves;
  fate = h.fate;
  names = h.names;
  carried = h.carried;
  spared = h.spared;
  good = h.good;
  long = h.long;
  sum = h.sum;
  tally = h.tally;
}

pub deed_of : (σ : Machine) (q : Call) → Well σ → NotReset σ q → Deed (length σ.memory) σ.state σ.table q.request (decision σ q)
deed_of σ q inv nr = go (turned σ q)
  where
    m : ℕ
    m = length σ.memory

    go : Turned σ q → Deed m σ.state σ.table q.request (decision σ q)
    go (taken a p e) = rw e (deed_told (deed_granted m σ.state σ.table inv q.request q.buffer (λ i. nr (i, a)) p))
    go (away r e na) = rw e (deed_none m σ.state σ.table inv q.request (omega arith) refl (λ n x sh nr tc ins. spares x tc))

module _ (σ : Machine) (q : Call) (inv : Well σ) (nr : NotReset σ q) where
  pub step_well : Well (step σ q)
  unfolding step
  step_well = rw memory-long (inv_step (length σ.memory) σ.state σ.table q.request (decision σ q) inv (deed_of σ q inv nr))

  pub step_up : σ.state.next ≤ (step σ q).state.next
  unfolding step
  step_up = (deed_of σ q inv nr).up

  step_sum : owned_in_all (step σ q).table ≡ owned_in_all σ.table
  unfolding step
  step_sum = (deed_of σ q inv nr).sum

  pub step_tally : Tally σ.table σ.state.total (step σ q).table (step σ q).state.total
  unfolding step
  step_tally = (deed_of σ q inv nr).tally

  step_old : (n : ℕ) → (at (step σ q).table n).kind ≢ 0 → (at (step σ q).table n).nonce < σ.state.next → core (at (step σ q).table n) ≡ core (at σ.table n)
  unfolding step
  step_old = old_core (length σ.memory) σ.state σ.table q.request (decision σ q) inv (deed_of σ q inv nr)

  step_new : (n : ℕ) → (at (step σ q).table n).kind ≢ 0 → σ.state.next ≤ (at (step σ q).table n).nonce
      → Memᴰ (name_of n (at (step σ q).table n)) (decision σ q).issued
  unfolding step
  step_new = new_given (length σ.memory) σ.state σ.table q.request (decision σ q) inv (deed_of σ q inv nr)

-- a request is a granted reset, or it is not
pub data Reset (σ : Machine) : Call → Type 0 where
  anew : (k0 k1 ν : ℕ) (b : List ℕ) → Accepted σ (reset_call k0 k1 ν b) → Reset σ (reset_call k0 k1 ν b)
  other : {q : Call} → NotReset σ q → Reset σ q

pub reset_or_not : (σ : Machine) (q : Call) → Reset σ q
reset_or_not σ q = go (turned σ q)
  where
    m : ℕ
    m = length σ.memory

    by : (r : Request) (b : List ℕ) → IsReset r → Accepted σ (record { request = r; buffer = b }) → Reset σ (record { request = r; buffer = b })
    by _ b (resets {k0} {k1} {ν}) a = anew k0 k1 ν b a

    -- a reset's write is none of another request's
    clash : (r : Request) (b : List ℕ) → IsReset r → Within (size σ.table) (grant m σ.table r b).writes → ⊥
    clash _ b resets w = w

    go : Turned σ q → Reset σ q
    go (taken a p e) = either (λ i. by q.request q.buffer i a) (λ w. other (λ i. clash q.request q.buffer i.0 w)) (granted_fits m σ.state σ.table q.request q.buffer p).within
    go (away r e na) = other (λ i. na i.1)

-- a granted reset has its key and its first nonce
pub by_reset : (σ : Machine) (c : Call) (P : Call → Type 0) → claim.Reset of_machine σ c → ((k0 k1 ν : ℕ) (b : List ℕ) → Accepted σ (reset_call k0 k1 ν b) → P (reset_call k0 k1 ν b)) → P c
by_reset σ c P g f = go c.request g.0 g.1
  where
    go : (r : Request) → IsReset r → Accepted σ (record { request = r; buffer = c.buffer }) → P (record { request = r; buffer = c.buffer })
    go _ (resets {k0} {k1} {ν}) a = f k0 k1 ν c.buffer a

-- ---- lists

pub none_append : (σ : Machine) (a b : List Call) → Unreset σ a → Unreset (run σ a) b → Unreset σ (a ++ b)
none_append σ [] b n k = k
none_append σ (q ∷ a) b n k = (n.0, none_append (step σ q) a b n.1 k)

pub none_split : (σ : Machine) (a b : List Call) → Unreset σ (a ++ b) → Unreset σ a × Unreset (run σ a) b
none_split σ [] b n = (tt, n)
none_split σ (q ∷ a) b n =
    let rest = none_split (step σ q) a b n.1 in
    ((n.0, rest.0), rest.1)

-- none a reset, so none a granted one
pub none_granted : (σ : Machine) (qs : List Call) → Never of_machine of_machine.Resets σ qs → Unreset σ qs
none_granted σ [] n = tt
none_granted σ (q ∷ qs) n = ((λ i. n.0 i.0), none_granted (step σ q) qs n.1)

pub run_long : (σ : Machine) (qs : List Call) → length (run σ qs).memory ≡ length σ.memory
run_long σ [] = refl
run_long σ (q ∷ qs) = run_long (step σ q) qs ∙ (as_long_lem σ q).memory

pub run_well : (σ : Machine) (qs : List Call) → Well σ → Unreset σ qs → Well (run σ qs)
run_well σ [] inv nr = inv
run_well σ (q ∷ qs) inv nr = run_well (step σ q) qs (step_well σ q inv nr.0) nr.1

pub run_up : (σ : Machine) (qs : List Call) → Well σ → Unreset σ qs → σ.state.next ≤ (run σ qs).state.next
run_up σ [] inv nr = omega arith
run_up σ (q ∷ qs) inv nr = omega (arith, step_up σ q inv nr.0, run_up (step σ q) qs (step_well σ q inv nr.0) nr.1)

pub run-sum : (σ : Machine) (qs : List Call) → Well σ → Unreset σ qs → owned_in_all (run σ qs).table ≡ owned_in_all σ.table
run-sum σ [] inv nr = refl
run-sum σ (q ∷ qs) inv nr = run-sum (step σ q) qs (step_well σ q inv nr.0) nr.1 ∙ step_sum σ q inv nr.0

-- an entry whose nonce was taken before is as it was then
pub run_old : (σ : Machine) (qs : List Call) → Well σ → Unreset σ qs → (n : ℕ) → (at (run σ qs).table n).kind ≢ 0
    → (at (run σ qs).table n).nonce < σ.state.next → core (at (run σ qs).table n) ≡ core (at σ.table n)
run_old σ [] inv nr n k h = refl
run_old σ (q ∷ qs) inv nr n k h =
    let later : core (at (run (step σ q) qs).table n) ≡ core (at (step σ q).table n) =
    run_old (step σ q) qs (step_well σ q inv nr.0) nr.1 n k (omega (arith, step_up σ q inv nr.0)) in
    later ∙ step_old σ q inv nr.0 n (subst (λ (x : Entry). x.kind ≢ 0) later k) (subst (λ (x : Entry). x.nonce < σ.state.next) later h)

-- an entry whose nonce was taken since was given since
pub run_new : (σ : Machine) (qs : List Call) → Well σ → Unreset σ qs → (n : ℕ) → (at (run σ qs).table n).kind ≢ 0
    → σ.state.next ≤ (at (run σ qs).table n).nonce → Memᴰ (name_of n (at (run σ qs).table n)) (issued_in σ qs)
run_new σ [] inv nr n k h = absurd (omega (arith, inv.below n k))
run_new σ (q ∷ qs) inv nr n k h =
    go (run_new (step σ q) qs (step_well σ q inv nr.0) nr.1 n k) (dec_lt (at (run (step σ q) qs).table n).nonce (step σ q).state.next)
  where
    go : ((step σ q).state.next ≤ (at (run (step σ q) qs).table n).nonce → Memᴰ (name_of n (at (run (step σ q) qs).table n)) (issued_in (step σ q) qs))
        → Dec ((at (run (step σ q) qs).table n).nonce < (step σ q).state.next) → Memᴰ (name_of n (at (run (step σ q) qs).table n)) (issued_in σ (q ∷ qs))
    go f (yes i) =
        let later : core (at (run (step σ q) qs).table n) ≡ core (at (step σ q).table n) = run_old (step σ q) qs (step_well σ q inv nr.0) nr.1 n k i in
        let then : Memᴰ (name_of n (at (step σ q).table n)) (decision σ q).issued =
        step_new σ q inv nr.0 n (subst (λ (x : Entry). x.kind ≢ 0) later k) (subst (λ (x : Entry). σ.state.next ≤ x.nonce) later h) in
        mathlib.Core.List.Memᴰ.append_left {s = (decision σ q).issued} (issued_in (step σ q) qs) (subst (λ (x : Entry). Memᴰ (name_of n x) (decision σ q).issued) (sym later) then)
    go f (no i) = mathlib.Core.List.Memᴰ.append_right (decision σ q).issued (f (omega arith))

-- ---- reset

-- only the root is there
data First (m n : ℕ) (e : Entry) : Type 0 where
  whole : n ≡ 0 → e ≡ root m → First m n e
  none : e.kind ≡ 0 → First m n e

module _ (m : ℕ) (t : List ℕ) (k0 k1 ν : ℕ) (lo : 1 ≤ m) (hi : m ≤ most_memory) (least : 2 ≤ size t) (most : size t ≤ most_entries) (pos : 1 ≤ ν) where
  abbrev clean : List ℕ
  clean = put (cleared t) 0 (root m)

  root_good : Good m (root m)
  root_good = direct_good m lo (omega arith) (direct-storable m hi (omega arith) (omega arith) (omega arith) (omega arith) (omega arith)) refl

  there : at clean 0 ≡ root m
  there = at_same (cleared t) 0 (root m) root_good.storable (omega (arith, size-cleared t))

  first : (P : ℕ → Entry → Type 0) → P 0 (root m) → ((n : ℕ) → n ≢ 0 → P n (at (cleared t) n)) → (n : ℕ) → P n (at clean n)
  first P = put_all P (cleared t) 0 (root m) root_good.storable (omega (arith, size-cleared t))

  firsts : (n : ℕ) → First m n (at clean n)
  firsts = first (First m) (whole refl refl) (λ n i. rw at_cleared (none refl))

  only : (n : ℕ) → (at clean n).kind ≢ 0 → First m n (at clean n) → (n ≡ 0) × (at clean n ≡ root m)
  only n k (whole a e) = (a, e)
  only n k (none z) = absurd (k z)

  pub reset_inv : Inv m (begun t k0 k1 ν) clean
  reset_inv =
      record {
        below = λ n k. omega (arith, ap (λ (x : Entry). x.nonce) (only n k (firsts n)).1);
        inside = λ n l. absurd (omega (arith, l.indirect, ap (λ (x : Entry). x.kind) (only n (omega (arith, l.indirect)) (firsts n)).1));
        tiled = λ n k x a b. (only n (omega (arith, a.direct)) (firsts n)).0 ∙ sym (only k (omega (arith, b.direct)) (firsts k)).0;
        covered = λ x h. record { owner = 0; has = record { direct = ap (λ (e : Entry). e.kind) there; inside = rw there (omega arith) } };
        good = first (λ n e. Good m e) root_good (λ n i. rw at_cleared (free_good m (omega arith)));
        small = hi;
        most = omega (arith, size-put (cleared t) 0 (root m), size-cleared t);
      }

  -- no tag is kept, and the root has tag 0
  pub reset-held : (n : ℕ) → (at clean n).tag ≡ 0
  reset-held = first (λ n e. e.tag ≡ 0) refl (λ n i. rw at_cleared refl)

  pub reset-sum : owned_in_all clean ≡ m
  reset-sum = omega (arith, sum_first (λ n e. owned e) t (root m) root_good.storable (omega arith), owned-cleared t)

  pub reset-count : free_in_all clean ≡ most_free t
  reset-count = omega (arith, sum_first vacant t (root m) root_good.storable (omega arith), vacant-cleared t)

-- a granted reset over any machine
module _ (σ : Machine) (k0 k1 ν : ℕ) (b : List ℕ) (ok : Accepted σ (reset_call k0 k1 ν b)) where
  abbrev m : ℕ
  m = length σ.memory

  abbrev t : List ℕ
  t = σ.table

  fine : Passed (checks m σ.state t (reset k0 k1 ν) b) × (decision σ (reset_call k0 k1 ν b) ≡ carried σ.state t (grant_reset m k0 k1 ν))
  fine = accepted σ (reset_call k0 k1 ν b) ok

  lo : 1 ≤ m
  lo = let h = fine.0 in leb-true 1 m (search)

  hi : m ≤ most_memory
  hi = let h = fine.0 in leb-true m most_memory (search)

  least : 2 ≤ size t
  least = let h = fine.0 in leb-true 2 (size t) (search)

  most : size t ≤ most_entries
  most = let h = fine.0 in leb-true (size t) most_entries (search)

  pos : 1 ≤ ν
  pos = let h = fine.0 in leb-true 1 ν (search)

  pub well_reset : Well (step σ (reset_call k0 k1 ν b))
  unfolding step
  well_reset = rw fine.1 (reset_inv m t k0 k1 ν lo hi least most pos)

  pub held-reset : (n : ℕ) → (at (step σ (reset_call k0 k1 ν b)).table n).tag ≡ 0
  unfolding step
  held-reset = rw fine.1 (reset-held m t k0 k1 ν lo hi least most pos)

  pub sum-reset : owned_in_all (step σ (reset_call k0 k1 ν b)).table ≡ length (step σ (reset_call k0 k1 ν b)).memory
  unfolding step
  sum-reset = rw fine.1 (reset-sum m t k0 k1 ν lo hi least most pos)

  pub count-reset : (step σ (reset_call k0 k1 ν b)).state.total ≡ free_in_all (step σ (reset_call k0 k1 ν b)).table
  unfolding step
  count-reset = rw fine.1 (sym (reset-count m t k0 k1 ν lo hi least most pos))

-- whichever the reset
pub well_first : (σ : Machine) (first : Call) → claim.Reset of_machine σ first → Well (step σ first)
well_first σ first g = by_reset σ first (λ c. Well (step σ c)) g (well_reset σ)

pub held_first : (σ : Machine) (first : Call) → claim.Reset of_machine σ first → (n : ℕ) → (at (step σ first).table n).tag ≡ 0
held_first σ first g = by_reset σ first (λ c. (n : ℕ) → (at (step σ c).table n).tag ≡ 0) g (held-reset σ)
