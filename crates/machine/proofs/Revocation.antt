-- What revocation rests on: an entry that is issued anew or freed closes what was open under it.
-- Assumes nothing.
use mathlib.Core.Path.{◌≡◌, sym, ap, ap₂, subst, ◌∙◌}
use mathlib.Core.Logic.{◌≢◌}
use mathlib.Core.List.{List, [], ◌∷◌, ◌++◌, append_assoc, Memᴰ}
use Prim.Native.Nat.{ℕ, suc, ◌≤◌, ◌<◌}
use native.Mathlib.Omega.{arith}
use native.Mathlib.Decide.{dec_lt}
use lib.ListN.{length}
use borrow.Author.Tests.{eqb-true}
use Rattle.tokens.specs.Token.{named}
use Rattle.layout.specs.declared.entry.Entry.{Entry}
use Rattle.machine.specs.Demand3.{Closed, Reset}
use Rattle.machine.specs.LastToken.{issued_in}
use Rattle.machine.specs.Ledger.{Event, Gave, Returned}
use Rattle.machine.specs.Line.{line_of, owner_of, parent_number}
use Rattle.machine.specs.MachineSystem.{Accepted, of_machine, Through, through, Unreset}
use Rattle.machine.specs.Operations.{number_of}
use Rattle.machine.specs.Parts.{at}
use Rattle.machine.specs.Requests.{accessing, Call, Request}
use Rattle.machine.specs.Segments as owned
use Rattle.machine.specs.Segments.{In, Owns, Under}
use Rattle.machine.specs.Steps.{decision, Machine, run, step}
use Rattle.machine.specs.System.{ledger}
use Rattle.machine.specs.Writes.{Name, name_of}
use Rattle.machine.proofs.Basics.{Link, link, owner-direct, owner_unique, parent, present, Present}
use Rattle.machine.proofs.Decided.{accepted, access-passed}
use Rattle.machine.proofs.Fates.{core, linked_same}
use Rattle.machine.proofs.Fuel.{Live, walk-owns}
use Rattle.machine.proofs.LastToken.{given-held, returns, root-held}
use Rattle.machine.proofs.LedgerLaws.{giving, ledger_append, run_append}
use Rattle.machine.proofs.Runs.{none_append, none_split, NotReset, run_new, run_old, run_up, run_well, step_up, step_well, Well, well_first}

-- a walk whose first nonce is old was the same walk then
owns_old : (σ : Machine) (qs : List Call) → Well σ → Unreset σ qs → {n k : ℕ} → Owns (run σ qs).table n k → (at (run σ qs).table n).nonce < σ.state.next
    → Owns σ.table n k × ((at (run σ qs).table k).nonce < σ.state.next)
owns_old σ qs inv nr (owned.itself {n = n} k) h =
    let e : core (at (run σ qs).table n) ≡ core (at σ.table n) = run_old σ qs inv nr n (omega arith) h in
    (owned.itself (subst (λ (x : Entry). x.kind ≡ 1) e k), h)
owns_old σ qs inv nr (owned.above {n = n} {m = i} l o) h =
    let u : List ℕ = (run σ qs).table in
    let k : Link (at u n) (parent u n) = link (at u n) (parent u n) l.holds in
    let e : core (at u n) ≡ core (at σ.table n) = run_old σ qs inv nr n (omega (arith, l.indirect)) h in
    let up : (parent u n).nonce < σ.state.next = omega arith in
    let f : core (parent u n) ≡ core (at σ.table (parent_number (at u n))) = run_old σ qs inv nr (parent_number (at u n)) k.present.full up in
    let ih = owns_old σ qs inv nr o up in
    (owned.above (linked_same σ.table u n e f l) (subst (λ (x : Entry). Owns σ.table (parent_number x) i) e ih.0), ih.1)

-- How a request closes the token k, which was given when the table was t₀; ν is the next nonce before the request, t and t' are the tables before and after it.
-- The direct entry s, whose segment k is under, is direct no more or has a new nonce; or the entry of k's own number has one.
pub data Shuts (t₀ : List ℕ) (k : Name) (ν : ℕ) (t t' : List ℕ) : Type 0 where
  above : (s : ℕ) → (at t s).kind ≡ 1 → ((at t' s).kind ≡ 1 → ν ≤ (at t' s).nonce) → Under t₀ (at t s) k → Shuts t₀ k ν t t'
  itself : ν ≤ (at t' k.number).nonce → Shuts t₀ k ν t t'

-- ρ is what reset left; A stands where the token was given, B before the request, C after it, D at the end.
module _ (ρ : Machine) (inv₀ : Well ρ) (l : List Call) (nr : Unreset ρ l) (r : Call) (none-r : NotReset (run ρ l) r) (zs : List Call) (nz : Unreset (step (run ρ l) r) zs)
    (a b : List Call) (ab : a ++ b ≡ l) (k : Name) (shuts : Shuts (run ρ a).table k (run ρ l).state.next (run ρ l).table (step (run ρ l) r).table)
    (has : (at (run ρ a).table k.number).tag ≡ k.tag) (v : Event) (fr : Returned k v (ledger of_machine [] (run ρ a) (b ++ (r ∷ zs))) → ⊥) where
  abbrev A : Machine
  A = run ρ a

  abbrev B : Machine
  B = run ρ l

  abbrev C : Machine
  C = step B r

  abbrev D : Machine
  D = run C zs

  none_ab : Unreset ρ a × Unreset A b
  none_ab = none_split ρ a b (subst (λ (x : List Call). Unreset ρ x) (sym ab) nr)

  A-inv : Well A
  A-inv = run_well ρ a inv₀ none_ab.0

  B-inv : Well B
  B-inv = run_well ρ l inv₀ nr

  C-inv : Well C
  C-inv = step_well B r B-inv none-r

  -- B is a run from A, D a run from A, from B and from C
  A→B : run A b ≡ B
  A→B = sym (run_append of_machine ρ a b) ∙ ap (λ (x : List Call). run ρ x) ab

  none_on : Unreset A (b ++ (r ∷ zs))
  none_on = none_append A b (r ∷ zs) none_ab.1 (subst (λ (σ : Machine). Unreset σ (r ∷ zs)) (sym A→B) (none-r, nz))

  A→D : run A (b ++ (r ∷ zs)) ≡ D
  A→D = run_append of_machine A b (r ∷ zs) ∙ ap (λ σ. run (step σ r) zs) A→B

  A-up-B : A.state.next ≤ B.state.next
  A-up-B = subst (λ (σ : Machine). A.state.next ≤ σ.state.next) A→B (run_up A b A-inv none_ab.1)

  -- an entry of D that is older than A is the same in A, in B and in C
  same_A : (i : ℕ) → (at D.table i).kind ≢ 0 → (at D.table i).nonce < A.state.next → core (at D.table i) ≡ core (at A.table i)
  same_A = subst (λ (σ : Machine). (i : ℕ) → (at σ.table i).kind ≢ 0 → (at σ.table i).nonce < A.state.next → core (at σ.table i) ≡ core (at A.table i)) A→D (run_old A (b ++ (r ∷ zs)) A-inv none_on)

  same_B : (i : ℕ) → (at D.table i).kind ≢ 0 → (at D.table i).nonce < B.state.next → core (at D.table i) ≡ core (at B.table i)
  same_B = run_old B (r ∷ zs) B-inv (none-r, nz)

  same_C : (i : ℕ) → (at D.table i).kind ≢ 0 → (at D.table i).nonce < C.state.next → core (at D.table i) ≡ core (at C.table i)
  same_C = run_old C zs C-inv nz

  -- the token's entry has not been issued since
  young : (at D.table k.number).kind ≢ 0 → (at D.table k.number).tag ≡ k.tag → (at D.table k.number).nonce < A.state.next
  young f g = go (dec_lt (at D.table k.number).nonce A.state.next)
    where
      new : (at D.table k.number).kind ≢ 0 → A.state.next ≤ (at D.table k.number).nonce → Memᴰ (name_of k.number (at D.table k.number)) (issued_in A (b ++ (r ∷ zs)))
      new =
          subst (λ (σ : Machine). (at σ.table k.number).kind ≢ 0 → A.state.next ≤ (at σ.table k.number).nonce → Memᴰ (name_of k.number (at σ.table k.number)) (issued_in A (b ++ (r ∷ zs)))) A→D
          (run_new A (b ++ (r ∷ zs)) A-inv none_on k.number)

      go : Dec ((at D.table k.number).nonce < A.state.next) → (at D.table k.number).nonce < A.state.next
      go (yes i) = i
      go (no i) = absurd (fr (returns k v [] A (b ++ (r ∷ zs)) A-inv none_on has (subst (λ (x : ℕ). Memᴰ (record { number = k.number; tag = x }) (issued_in A (b ++ (r ∷ zs)))) g (new f (omega arith)))))

  -- its own entry has not been issued by the request
  not_anew : (at D.table k.number).kind ≢ 0 → (at D.table k.number).nonce < A.state.next → B.state.next ≤ (at C.table k.number).nonce → ⊥
  not_anew f y z =
      let to_c : core (at D.table k.number) ≡ core (at C.table k.number) = same_C k.number f (omega (arith, A-up-B, step_up B r B-inv none-r)) in
      omega (arith, A-up-B, ap (λ (x : Entry). x.nonce) to_c)

  -- were its line live, its owner would be s as it was before the request
  not_live : {i : ℕ} → Owns D.table k.number i → (at D.table k.number).nonce < A.state.next
      → (s : ℕ) → (at B.table s).kind ≡ 1 → ((at C.table s).kind ≡ 1 → B.state.next ≤ (at C.table s).nonce) → Under A.table (at B.table s) k → ⊥
  not_live {i} o y s direct anew u =
      let was : Owns A.table k.number i × ((at D.table i).nonce < A.state.next) =
      subst (λ (σ : Machine). Owns σ.table k.number i → (at σ.table k.number).nonce < A.state.next → Owns A.table k.number i × ((at σ.table i).nonce < A.state.next)) A→D
      (owns_old A (b ++ (r ∷ zs)) A-inv none_on {n = k.number} {k = i}) o y in
      let one : (at D.table i).kind ≡ 1 = owner-direct o in
      let e : i ≡ u.owner = owner_unique was.0 u.owns in
      let to_a : core (at D.table i) ≡ core (at A.table i) = same_A i (omega arith) was.1 in
      let to_b : core (at D.table i) ≡ core (at B.table i) = same_B i (omega arith) (omega (arith, A-up-B)) in
      let to_c : core (at D.table i) ≡ core (at C.table i) = same_C i (omega arith) (omega (arith, A-up-B, step_up B r B-inv none-r)) in
      let his_A : In (at A.table i) u.byte = rw e u.theirs in
      let his_B : In (at B.table i) u.byte = subst (λ (x : Entry). In x u.byte) (sym to_a ∙ to_b) his_A in
      let f : i ≡ s = B-inv.tiled i s u.byte (record { direct = subst (λ (x : Entry). x.kind ≡ 1) to_b one; inside = his_B }) (record { direct = direct; inside = u.ours }) in
      let z : B.state.next ≤ (at C.table i).nonce = rw f (anew (subst (λ (j : ℕ). (at C.table j).kind ≡ 1) f (subst (λ (x : Entry). x.kind ≡ 1) to_c one))) in
      omega (arith, z, A-up-B, was.1, ap (λ (x : Entry). x.nonce) to_c)

  still_open : (i : ℕ) → i ≡ k.number → Present (at D.table i) → (at D.table i).tag ≡ k.tag → Live (line_of (length D.memory) D.table i) → ⊥
  still_open i e f g l =
      let full : (at D.table k.number).kind ≢ 0 = subst (λ (j : ℕ). (at D.table j).kind ≢ 0) e f.full in
      let old : (at D.table k.number).nonce < A.state.next = young full (subst (λ (j : ℕ). (at D.table j).tag ≡ k.tag) e g) in
      let by = subst (λ (j : ℕ). Owns D.table j (owner_of (line_of (length D.memory) D.table i))) e (walk-owns (suc (at D.table i).nonce) (length D.memory) D.table i f l) in
      go full old by shuts
    where
      go : {o : ℕ} → (at D.table k.number).kind ≢ 0 → (at D.table k.number).nonce < A.state.next → Owns D.table k.number o
          → Shuts A.table k B.state.next B.table C.table → ⊥
      go full old by (above s direct anew u) = not_live by old s direct anew u
      go full old by (itself anew) = not_anew full old anew

  shut_off : Closed of_machine D k
  shut_off q t ok = go q.request t ok
    where
      go : (p : Request) → Through p k → Accepted D (record { request = p; buffer = q.buffer }) → ⊥
      go _ (through {w = w} {token = token} {task = task} {shift = shift} en et) ok =
          let c : Call = record { request = accessing w token task shift; buffer = q.buffer } in
          let p = access-passed (length D.memory) D.state D.table w token task shift q.buffer (accepted D c ok).0 in
          still_open (number_of token) en
          (present (at D.table (number_of token)) (search) (search))
          (eqb-true (at D.table (number_of token)).tag (named token).tag (search) ∙ et)
          (search, search)

-- what was given by a request of the whole list, the reset in front, was given in a run from what reset left
record From (σ : Machine) (first : Call) (l a : List Call) (q : Call) (b : List Call) : Type 0 where
  way : List Call
  comes : run (step σ first) way ≡ step (run σ a) q
  all : way ++ b ≡ l

from : (σ : Machine) (first : Call) (l a : List Call) (q : Call) (b : List Call) → a ++ (q ∷ b) ≡ first ∷ l → From σ first l a q b
from σ first l [] q b e =
    let head : q ≡ first = cc in
    record { way = []; comes = ap (λ (x : Call). step σ x) (sym head); all = cc }
from σ first l (c ∷ a) q b e =
    let head : c ≡ first = cc in
    let tail : a ++ (q ∷ b) ≡ l = cc in
    record {
      way = a ++ (q ∷ []);
      comes = run_append of_machine (step σ first) a (q ∷ []) ∙ ap (λ (x : Call). step (run (step σ x) a) q) (sym head);
      all = append_assoc a (q ∷ []) b ∙ tail;
    }

-- and its number holds it then
holding : (σ : Machine) (first : Call) (l a : List Call) (q : Call) (b : List Call) (k : Name) → Reset of_machine σ first → Unreset (step σ first) l
    → a ++ (q ∷ b) ≡ first ∷ l → Memᴰ k (decision (run σ a) q).issued → (at (step (run σ a) q).table k.number).tag ≡ k.tag
holding σ first l [] q b k ok nr e m =
    let head : first ≡ q = cc in
    subst (λ (x : Call). Memᴰ k (decision σ x).issued → (at (step σ x).table k.number).tag ≡ k.tag) head (root-held σ first k ok) m
holding σ first l (c ∷ a) q b k ok nr e m =
    let head : first ≡ c = cc in
    let tail : l ≡ a ++ (q ∷ b) = cc in
    let ρ : Machine = step σ first in
    let both = none_split ρ a (q ∷ b) (subst (λ (x : List Call). Unreset ρ x) tail nr) in
    subst (λ (x : Call). Memᴰ k (decision (run (step σ x) a) q).issued → (at (step (run (step σ x) a) q).table k.number).tag ≡ k.tag) head
    (given-held (run ρ a) q k (run_well ρ a (well_first σ first ok) both.0) both.1.0) m

-- From reset on, whatever list l follows, and whatever request r then shuts the token k, which was given before: k opens no access any more, unless it returns. A
-- revoke is such a request, and so are a paging out and a paging in.
pub shut-closes : (σ : Machine) (first : Call) → Reset of_machine σ first → let ρ : Machine = step σ first in
    (l : List Call) → Unreset ρ l → let B : Machine = run ρ l in
    (r : Call) → NotReset B r → (zs : List Call) → Unreset (step B r) zs
    → (k : Name) (v : Event) (since : List Event) → Gave k v since (ledger of_machine [] σ (first ∷ l))
    → Shuts v.table k B.state.next B.table (step B r).table
    → (Returned k v (ledger of_machine since B (r ∷ zs)) → ⊥)
    → Closed of_machine (run (step B r) zs) k
shut-closes σ first ok l nr r none-r zs nz k v since gave shuts fr =
    let g = giving of_machine k v since σ (first ∷ l) gave in
    let x : List Call = g.before in
    let q : Call = g.giver in
    let y : List Call = g.after in
    let A : Machine = step (run σ x) q in
    let B : Machine = run (step σ first) l in
    let w : From σ first l x q y = from σ first l x q y g.list in
    let on : run A y ≡ B = sym (run_append of_machine σ x (q ∷ y)) ∙ ap (run σ) g.list in
    let all : ledger of_machine [] A (y ++ (r ∷ zs)) ≡ ledger of_machine since B (r ∷ zs) =
    ledger_append of_machine [] A y (r ∷ zs) ∙ ap₂ (λ (e : List Event) (τ : Machine). ledger of_machine e τ (r ∷ zs)) (sym g.rest) on in
    shut_off (step σ first) (well_first σ first ok) l nr r none-r zs nz
    w.way y w.all k
    (rw w.comes (subst (λ (e : Event). Shuts e.table k B.state.next B.table (step B r).table) g.is shuts))
    (rw w.comes (holding σ first l x q y k ok nr g.list (subst (λ (e : Event). Memᴰ k e.issued) g.is g.given)))
    v
    (rw w.comes (λ h. fr (subst (λ (e : List Event). Returned k v e) all h)))
