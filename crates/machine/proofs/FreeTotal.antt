-- The free total (02, paper 3): what the paper claims does hold.
-- Assumes nothing.
use mathlib.Core.Path.{◌≡◌, refl, sym, ap, ap₂, subst, ◌∙◌}
use mathlib.Core.Bool.{true}
use mathlib.Core.List.{List, [], ◌∷◌}
use Prim.Native.Nat.{ℕ, zero, suc, ◌+◌, ◌-◌, ◌≤◌}
use native.Mathlib.Omega.{arith}
use lib.Dec.{leb}
use lib.ListN.{length}
use borrow.Author.Tests.{le-leb, leb-true}
use Rattle.layout.specs.declared.entry.Entry.{Entry}
use Rattle.machine.specs.FreeTotal.{Beside, handed_total, InRange, Kept, Sides, Unseen}
use Rattle.machine.specs.Issuing.{new_number, pass_over}
use Rattle.machine.specs.MachineSystem.{reset_call}
use Rattle.machine.specs.Operations.{Decision, Grant, grant, granted}
use Rattle.machine.specs.Parts.{at, most_free, size, spent, State, totalled}
use Rattle.machine.specs.Requests.{accessing, Call, clone, create, derive, execute_only, lock, look, merge, page_in, page_out, release, Request, reset, revoke, unlock}
use Rattle.machine.specs.Steps.{answer, answers, blind, buffer_after, concluded, decide, decision, finished, Machine, memory_after, pass, run, settle, step, stop, told_length, Verdict, verdict}
use Rattle.machine.specs.Stops.{checks, lastly, places}
use Rattle.machine.specs.Writes.{alter, begin, Book, give, opened, reissue, vacate, Write, write, written}
use Rattle.machine.proofs.Decided.{away, sizes-passed, taken, Turned, turned}
use Rattle.machine.proofs.Runs.{anew, count-reset, other, Reset, reset_or_not, step_tally, step_well, Well, well_reset}
use Rattle.machine.proofs.WriteLaws.{ranged_after}

-- ---- from reset on

-- whatever is asked of a machine reached from reset, it is such a machine again, and the total keeps its side of the count
record On (σ τ : Machine) : Type 0 where
  well : Well τ
  beside : Beside σ τ

on_step : (σ : Machine) (q : Call) → Well σ → On σ (step σ q)
on_step σ q inv = go q (reset_or_not σ q)
  where
    go : (r : Call) → Reset σ r → On σ (step σ r)
    go _ (anew k0 k1 ν b a) =
        let c = count-reset σ k0 k1 ν b a in
        record { well = well_reset σ k0 k1 ν b a; beside = record { low = λ h. omega arith; high = λ h. omega arith } }
    go r (other nr) =
        let y = step_tally σ r inv nr in
        record { well = step_well σ r inv nr; beside = record { low = y.low; high = y.high } }

on_run : (σ : Machine) (qs : List Call) → Well σ → On σ (run σ qs)
on_run σ [] inv = record { well = inv; beside = record { low = λ h. h; high = λ h. h } }
on_run σ (q ∷ qs) inv =
    let one = on_step σ q inv in
    let more = on_run (step σ q) qs one.well in
    record { well = more.well; beside = record { low = λ h. more.beside.low (one.beside.low h); high = λ h. more.beside.high (one.beside.high h) } }

pub kept : Kept
unfolding Kept
kept σ k0 k1 ν b ok after =
    let c = count-reset σ k0 k1 ν b ok in
    let on = (on_run (step σ (reset_call k0 k1 ν b)) after (well_reset σ k0 k1 ν b ok)).beside in
    omega (arith, on.low (omega arith), on.high (omega arith))

-- the total is no part of what holds from reset on
retold : (σ : Machine) (k : ℕ) → Well σ → Well (handed_total σ k)
retold σ k inv =
    record { below = inv.below; inside = inv.inside; tiled = inv.tiled; covered = inv.covered; good = inv.good; small = inv.small; most = inv.most }

pub sides : Sides
unfolding Sides
sides σ k0 k1 ν b ok before after total =
    let ρ = run (step σ (reset_call k0 k1 ν b)) before in
    (on_run (handed_total ρ total) after (retold ρ total (on_run (step σ (reset_call k0 k1 ν b)) before (well_reset σ k0 k1 ν b ok)).well)).beside

-- ---- on any machine

range_step : (σ : Machine) (q : Call) → σ.state.total ≤ most_free σ.table → (step σ q).state.total ≤ most_free (step σ q).table
unfolding step size
range_step σ q h = go (turned σ q)
  where
    m : ℕ
    m = length σ.memory

    go : Turned σ q → (decision σ q).state.total ≤ most_free (decision σ q).table
    go (taken a p e) =
        let g = grant m σ.table q.request q.buffer in
        let z = sizes-passed m σ.state σ.table q.request q.buffer p in
        let two : 2 ≤ size σ.table = leb-true 2 (size σ.table) z.1.1.1.0 in
        let after = ranged_after g.encoding (size σ.table) (size σ.table) (omega arith) (omega arith) (opened σ.state σ.table) g.writes (record { sized = refl; total = omega arith }) in
        rw e (omega (arith, after.sized, after.total))
    go (away r e na) = rw e h

pub in_range : InRange
unfolding InRange
in_range σ [] h = h
in_range σ (q ∷ qs) h = in_range (step σ q) qs (range_step σ q h)

-- ---- two totals in range

-- a book with another total
abbrev over : Book → ℕ → Book
over b k = record { state = totalled b.state k; table = b.table; issued = b.issued; tokens = b.tokens }

-- the search for another nonce goes by the key alone
nonce_same : (tries : ℕ) (s : State) (k n : ℕ) (e : ℕ → Entry) (old ν : ℕ) → pass_over tries (totalled s k) n e old ν ≡ pass_over tries s n e old ν
unfolding pass_over
nonce_same zero s k n e old ν = refl
nonce_same (suc tries) s k n e old ν = rw (nonce_same tries s k n e old (ν + 1))

write_same : (c : ℕ) (b : Book) (k : ℕ) (w : Write) → write c (over b k) w ≡ over (write c b w) (write c (over b k) w).state.total
write_same c b k (begin m k0 k1 ν) = refl
write_same c b k (give e) = let n = new_number b.state b.table in rw (nonce_same (spent - b.state.next) b.state k n e (at b.table n).tag b.state.next)
write_same c b k (reissue n e) = rw (nonce_same (spent - b.state.next) b.state k n e (at b.table n).tag b.state.next)
write_same c b k (vacate n) = refl
write_same c b k (alter n e) = refl

book_same : (c : ℕ) (b : Book) (k : ℕ) (ws : List Write) → written c (over b k) ws ≡ over (written c b ws) (written c (over b k) ws).state.total
book_same c b k [] = refl
book_same c b k (w ∷ ws) =
    let one = write_same c b k w in
    let k' = (write c (over b k) w).state.total in
    let same : written c (write c (over b k) w) ws ≡ written c (over (write c b w) k') ws = ap (λ (x : Book). written c x ws) one in
    same ∙ book_same c (write c b w) k' ws ∙ ap (λ (x : Book). over (written c (write c b w) ws) x.state.total) (sym same)

-- a decision with another total
abbrev with : Decision → ℕ → Decision
with d k = record { state = totalled d.state k; table = d.table; reply = d.reply; issued = d.issued; effect = d.effect }

module _ (m : ℕ) (s : State) (t : List ℕ) (k : ℕ) (old : leb s.total (most_free t) ≡ true) (new : leb k (most_free t) ≡ true) where
  -- place 1 asks for the range, and no other place looks at the total
  places_same : (q : Request) (b : List ℕ) → places m (totalled s k) t q b ≡ places m s t q b
  places_same (reset k0 k1 ν) b = refl
  places_same (accessing w j u φ) b = rw (old, new)
  places_same (create j u l x p c) b = rw (old, new)
  places_same (merge i j u c) b = rw (old, new)
  places_same (derive j o l p c) b = rw (old, new)
  places_same (execute_only j c) b = rw (old, new)
  places_same (clone j) b = rw (old, new)
  places_same (release j) b = rw (old, new)
  places_same (lock j u) b = rw (old, new)
  places_same (unlock j u) b = rw (old, new)
  places_same (revoke j c) b = rw (old, new)
  places_same (page_out j u f c) b = rw (old, new)
  places_same (page_in i j u c) b = rw (old, new)
  places_same (look v) b = rw (old, new)

  module _ (q : Request) (b : List ℕ) where
    abbrev g : Grant
    g = grant m t q b

    checks_same : checks m (totalled s k) t q b ≡ checks m s t q b
    checks_same = rw (places_same q b, ap (λ (x : Book). x.state.next) (book_same g.encoding (opened s t) k g.writes))

    settle_same : (v : Verdict) → settle v (totalled s k) t g ≡ with (settle v s t g) (settle v (totalled s k) t g).state.total
    settle_same pass = ap (λ (x : Book). record { state = x.state; table = x.table; reply = granted x.tokens g.dropped 0; issued = x.issued; effect = g.effect }) (book_same g.encoding (opened s t) k g.writes)
    settle_same (stop r) = refl

    decide_same : decide m (totalled s k) t q b ≡ with (decide m s t q b) (decide m (totalled s k) t q b).state.total
    unfolding decide
    decide_same =
        let v : Verdict = verdict (checks m s t q b) in
        subst (λ (x : Verdict). settle x (totalled s k) t g ≡ with (settle v s t g) (settle x (totalled s k) t g).state.total) (ap verdict (sym checks_same)) (settle_same v)

-- the last stage does not look at it
conclude_same : (v : Verdict) (s : State) (t : List ℕ) (k n : ℕ) (d : Decision) (k' : ℕ)
    → concluded v (totalled s k) t n (with d k') ≡ with (concluded v s t n d) (concluded v (totalled s k) t n (with d k')).state.total
conclude_same pass s t k n d k' = refl
conclude_same (stop r) s t k n d k' = refl

decision_same : (σ : Machine) (k : ℕ) (q : Call) → σ.state.total ≤ most_free σ.table → k ≤ most_free σ.table
    → decision (handed_total σ k) q ≡ with (decision σ q) (decision (handed_total σ k) q).state.total
decision_same σ k q h i =
    let s : State = σ.state in
    let t : List ℕ = σ.table in
    let d : Decision = blind σ q in
    subst (λ (x : Decision). finished (totalled s k) t σ.memory q.buffer x ≡ with (decision σ q) (finished (totalled s k) t σ.memory q.buffer x).state.total)
    (sym (decide_same (length σ.memory) s t k (le-leb _ _ h) (le-leb _ _ i) q.request q.buffer))
    (conclude_same (verdict (lastly d.effect.fill σ.memory q.buffer)) s t k (told_length d.effect.fill σ.memory) d (blind (handed_total σ k) q).state.total)

step_same : (σ : Machine) (k : ℕ) (q : Call) → σ.state.total ≤ most_free σ.table → k ≤ most_free σ.table
    → let ρ = handed_total σ k in
    (answer ρ q ≡ answer σ q) × (step ρ q ≡ handed_total (step σ q) (step ρ q).state.total)
unfolding answer step
step_same σ k q h i =
    let same = decision_same σ k q h i in (
      ap (λ (d : Decision). record { reply = d.reply; buffer = buffer_after d.effect σ.memory q.buffer }) same,
      ap (λ (d : Decision). record { state = d.state; table = d.table; memory = memory_after d.effect σ.memory }) same,
    )

pub unseen : Unseen
unfolding Unseen
unseen σ k h i [] = (refl, refl)
unseen σ k h i (q ∷ qs) =
    let ρ : Machine = handed_total σ k in
    let one = step_same σ k q h i in
    let k' : ℕ = (step ρ q).state.total in
    let inside : k' ≤ most_free (step σ q).table = subst (λ (x : Machine). k' ≤ most_free x.table) one.1 (range_step ρ q i) in
    let more = unseen (step σ q) k' (range_step σ q h) inside qs in
    let there = ap (λ (x : Machine). run x qs) one.1 in (
      ap₂ ◌∷◌ one.0 (ap (λ (x : Machine). answers x qs) one.1 ∙ more.0),
      there ∙ more.1 ∙ ap (λ (x : Machine). handed_total (run (step σ q) qs) x.state.total) (sym there),
    )
