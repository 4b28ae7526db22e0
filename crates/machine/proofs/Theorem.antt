-- Demand 3 holds.
-- Assumes nothing.
use mathlib.Core.Path.{◌≡◌, refl, sym, ap, ap₂, subst, ◌∙◌}
use mathlib.Core.Logic.{◌≢◌, inr}
use mathlib.Core.Bool.{true}
use mathlib.Core.List.{List, [], ◌∷◌, ◌++◌}
use Prim.Native.Nat.{ℕ, ◌+◌, ◌≤◌, ◌<◌}
use native.Mathlib.Omega.{arith}
use native.Mathlib.Decide.{dec_le, dec_lt}
use lib.ListN.{drop, get_or, length, replicate, take}
use lib.Seq.{ext_get_or}
use borrow.Author.Tests.{eqb-true, leb-true}
use Rattle.layout.specs.declared.entry.Entry.{Entry}
use Rattle.machine.specs.Demand3 as claim
use Rattle.machine.specs.Demand3.{Alike, Demand3}
use Rattle.machine.specs.Issuing.{issue, other_nonce}
use Rattle.machine.specs.MachineSystem.{Accepted, IsReset, of_machine, resets, Revokes, revokes, Unreset}
use Rattle.machine.specs.Operations.{carried, Decision, Fill, fresh, grant, grant_revoke, number_of, store, unfilled}
use Rattle.machine.specs.Parts.{at, put, spent}
use Rattle.machine.specs.Requests.{Call, Request, reset, revoke, task_of}
use Rattle.machine.specs.Segments.{In, LockedFor, Under}
use Rattle.machine.specs.Steps.{answer, answers, blind, buffer_after, concluded, decide, decision, finished, Machine, memory_after, run, step, telling, told_length, verdict}
use Rattle.machine.specs.Stops.{checks}
use Rattle.machine.specs.System.{AllSent, Never}
use Rattle.machine.specs.Writes.{Name}
use Rattle.machine.proofs.Basics.{direct-present, range}
use Rattle.machine.proofs.Decided.{accepted, accepted_last, away, by_decision, granted_by, Passed, taken, Turned, turned}
use Rattle.machine.proofs.Deeds.{deed_granted, revoked_good}
use Rattle.machine.proofs.Effects.{buffer_agree, lastly_agree, memory_agree, memory-long, memory-other, told_agree, zeros}
use Rattle.machine.proofs.Fates.{core, Deed, Fate, Filled, gone, issued, kept, Shut, shut_stays, spares, Touches}
use Rattle.machine.proofs.Fuel.{other-least}
use Rattle.machine.proofs.LedgerLaws.{run_append}
use Rattle.machine.proofs.Revocation.{above, shut-closes}
use Rattle.machine.proofs.Runs.{deed_of, none_append, none_granted, NotReset, run_well, step_well, Well, well_first}
use Rattle.machine.proofs.SliceLaws.{all_zeros}
use Rattle.machine.proofs.TableLaws.{at_same, in_table}
use Rattle.machine.proofs.Written.{Good}

-- ---- what is said of the further list

abbrev NoReset : Machine → List Call → Type 0
NoReset σ qs = Never of_machine of_machine.Resets σ qs

abbrev NoneCarries : ℕ → Machine → List Call → Type 0
NoneCarries t σ qs = Never of_machine (λ τ q. of_machine.Carries τ q t) σ qs

abbrev Unrevoked : Machine → List Call → ℕ → Type 0
Unrevoked σ qs s = Never of_machine (claim.Revoke of_machine s) σ qs

-- ---- the lock holds

lock-shut : (σ : Machine) (s t : ℕ) (q : Call) → LockedFor σ.table s t → task_of q.request ≢ t → Shut (task_of q.request) (at σ.table s)
lock-shut σ s t q l h = record { direct = l.direct; locked = l.locked; other = λ e. h (sym e ∙ l.held) }

-- q is no accepted revoke of s
abbrev Spares : Machine → Call → ℕ → Type 0
Spares σ q s = claim.Revoke of_machine s σ q → ⊥

-- what a request of another task does to the locked segment: nothing
record Guard (σ : Machine) (s : ℕ) (d : Decision) : Type 0 where
  same : core (at d.table s) ≡ core (at σ.table s)
  locked : (at d.table s).locked ≡ (at σ.table s).locked
  holder : (at d.table s).holder ≡ (at σ.table s).holder
  untouched : (x : ℕ) → Touches d.effect x → In (at σ.table s) x → ⊥

guard : (σ : Machine) (s t : ℕ) (q : Call) → Well σ → NotReset σ q → LockedFor σ.table s t → task_of q.request ≢ t → Spares σ q s → Guard σ s (decision σ q)
guard σ s t q inv nr l h r = go (turned σ q)
  where
    sh : Shut (task_of q.request) (at σ.table s)
    sh = lock-shut σ s t q l h

    go : Turned σ q → Guard σ s (decision σ q)
    go (taken a p e) =
        let d : Deed (length σ.memory) σ.state σ.table q.request (decision σ q) = deed_of σ q inv nr in
        let k = shut_stays (length σ.memory) σ.state σ.table q.request (decision σ q) inv d s sh (λ v. r (v, a)) in
        record { same = k.0; locked = k.1.0; holder = k.1.1; untouched = λ x tc i. d.spared s x sh (λ v. r (v, a)) tc i }
    go (away r e na) = rw e (record { same = refl; locked = refl; holder = refl; untouched = λ x tc i. spares x tc })

-- what makes nothing for its buffer is accepted if its checks pass: a reset, and a revoke
reset-granted : (σ : Machine) (q : Request) (b : List ℕ) → IsReset q → Passed (checks (length σ.memory) σ.state σ.table q b) → Accepted σ (record { request = q; buffer = b })
reset-granted σ _ b (resets {k0} {k1} {ν}) p = granted_by σ (record { request = reset k0 k1 ν; buffer = b }) p tt

revoke-granted : (σ : Machine) {s : ℕ} (q : Request) (b : List ℕ) → Revokes q s → Passed (checks (length σ.memory) σ.state σ.table q b) → Accepted σ (record { request = q; buffer = b })
revoke-granted σ _ b (revokes {k = k} {c = c} n) p = granted_by σ (record { request = revoke k c; buffer = b }) p tt

-- a request of another task looks at no byte of the locked segment, also where 14 then stops it
unseen : (σ : Machine) (s t : ℕ) (q : Call) → Well σ → NotReset σ q → LockedFor σ.table s t → task_of q.request ≢ t → Spares σ q s
    → (x : ℕ) → Filled (blind σ q).effect.fill x → In (at σ.table s) x → ⊥
unseen σ s t q inv nr l h r x =
    by_decision (λ (d : Decision). Filled d.effect.fill x → In (at σ.table s) x → ⊥) (length σ.memory) σ.state σ.table q.request q.buffer
    (λ p f. (deed_granted (length σ.memory) σ.state σ.table inv q.request q.buffer (λ i. nr (i, reset-granted σ q.request q.buffer i p)) p).spared s x (lock-shut σ s t q l h) (λ v. r (v, revoke-granted σ q.request q.buffer v p)) (inr f))
    (λ a f i. f)

lock_step : (σ : Machine) (s t : ℕ) (q : Call) → LockedFor σ.table s t → Guard σ s (decision σ q) → LockedFor (step σ q).table s t
unfolding step
lock_step σ s t q l g = record { direct = ap (λ (x : Entry). x.kind) g.same ∙ l.direct; locked = g.locked ∙ l.locked; held = g.holder ∙ l.held }

core_step : (σ : Machine) (s : ℕ) (q : Call) → Guard σ s (decision σ q) → core (at (step σ q).table s) ≡ core (at σ.table s)
unfolding step
core_step σ s q g = g.same

-- as long as the segment is not revoked
record Held (σ τ : Machine) (s t : ℕ) : Type 0 where
  lock : LockedFor τ.table s t
  same : core (at τ.table s) ≡ core (at σ.table s)

lock-run : (σ : Machine) (s t : ℕ) (qs : List Call) → Well σ → Unreset σ qs → LockedFor σ.table s t → NoneCarries t σ qs → Unrevoked σ qs s → Held σ (run σ qs) s t
lock-run σ s t [] inv nr l n u = record { lock = l; same = refl }
lock-run σ s t (q ∷ qs) inv nr l n u =
    let g : Guard σ s (decision σ q) = guard σ s t q inv nr.0 l n.0 u.0 in
    let h : Held (step σ q) (run (step σ q) qs) s t = lock-run (step σ q) s t qs (step_well σ q inv nr.0) nr.1 (lock_step σ s t q l g) n.1 u.1 in
    record { lock = h.lock; same = h.same ∙ core_step σ s q g }

-- ---- revocation

no_reset : {q : Request} {s : ℕ} → Revokes q s → IsReset q → ⊥
no_reset (revokes e) = elim [ ]

-- a revoke of s that is granted, in some encoding
record Wipe (σ : Machine) (s : ℕ) (r : Call) : Type 0 where
  encoding : ℕ
  unseen : (blind σ r).effect.fill ≡ unfilled
  done : decision σ r ≡ carried σ.state σ.table (grant_revoke σ.table s encoding)
  direct : (at σ.table s).kind ≡ 1
  left : other_nonce σ.state σ.table s (fresh (at σ.table s)) < spent

wipe : (σ : Machine) (s : ℕ) (r : Call) → Revokes r.request s → Accepted σ r → Wipe σ s r
wipe σ s r v a = go r.request v (accepted σ r a).0 (accepted_last σ r a).1 (accepted σ r a).1
  where
    m : ℕ
    m = length σ.memory

    go : (q : Request) → Revokes q s → Passed (checks m σ.state σ.table q r.buffer) → blind σ r ≡ carried σ.state σ.table (grant m σ.table q r.buffer)
        → decision σ r ≡ telling (told_length (grant m σ.table q r.buffer).effect.fill σ.memory) (carried σ.state σ.table (grant m σ.table q r.buffer)) → Wipe σ s r
    go _ (revokes {k = k} {c = c} n) h f e =
        record {
          encoding = c;
          unseen = ap (λ (d : Decision). d.effect.fill) f;
          done = e ∙ ap (λ (i : ℕ). carried σ.state σ.table (grant_revoke σ.table i c)) n;
          direct = subst (λ (i : ℕ). (at σ.table i).kind ≡ 1) n (eqb-true (at σ.table (number_of k)).kind 1 (search));
          left = subst (λ (i : ℕ). other_nonce σ.state σ.table i (fresh (at σ.table i)) < spent) n (omega (arith, leb-true (other_nonce σ.state σ.table (number_of k) (fresh (at σ.table (number_of k))) + 1) spent (search)));
        }

-- the new entry has a new nonce
revoke-nonce : (σ : Machine) (s : ℕ) (r : Call) → Well σ → Wipe σ s r → σ.state.next ≤ (at (step σ r).table s).nonce
unfolding step
revoke-nonce σ s r inv w =
    let ν : ℕ = other_nonce σ.state σ.table s (fresh (at σ.table s)) in
    let e : Entry = issue σ.state s (fresh (at σ.table s) ν) in
    let up : σ.state.next ≤ ν = other-least σ.state σ.table s (fresh (at σ.table s)) in
    let good : Good (length σ.memory) e = revoked_good (length σ.memory) σ.state σ.table inv s w.direct w.left in
    let new : at (put σ.table s e) s ≡ e = at_same σ.table s e good.storable (in_table σ.table s (omega (arith, w.direct))) in
    rw (w.done, new) up

-- ---- secrecy

-- two copies that differ in the locked segment of entry s only, which e was
record Twin (e : Entry) (s t : ℕ) (τ₁ τ₂ : Machine) : Type 0 where
  alike : Alike of_machine e τ₁ τ₂
  lock : LockedFor τ₁.table s t
  same : core (at τ₁.table s) ≡ core e
  inv : Well τ₁

-- what is decided without a look at memory is equal
same_blind : (e : Entry) (τ₁ τ₂ : Machine) (q : Call) → Alike of_machine e τ₁ τ₂ → blind τ₁ q ≡ blind τ₂ q
same_blind e τ₁ τ₂ q a i = decide (a.memory.long i) (a.other i) (a.table i) q.request q.buffer

-- and so is the decision, if no byte of the segment is looked at
same_decision : (e : Entry) (τ₁ τ₂ : Machine) (q : Call) → Alike of_machine e τ₁ τ₂ → ((x : ℕ) → Filled (blind τ₁ q).effect.fill x → In e x → ⊥) → decision τ₁ q ≡ decision τ₂ q
same_decision e τ₁ τ₂ q a h =
    let d : Decision = blind τ₁ q in
    let seen : (x : ℕ) → Filled d.effect.fill x → get_or τ₁.memory x 0 ≡ get_or τ₂.memory x 0 = λ x i. a.memory.outside x (h x i) in
    ap₂ (λ cs n. concluded (verdict cs) τ₁.state τ₁.table n d)
    (lastly_agree d.effect.fill τ₁.memory τ₂.memory q.buffer a.memory.long seen)
    (told_agree d.effect.fill τ₁.memory τ₂.memory a.memory.long seen)
    ∙ (λ i. finished (a.other i) (a.table i) τ₂.memory q.buffer (same_blind e τ₁ τ₂ q a i))

dec_in : (e : Entry) (x : ℕ) → Dec (In e x)
dec_in e x = go (dec_le e.base x) (dec_lt x (e.base + e.length))
  where
    go : Dec (e.base ≤ x) → Dec (x < e.base + e.length) → Dec (In e x)
    go (yes i) (yes j) = yes (i, j)
    go (yes i) (no j) = no (λ h. j h.1)
    go (no i) j = no (λ h. i h.0)

module _ (e : Entry) (s t : ℕ) (τ₁ τ₂ : Machine) (tw : Twin e s t τ₁ τ₂) (q : Call) where
  -- the answers are the same if the decisions are, and what is read
  same_answer : decision τ₁ q ≡ decision τ₂ q → buffer_after (decision τ₁ q).effect τ₁.memory q.buffer ≡ buffer_after (decision τ₁ q).effect τ₂.memory q.buffer → answer τ₁ q ≡ answer τ₂ q
  unfolding answer
  same_answer same h =
      ap₂ (λ r b. record { reply = r; buffer = b }) (ap (λ (d : Decision). d.reply) same) (h ∙ ap (λ (d : Decision). buffer_after d.effect τ₂.memory q.buffer) same)

  -- memories of equal length stay so
  same_long : length (memory_after (decision τ₁ q).effect τ₁.memory) ≡ length (memory_after (decision τ₁ q).effect τ₂.memory)
  same_long = memory-long (decision τ₁ q).effect τ₁.memory ∙ tw.alike.memory.long ∙ sym (memory-long (decision τ₁ q).effect τ₂.memory)

  -- a byte outside the segment
  same_outside : (x : ℕ) → (In e x → ⊥) → get_or (memory_after (decision τ₁ q).effect τ₁.memory) x 0 ≡ get_or (memory_after (decision τ₁ q).effect τ₂.memory) x 0
  same_outside x i = memory_agree (decision τ₁ q).effect τ₁.memory τ₂.memory x tw.alike.memory.long (tw.alike.memory.outside x i)

  -- a request of another task that is no accepted revoke of the segment
  module _ (nr : NotReset τ₁ q) (h : task_of q.request ≢ t) (r : Spares τ₁ q s) where
    g : Guard τ₁ s (decision τ₁ q)
    g = guard τ₁ s t q tw.inv nr tw.lock h r

    clear : (x : ℕ) → Touches (decision τ₁ q).effect x → In e x → ⊥
    clear x tc i = g.untouched x tc (subst (λ (y : Entry). In y x) (sym tw.same) i)

    same : decision τ₁ q ≡ decision τ₂ q
    same = same_decision e τ₁ τ₂ q tw.alike (λ x f i. unseen τ₁ s t q tw.inv nr tw.lock h r x f (subst (λ (y : Entry). In y x) (sym tw.same) i))

    calm_answer : answer τ₁ q ≡ answer τ₂ q
    calm_answer = same_answer same (buffer_agree (decision τ₁ q).effect τ₁.memory τ₂.memory q.buffer tw.alike.memory.long (λ x tc. tw.alike.memory.outside x (clear x tc)))

    calm_alike : Alike of_machine e (step τ₁ q) (step τ₂ q)
    unfolding step
    calm_alike =
        record {
          other = ap (λ (d : Decision). d.state) same;
          table = ap (λ (d : Decision). d.table) same;
          memory = record {
            long = same_long ∙ ap (λ (d : Decision). length (memory_after d.effect τ₂.memory)) same;
            outside = λ x i. same_outside x i ∙ ap (λ (d : Decision). get_or (memory_after d.effect τ₂.memory) x 0) same;
          };
        }

    calm : Twin e s t (step τ₁ q) (step τ₂ q)
    calm = record { alike = calm_alike; lock = lock_step τ₁ s t q tw.lock g; same = core_step τ₁ s q g ∙ tw.same; inv = step_well τ₁ q tw.inv nr }

    calm_keeps : (x : ℕ) → In e x → get_or (step τ₁ q).memory x 0 ≡ get_or τ₁.memory x 0
    unfolding step
    calm_keeps x i = memory-other (decision τ₁ q).effect τ₁.memory x (λ tc. clear x tc i)

  -- the accepted revoke of the segment
  module _ (v : Revokes q.request s) (a : Accepted τ₁ q) where
    wp : Wipe τ₁ s q
    wp = wipe τ₁ s q v a

    same_wiped : decision τ₁ q ≡ decision τ₂ q
    same_wiped = same_decision e τ₁ τ₂ q tw.alike (λ x f i. subst (λ (y : Fill). Filled y x) wp.unseen f)

    effect_is : (decision τ₁ q).effect ≡ store e.base (replicate e.length 0)
    effect_is = ap (λ (d : Decision). d.effect) wp.done ∙ ap (λ (x : Entry). store x.base (replicate x.length 0)) tw.same

    zero_inside : (m : List ℕ) (x : ℕ) → In e x → get_or (memory_after (decision τ₁ q).effect m) x 0 ≡ 0
    zero_inside m x i = rw effect_is (zeros e.length m e.base x i.0 i.1)

    wipe-answer : answer τ₁ q ≡ answer τ₂ q
    wipe-answer = same_answer same_wiped (rw effect_is refl)

    wipe-memory : memory_after (decision τ₁ q).effect τ₁.memory ≡ memory_after (decision τ₁ q).effect τ₂.memory
    wipe-memory = ext_get_or 0 (memory_after (decision τ₁ q).effect τ₁.memory) (memory_after (decision τ₁ q).effect τ₂.memory) same_long (λ x l. go x (dec_in e x))
      where
        go : (x : ℕ) → Dec (In e x) → get_or (memory_after (decision τ₁ q).effect τ₁.memory) x 0 ≡ get_or (memory_after (decision τ₁ q).effect τ₂.memory) x 0
        go x (yes i) = zero_inside τ₁.memory x i ∙ sym (zero_inside τ₂.memory x i)
        go x (no i) = same_outside x i

    -- the copies are one from then on
    wipe-equal : step τ₁ q ≡ step τ₂ q
    unfolding step
    wipe-equal =
        let memory : memory_after (decision τ₁ q).effect τ₁.memory ≡ memory_after (decision τ₂ q).effect τ₂.memory = wipe-memory ∙ ap (λ (d : Decision). memory_after d.effect τ₂.memory) same_wiped in
        λ i. record { state = (same_wiped i).state; table = (same_wiped i).table; memory = memory i }

    wipe-zeros : take e.length (drop e.base (step τ₁ q).memory) ≡ replicate e.length 0
    unfolding step
    wipe-zeros =
        let whole = range (length τ₁.memory) (at τ₁.table s) (direct-present _ wp.direct) (tw.inv.good s).formed in
        let fit : e.base + e.length ≤ length τ₁.memory = subst (λ (x : Entry). x.base + x.length ≤ length τ₁.memory) tw.same whole.1 in
        all_zeros (memory_after (decision τ₁ q).effect τ₁.memory) e.base e.length (omega (arith, memory-long (decision τ₁ q).effect τ₁.memory))
        (λ x i j. zero_inside τ₁.memory x (i, j))

-- the request is an accepted revoke of s, or it spares it
data Revoke (σ : Machine) (q : Call) (s : ℕ) : Type 0 where
  is : Revokes q.request s → Accepted σ q → Revoke σ q s
  isnt : Spares σ q s → Revoke σ q s

-- the nonce of the locked entry tells: only a revoke issues it anew
revoked_or_not : (σ : Machine) (s t : ℕ) (q : Call) → Well σ → NotReset σ q → LockedFor σ.table s t → task_of q.request ≢ t → Revoke σ q s
unfolding step
revoked_or_not σ s t q inv nr lk h = go (turned σ q) (dec_lt (at (decision σ q).table s).nonce σ.state.next)
  where
    shut : Shut (task_of q.request) (at σ.table s)
    shut = lock-shut σ s t q lk h

    fated : ((at (decision σ q).table s).nonce < σ.state.next → ⊥) → Fate σ.table q.request (deed_of σ q inv nr).least (decision σ q).state.next (decision σ q).issued (deed_of σ q inv nr).moves s (at (decision σ q).table s) → Revokes q.request s
    fated i (kept c g k) = absurd (i (omega (arith, ap (λ (x : Entry). x.nonce) c, inv.below s (omega (arith, lk.direct)))))
    fated i (gone z g k) = absurd (k shut)
    fated i (issued a b m j f k) = k shut

    go : Turned σ q → Dec ((at (decision σ q).table s).nonce < σ.state.next) → Revoke σ q s
    go (away r e n) d = isnt (λ v. n v.1)
    go (taken a p e) (yes i) = isnt (λ v. omega (arith, revoke-nonce σ s q inv (wipe σ s q v.0 v.1)))
    go (taken a p e) (no i) = is (fated i ((deed_of σ q inv nr).fate s)) a

pub alike_refl : (e : Entry) (σ : Machine) → Alike of_machine e σ σ
alike_refl e σ = record { other = refl; table = refl; memory = record { long = refl; outside = λ x i. refl } }

alike-sym : {e : Entry} {σ τ : Machine} → Alike of_machine e σ τ → Alike of_machine e τ σ
alike-sym a = record { other = sym a.other; table = sym a.table; memory = record { long = sym a.memory.long; outside = λ x i. sym (a.memory.outside x i) } }

alike_trans : {e : Entry} {ρ σ τ : Machine} → Alike of_machine e ρ σ → Alike of_machine e σ τ → Alike of_machine e ρ τ
alike_trans a b = record { other = a.other ∙ b.other; table = a.table ∙ b.table; memory = record { long = a.memory.long ∙ b.memory.long; outside = λ x i. a.memory.outside x i ∙ b.memory.outside x i } }

-- while no revoke of the segment is accepted, the copies stay twins and each keeps its bytes of the segment
record Kept (e : Entry) (s t : ℕ) (τ₁ σ₁ σ₂ : Machine) : Type 0 where
  twin : Twin e s t σ₁ σ₂
  bytes : (x : ℕ) → In e x → get_or σ₁.memory x 0 ≡ get_or τ₁.memory x 0

twin_run : (e : Entry) (s t : ℕ) (τ₁ τ₂ : Machine) (qs : List Call) → Twin e s t τ₁ τ₂ → NoReset τ₁ qs → NoneCarries t τ₁ qs → Unrevoked τ₁ qs s → Kept e s t τ₁ (run τ₁ qs) (run τ₂ qs)
twin_run e s t τ₁ τ₂ [] tw nr n u = record { twin = tw; bytes = λ x i. refl }
twin_run e s t τ₁ τ₂ (q ∷ qs) tw nr n u =
    let k : Kept e s t (step τ₁ q) (run (step τ₁ q) qs) (run (step τ₂ q) qs) =
    twin_run e s t (step τ₁ q) (step τ₂ q) qs (calm e s t τ₁ τ₂ tw q (λ i. nr.0 i.0) n.0 u.0) nr.1 n.1 u.1 in
    record { twin = k.twin; bytes = λ x i. k.bytes x i ∙ calm_keeps e s t τ₁ τ₂ tw q (λ i. nr.0 i.0) n.0 u.0 x i }

-- the answers are the same, and the copies agree outside the segment, revoked or not
record Same (e : Entry) (τ₁ τ₂ : Machine) (qs : List Call) : Type 0 where
  said : answers τ₁ qs ≡ answers τ₂ qs
  left : Alike of_machine e (run τ₁ qs) (run τ₂ qs)

same_run : (e : Entry) (s t : ℕ) (τ₁ τ₂ : Machine) (qs : List Call) → Twin e s t τ₁ τ₂ → NoReset τ₁ qs → NoneCarries t τ₁ qs → Same e τ₁ τ₂ qs
same_run e s t τ₁ τ₂ [] tw nr n = record { said = refl; left = tw.alike }
same_run e s t τ₁ τ₂ (q ∷ qs) tw nr n =
    go (λ r. same_run e s t (step τ₁ q) (step τ₂ q) qs (calm e s t τ₁ τ₂ tw q (λ i. nr.0 i.0) n.0 r) nr.1 n.1) (revoked_or_not τ₁ s t q tw.inv (λ i. nr.0 i.0) tw.lock n.0)
  where
    next : answer τ₁ q ≡ answer τ₂ q → Same e (step τ₁ q) (step τ₂ q) qs → Same e τ₁ τ₂ (q ∷ qs)
    next a k = record { said = ap₂ (λ x y. x ∷ y) a k.said; left = k.left }

    other : (Spares τ₁ q s → Same e (step τ₁ q) (step τ₂ q) qs) → Spares τ₁ q s → Same e τ₁ τ₂ (q ∷ qs)
    other f r = next (calm_answer e s t τ₁ τ₂ tw q (λ i. nr.0 i.0) n.0 r) (f r)

    go : (Spares τ₁ q s → Same e (step τ₁ q) (step τ₂ q) qs) → Revoke τ₁ q s → Same e τ₁ τ₂ (q ∷ qs)
    go f (isnt r) = other f r
    go f (is v a) =
        next (wipe-answer e s t τ₁ τ₂ tw q v a)
        (subst (λ (σ : Machine). Same e (step τ₁ q) σ qs) (wipe-equal e s t τ₁ τ₂ tw q v a) (record { said = refl; left = alike_refl e (run (step τ₁ q) qs) }))

-- a revoke that is accepted in one copy is accepted in the other
accepted_same : (e : Entry) (s : ℕ) (τ₁ τ₂ : Machine) (q : Call) → Revokes q.request s → Alike of_machine e τ₁ τ₂ → Accepted τ₁ q → Accepted τ₂ q
accepted_same e s τ₁ τ₂ q v a h = revoke-granted τ₂ q.request q.buffer v (rw (a.memory.long, a.other, a.table) at (accepted τ₁ q h).0)

unrevoked_same : (e : Entry) (s t : ℕ) (τ₁ τ₂ : Machine) (qs : List Call) → Twin e s t τ₁ τ₂ → NoReset τ₁ qs → NoneCarries t τ₁ qs → Unrevoked τ₁ qs s → Unrevoked τ₂ qs s
unrevoked_same e s t τ₁ τ₂ [] tw nr n u = tt
unrevoked_same e s t τ₁ τ₂ (q ∷ qs) tw nr n u = (
  (λ v. u.0 (v.0, accepted_same e s τ₂ τ₁ q v.0 (alike-sym tw.alike) v.1)),
  unrevoked_same e s t (step τ₁ q) (step τ₂ q) qs (calm e s t τ₁ τ₂ tw q (λ i. nr.0 i.0) n.0 u.0) nr.1 n.1 u.1,
)

-- ---- the whole

-- a copy of σ, and another, as twins
twins : (σ : Machine) (s t : ℕ) (τ₁ τ₂ : Machine) → Well σ → LockedFor σ.table s t → Alike of_machine (at σ.table s) σ τ₁ → Alike of_machine (at σ.table s) σ τ₂ → Twin (at σ.table s) s t τ₁ τ₂
twins σ s t τ₁ τ₂ inv lk a b =
    record {
      alike = alike_trans (alike-sym a) b;
      lock = record { direct = subst (λ (u : List ℕ). (at u s).kind ≡ 1) a.table lk.direct; locked = subst (λ (u : List ℕ). (at u s).locked ≡ true) a.table lk.locked; held = subst (λ (u : List ℕ). (at u s).holder ≡ t) a.table lk.held };
      same = ap (λ (u : List ℕ). core (at u s)) (sym a.table);
      inv = rw (a.memory.long, a.other, a.table) at inv;
    }

-- under an entry and under one with the same core is the same
under_same : {t : List ℕ} {d e : Entry} {k : Name} → core d ≡ core e → Under t e k → Under t d k
under_same s u = record { owner = u.owner; owns = u.owns; byte = u.byte; theirs = u.theirs; ours = subst (λ (x : Entry). In x u.byte) (sym s) u.ours }

-- what is said of requests alone holds of a list from whatever machine
elsewhere : (P : Call → Type 0) (σ τ : Machine) (qs : List Call) → Never of_machine (λ μ q. P q) σ qs → Never of_machine (λ μ q. P q) τ qs
elsewhere P σ τ [] n = tt
elsewhere P σ τ (q ∷ qs) n = (n.0, elsewhere P (step σ q) (step τ q) qs n.1)

-- of the machine's requests nothing is asked beforehand
pub all_sent : (qs : List Call) → AllSent of_machine qs
all_sent [] = tt
all_sent (q ∷ qs) = (tt, all_sent qs)

pub demand3 : Demand3 of_machine
unfolding Demand3
demand3 σ whole first ok rest sent nr s t lk τ₁ τ₂ a b qs sentq nq nc =
    record {
      same = (same_run e s t τ₁ τ₂ qs tw nq₁ nc₁).said;
      alike = (same_run e s t τ₁ τ₂ qs tw nq₁ nc₁).left;
      kept = λ u. (twin_run e s t τ₁ τ₂ qs tw nq₁ nc₁ u).bytes;
      wiped = λ r f. wipe-zeros e s t (run τ₁ qs) (run τ₂ qs) (twin_run e s t τ₁ τ₂ qs tw nq₁ nc₁ f.before).twin r f.revoke.0 f.revoke.1;
      closed = λ r f zs sentz nz k v since gave u fr.
          let tr : Twin e s t (run τ₁ qs) (run (run ρ rest) qs) = (twin_run e s t τ₁ (run ρ rest) qs ts nq₁ nc₁ f.before).twin in
          let there : run ρ (rest ++ qs) ≡ run (run ρ rest) qs = run_append of_machine ρ rest qs in
          let acc : Accepted (run ρ (rest ++ qs)) r = rw there (accepted_same e s (run τ₁ qs) (run (run ρ rest) qs) r f.revoke.0 tr.alike f.revoke.1) in
          let one : step (run τ₁ qs) r ≡ step (run ρ (rest ++ qs)) r = rw there (wipe-equal e s t (run τ₁ qs) (run (run ρ rest) qs) tr r f.revoke.0 f.revoke.1) in
          let held : Held (run ρ rest) (run ρ (rest ++ qs)) s t = rw there (lock-run (run ρ rest) s t qs inv (none_granted (run ρ rest) qs nq) lk nc (unrevoked_same e s t τ₁ (run ρ rest) qs ts nq₁ nc₁ f.before)) in
          let all : Unreset ρ (rest ++ qs) = none_append ρ rest qs nr (none_granted (run ρ rest) qs nq) in
          rw one
          (shut-closes σ first ok (rest ++ qs) all r (λ i. no_reset f.revoke.0 i.0) zs (subst (λ (x : Machine). Unreset x zs) one nz) k v since gave
          (above s held.lock.direct (λ d. revoke-nonce (run ρ (rest ++ qs)) s r (run_well ρ (rest ++ qs) inv₀ all) (wipe (run ρ (rest ++ qs)) s r f.revoke.0 acc)) (under_same held.same u)) fr);
    }
  where
    ρ : Machine
    ρ = step σ first

    e : Entry
    e = at (run ρ rest).table s

    inv₀ : Well ρ
    inv₀ = well_first σ first ok

    inv : Well (run ρ rest)
    inv = run_well ρ rest inv₀ nr

    tw : Twin e s t τ₁ τ₂
    tw = twins (run ρ rest) s t τ₁ τ₂ inv lk a b

    ts : Twin e s t τ₁ (run ρ rest)
    ts = twins (run ρ rest) s t τ₁ (run ρ rest) inv lk a (alike_refl e (run ρ rest))

    nq₁ : NoReset τ₁ qs
    nq₁ = elsewhere (λ q. IsReset q.request) (run ρ rest) τ₁ qs nq

    nc₁ : NoneCarries t τ₁ qs
    nc₁ = elsewhere (λ q. task_of q.request ≡ t) (run ρ rest) τ₁ qs nc
