-- Paging out idle buffers: what out and in leave, which donors are taken, locks, and what is closed.
-- Assumes nothing.
use mathlib.Core.Path.{◌≡◌, refl, sym, ap, ◌∙◌}
use mathlib.Core.Logic.{◌≢◌}
use mathlib.Core.Bool.{false, true≢false}
use mathlib.Core.List.{List, ◌++◌}
use Prim.Native.Nat.{ℕ, ◌+◌, ◌^◌}
use native.Mathlib.Omega.{arith}
use lib.ListN.{length}
use borrow.Author.Tests.{eq-eqb, eqb-true, le-leb, leb-true, lt-ltb, ltb-true, not-true}
use Rattle.layout.specs.Form.{ill_formed}
use Rattle.layout.specs.declared.entry.Entry.{Entry}
use Rattle.tokens.specs.Token.{named}
use Rattle.machine.specs.Segments as owned
use Rattle.machine.specs.Issuing.{new_number}
use Rattle.machine.specs.Line.{line_of, owner, paged_out, walk}
use Rattle.machine.specs.MachineSystem.{Accepted, IsReset, reset_call, resets}
use Rattle.machine.specs.Operations.{grant_page_in, grant_page_out, named_entry, number_of}
use Rattle.machine.specs.Paging.{CameIn, Closes, comes_in, ForNone, goes_out, Idle, in_call, Ins, NoneLocked, numbered, Of, out_call, Outs, Pages, Restored, SameMarks, Takes, under, Unlocked, WentOut}
use Rattle.machine.specs.Parts.{at, most_memory, put, size, spent, State}
use Rattle.machine.specs.Requests.{Call, page_in, page_out}
use Rattle.machine.specs.Steps.{answer, Machine, memory_after, run, step}
use Rattle.machine.specs.Stops.{at_request, checks, need_all, settings, sizes}
use Rattle.machine.specs.Writes.{Name}
use Rattle.machine.proofs.Basics.{neqb_true}
use Rattle.machine.proofs.Decided.{accepted, AllTrue, but_nonces, needed, Passed, passed}
use Rattle.machine.proofs.Effects.{memory-long, memory-other, zeros}
use Rattle.machine.proofs.Fuel.{line_formed_lem}
use Rattle.machine.proofs.Grants.{either}
use Rattle.machine.proofs.PageWrites.{entry_in, entry_new, entry_out, in_touched, in_writes, Inward, nonce_in, nonce_new, number_new, out-touched, out_writes, Outward}
use Rattle.machine.proofs.Revocation.{above, itself, shut-closes, Shuts}
use Rattle.machine.proofs.SliceLaws.{all_zeros, slice_same}
use Rattle.machine.proofs.TableLaws.{at_other, in_table, vacated-other}

-- ---- what a granted out has, and leaves

module _ (σ : Machine) (k u f c : ℕ) (b : List ℕ) (ok : Accepted σ (out_call k u f c b)) where
  abbrev s : State
  s = σ.state

  abbrev t : List ℕ
  t = σ.table

  abbrev m : ℕ
  m = length σ.memory

  abbrev n : ℕ
  n = number_of k

  pub out-idle : Idle (at t n)
  out-idle =
      let a : Passed (checks m s t (page_out k u f c) b) = (accepted σ (out_call k u f c b) ok).0 in
      record { direct = eqb-true (at t n).kind 1 (search); unlocked = not-true (at t n).locked (search); uncounted = eqb-true (at t n).count 0 (search) }

  out_does : Outward s t n f m
  out_does =
      let a : Passed (checks m s t (page_out k u f c) b) = (accepted σ (out_call k u f c b) ok).0 in
      out_writes s t n f m (leb-true m most_memory (search)) out-idle.direct (line_formed_lem m t n (search)) (neqb_true (new_number s t) 0 (search)) (ltb-true f (2 ^ 64) (search)) (leb-true (nonce_new s t n f + 1) spent (search))

  pub went_out : WentOut σ n f c (answer σ (out_call k u f c b)) (step σ (out_call k u f c b))
  unfolding step answer
  went_out =
      let w : Outward s t n f m = out_does in
      let e : Entry = at t n in
      let new : ℕ = number_new s t n f in
      let M : List ℕ = memory_after (grant_page_out t n f c).effect σ.memory in
      rw (accepted σ (out_call k u f c b) ok).1
      (record {
        idle = out-idle;
        bytes = refl;
        paged = rw w.left;
        page = rw w.left;
        unlocked = rw w.left refl;
        marks = rw w.left (record { length = refl; user = refl; permissions = refl; lockable = refl });
        new = new;
        free = w.free;
        fresh = rw w.left_new (record { direct = refl; unlocked = refl; uncounted = refl });
        base = rw w.left_new;
        length = rw w.left_new;
        rights = rw w.left_new;
        lockable = rw w.left_new;
        user = rw w.left_new;
        anew = rw w.left w.up;
        second = rw (w.left, w.left_new) (omega arith);
        tokens = rw (w.left, w.left_new);
        others = λ i j v. at_other (put t n (entry_out s t n f)) new i (entry_new s t n f) v ∙ at_other t n i (entry_out s t n f) j;
        zeroed = rw w.left_new (all_zeros M e.base e.length (omega (arith, w.whole, memory-long (grant_page_out t n f c).effect σ.memory)) (λ x i j. zeros e.length σ.memory e.base x i j));
        outside = λ x out. memory-other (grant_page_out t n f c).effect σ.memory x (λ h. out (out-touched t n f c x h));
      })

pub outs : Outs
unfolding Outs
outs = went_out

-- ---- what a granted in has, and leaves

module _ (σ : Machine) (j k u c : ℕ) (b : List ℕ) (ok : Accepted σ (in_call j k u c b)) where
  abbrev s' : State
  s' = σ.state

  abbrev t' : List ℕ
  t' = σ.table

  abbrev m' : ℕ
  m' = length σ.memory

  abbrev from : ℕ
  from = number_of j

  abbrev to : ℕ
  to = number_of k

  pub donor-idle : Idle (at t' to)
  donor-idle =
      let a : Passed (checks m' s' t' (page_in j k u c) b) = (accepted σ (in_call j k u c b) ok).0 in
      record { direct = eqb-true (at t' to).kind 1 (search); unlocked = not-true (at t' to).locked (search); uncounted = eqb-true (at t' to).count 0 (search) }

  pub came_in : CameIn σ from to c b (answer σ (in_call j k u c b)) (step σ (in_call j k u c b))
  unfolding step answer
  came_in =
      let a : Passed (checks m' s' t' (page_in j k u c) b) = (accepted σ (in_call j k u c b) ok).0 in
      let paged : (at t' from).kind ≡ 3 = eqb-true (at t' from).kind 3 (search) in
      let long : length b ≡ (at t' from).length = eqb-true (length b) (at t' from).length (search) in
      let equal : (at t' from).length ≡ (at t' to).length = eqb-true (at t' from).length (at t' to).length (search) in
      let w : Inward s' t' from to m' =
      in_writes s' t' from to m' (leb-true m' most_memory (search)) paged (line_formed_lem m' t' from (search)) donor-idle.direct (line_formed_lem m' t' to (search)) equal (leb-true (nonce_in s' t' from to + 1) spent (search)) in
      rw (accepted σ (in_call j k u c b) ok).1
      (record {
        paged = paged;
        donor = donor-idle;
        equal = equal;
        idle = rw w.left (record { direct = refl; unlocked = refl; uncounted = refl });
        base = rw w.left;
        marks = rw w.left (record { length = refl; user = refl; permissions = refl; lockable = refl });
        bytes = rw w.left (slice_same σ.memory (at t' to).base b (at t' from).length long (omega arith));
        anew = rw w.left w.up;
        token = rw w.left;
        freed = rw w.left_donor;
        others = λ i h v. vacated-other (put t' from (entry_in s' t' from to)) to i v ∙ at_other t' from i (entry_in s' t' from to) h;
        outside = λ x out. memory-other (grant_page_in t' from to c b).effect σ.memory x (λ h. out (in_touched t' from to c b (long ∙ equal) x h));
      })

pub ins : Ins
unfolding Ins
ins = came_in

-- ---- what paging is for

same_marks : {d e f : Entry} → SameMarks d e → SameMarks e f → SameMarks d f
same_marks a b = record { length = a.length ∙ b.length; user = a.user ∙ b.user; permissions = a.permissions ∙ b.permissions; lockable = a.lockable ∙ b.lockable }

pub restored : Restored
unfolding Restored
restored σ k u f c b ok ρ same j d v e number ok' =
    let out : Call = out_call k u f c b in
    let o : WentOut σ (number_of k) f c (answer σ out) (step σ out) = went_out σ k u f c b ok in
    let i : CameIn ρ (number_of k) (number_of d) e (answer σ out).buffer (answer ρ (in_call j d v e (answer σ out).buffer)) (step ρ (in_call j d v e (answer σ out).buffer)) =
    rw (← number) (came_in ρ j d v e (answer σ out).buffer ok') in
    (i.bytes ∙ o.bytes, same_marks i.marks (rw same o.marks), i.idle)

-- the line of an entry that is paged out is itself
paged-line : (m : ℕ) (t : List ℕ) (n : ℕ) → (at t n).kind ≡ 3 → ill_formed m (at t n) ≡ false → line_of m t n ≡ paged_out n
unfolding walk
paged-line m t n p f = rw (f, p)

-- and that of a direct one too, which it owns
own_line : (m : ℕ) (t : List ℕ) (n : ℕ) → (at t n).kind ≡ 1 → ill_formed m (at t n) ≡ false → line_of m t n ≡ owner n
unfolding walk
own_line m t n d f = rw (f, d)

pub takes : Takes
unfolding Takes
takes σ fine j k u c b first second hu hc p idle long longer =
    let m : ℕ = length σ.memory in
    let t : List ℕ = σ.table in
    let n : ℕ = number_of j in
    let i : ℕ = number_of k in
    let set : AllTrue (sizes m t ++ settings σ.state t) = needed at_request (sizes m t ++ settings σ.state t) (passed (need_all at_request (sizes m t ++ settings σ.state t)) fine.settled) in
    let full : (at t n).kind ≢ 0 = λ z. omega arith in
    let full' : (at t i).kind ≢ 0 = λ z. omega (arith, idle.direct) in
    let line : line_of m t n ≡ paged_out n = paged-line m t n p (fine.formed n full) in
    let line' : line_of m t i ≡ owner i = own_line m t i idle.direct (fine.formed i full') in
    let named₁ = eq-eqb (at t n).tag (named j).tag (sym (ap (λ (x : Name). x.tag) first.name)) in
    let named₂ = eq-eqb (at t i).tag (named k).tag (sym (ap (λ (x : Name). x.tag) second.name)) in
    but_nonces σ (in_call j k u c b) (
      search,
      (
        search,
        (
          search,
          (
            search,
            (
              search,
              (
                search,
                (
                  search,
                  (
                    search,
                    (
                      search,
                      (
                        lt-ltb u (2 ^ 55) hu,
                        (
                          le-leb c 3 hc,
                          (
                            eq-eqb _ 0 first.offset,
                            (
                              eq-eqb _ 0 second.offset,
                              (
                                lt-ltb n (size t) (in_table t n full),
                                (
                                  rw p refl,
                                  (
                                    named₁,
                                    (
                                      rw line refl,
                                      (
                                        rw line refl,
                                        (
                                          rw line refl,
                                          (
                                            lt-ltb i (size t) (in_table t i full'),
                                            (
                                              rw idle.direct refl,
                                              (
                                                named₂,
                                                (
                                                  rw line' refl,
                                                  (
                                                    rw line' refl,
                                                    (
                                                      rw (line', idle.unlocked) refl,
                                                      (rw p refl, (rw idle.direct refl, (eq-eqb (length b) (at t n).length long, (eq-eqb (at t n).length (at t i).length (sym long ∙ longer), (rw idle.unlocked refl, (eq-eqb (at t i).count 0 idle.uncounted, tt)))))),
                                                    ),
                                                  ),
                                                ),
                                              ),
                                            ),
                                          ),
                                        ),
                                      ),
                                    ),
                                  ),
                                ),
                              ),
                            ),
                          ),
                        ),
                      ),
                    ),
                  ),
                ),
              ),
            ),
          ),
        ),
      ),
    )
    tt

-- ---- locks

pub unlocked : Unlocked
unfolding Unlocked
unlocked σ k u f c b j v d = (λ ok. (out-idle σ k u f c b ok).unlocked, λ ok. (donor-idle σ j k v d b ok).unlocked)

pub none_locked : NoneLocked
unfolding NoneLocked
none_locked σ fine k u f c b j v d ok s t x lock here there =
    let idle : Idle (named_entry σ.table k) = either (λ a. out-idle σ k u f c b a) (λ a. donor-idle σ j k v d b a) ok in
    let same : s ≡ number_of k = fine.one s (number_of k) x (record { direct = lock.direct; inside = here }) (record { direct = idle.direct; inside = there }) in
    true≢false (sym lock.locked ∙ ap (λ (i : ℕ). (at σ.table i).locked) same ∙ idle.unlocked)

pub for_none : ForNone
unfolding ForNone
for_none t n m p (owned.itself d) = omega arith
for_none t n m p (owned.above l o) = omega (arith, l.indirect)

no_reset : {r : Call} {n m : ℕ} → Pages r n m → IsReset r.request → ⊥
no_reset goes_out = elim [ ]
no_reset comes_in = elim [ ]

-- a granted request that pages shuts what is of its entry or under its segment
shuts : (σ : Machine) {r : Call} {n m : ℕ} → Pages r n m → Accepted σ r → (t₀ : List ℕ) (κ : Name) → Of t₀ n (at σ.table m) κ → Shuts t₀ κ σ.state.next σ.table (step σ r).table
shuts σ (goes_out {k = k} {u = u} {f = f} {c = c} {b = b}) ok t₀ κ (numbered e) = itself (rw e (went_out σ k u f c b ok).anew)
shuts σ (goes_out {k = k} {u = u} {f = f} {c = c} {b = b}) ok t₀ κ (under h) = above (number_of k) (out-idle σ k u f c b ok).direct (λ d. (went_out σ k u f c b ok).anew) h
shuts σ (comes_in {j = j} {k = k} {u = u} {c = c} {b = b}) ok t₀ κ (numbered e) = itself (rw e (came_in σ j k u c b ok).anew)
shuts σ (comes_in {j = j} {k = k} {u = u} {c = c} {b = b}) ok t₀ κ (under h) = above (number_of k) (donor-idle σ j k u c b ok).direct (λ d. absurd (omega (arith, (came_in σ j k u c b ok).freed))) h

pub closes : Closes
unfolding Closes
closes σ k0 k1 ν b ok after nr r n m p acc zs nz κ v since gave of fr =
    let B : Machine = run (step σ (reset_call k0 k1 ν b)) after in
    shut-closes σ (reset_call k0 k1 ν b) (resets, ok) after nr r (λ i. no_reset p i.0) zs nz κ v since gave (shuts B p acc _ κ of) fr
