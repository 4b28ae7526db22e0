-- The claims used, with the real tags: the premises of each can be met, and two of demand 3's are shown to be needed.
-- Assumes nothing.
use mathlib.Core.Path.{◌≡◌, refl, sym, ap}
use mathlib.Core.Bool.{true}
use mathlib.Core.Logic.{◌⊎◌, inl, inr}
use mathlib.Core.List.Memᴰ
use mathlib.Core.List.{List, [], ◌∷◌, ◌++◌, Memᴰ}
use Prim.Native.Nat.{ℕ, ◌<◌}
use native.Mathlib.Omega.{arith}
use lib.ListN.{get_or, length-set, replicate}
use lib.Seq.{get_or-set_other}
use Rattle.bits.specs.Bytes.{AllBytes, bytes, low_bytes, low_number, number}
use Rattle.layout.specs.Entry.{direct, direct_number, direct_of, entry_number, entry_of, free, free_number, indirect, indirect_number, indirect_of, recounted, relocked}
use Rattle.layout.specs.Form.{ill_formed}
use Rattle.leases.specs.Lease.{all_sound, first_leases, is_open, leases_of}
use Rattle.tokens.specs.Permissions.{within}
use Rattle.bits.specs.SipHash.{absorb, add64, compress, finish, padded, rotl, siphash, sip_round, word}
use Rattle.layout.specs.Tag.{tag_of}
use Rattle.layout.specs.declared.entry.Entry.{Entry}
use Rattle.machine.specs.Demand3.{Alike, Closed, Demand3, Secret}
use Rattle.machine.specs.Depth.{Bounded, climb_meets, Depth, drop_meets, line_meets, walk_meets}
use Rattle.machine.specs.FromReset.{FromReset}
use Rattle.machine.specs.Issuing.{pass_over, seek}
use Rattle.machine.specs.Ledger.{earlier, Event, last, Returned}
use Rattle.machine.specs.Lent.{LentBytes}
use Rattle.machine.specs.Line.{walk}
use Rattle.machine.specs.MachineSystem as claim
use Rattle.machine.specs.MachineSystem.{Accepted, IsReset, of_machine, Revokes, through, Unreset}
use Rattle.machine.specs.Operations.{Effect, nothing, store}
use Rattle.machine.specs.Parts.{at, cleared, put, root, size}
use Rattle.machine.specs.Requests.{Call}
use Rattle.machine.specs.Segments.{above, In, itself, LockedFor}
use Rattle.machine.specs.Steps.{Answer, answer, decide, decision, Machine, run, step}
use Rattle.machine.specs.System.{event, ledger}
use Rattle.machine.specs.Unchanged.{HeldDrop, LockAgain}
use Rattle.machine.specs.WholeDerive.{derive_call, Parts, PassedOn, Whole}
use Rattle.machine.specs.Writes.{Name, token_for}
use Rattle.uses.specs.Uses.{before, changed, child, derived, derives, drops, First, first, list_of, locks7, passed, passes, Premises, read, read_passed, reset1, reset_of, revokes, root_name, since_derived, single}
use Rattle.uses.proofs.Granted.{decides, Grants, grants, holding}
use Rattle.bits.proofs.ByteLists.{bytes-zeros}
use Rattle.machine.proofs.Depth.{depth}
use Rattle.machine.proofs.FromReset.{from_reset_lem}
use Rattle.machine.proofs.LedgerLaws.{issued_again, issued_by}
use Rattle.machine.proofs.Lent.{bytes-stay}
use Rattle.machine.proofs.Theorem.{alike_refl, all_sent, demand3}
use Rattle.machine.proofs.Unchanged.{held-drop, lock_again}
use Rattle.machine.proofs.WholeDerive.{parts, whole-passed}

-- ---- what the requests are not

derives-no_reset : IsReset derives.request → ⊥
derives-no_reset = elim [ ]

locks_no_reset : IsReset locks7.request → ⊥
locks_no_reset = elim [ ]

reads_no_revoke : Revokes (read 0 8).request 0 → ⊥
reads_no_revoke = elim [ ]

-- ---- what is computed: each machine that the lists pass through, once, and what is asked of it

-- over a table of two entries
abbrev two : (last next total : ℕ) → (a b : Entry) → (memory : List ℕ) → Machine
two l ν k a b m = holding l ν k (a ∷ b ∷ []) m

abbrev nines : List ℕ
nines = replicate 8 9

-- a revoke turns all of it to zeros
abbrev zeros : List ℕ
zeros = replicate 8 0

abbrev zeroing : Effect
zeroing = store 0 zeros

-- after the reset; the derive; the lock; the revoke, which gives the root another tag
abbrev after_reset : Machine
after_reset = two 0 1 1 (root 8) free nines

abbrev child_entry : Entry
child_entry = indirect 2 3 (token_for 1 root_name) 4 child.tag 1

abbrev after_derive : Machine
after_derive = two 1 2 0 (recounted (root 8) 1) child_entry nines

abbrev after_lock : Machine
after_lock = two 1 2 0 (relocked (recounted (root 8) 1) true 7) child_entry nines

abbrev root_again : Name
root_again = record { number = 0; tag = 20639 }

abbrev after_revoke : Machine
after_revoke = two 1 3 0 (direct 0 8 0 7 true root_again.tag 2) child_entry zeros

-- after the reset and the lock alone
abbrev held_root : Machine
held_root = two 0 1 1 (relocked (root 8) true 7) free nines

-- with the other first nonce: after the reset; the lock; a revoke; and one more
abbrev other_reset : Machine
other_reset = two 0 87419 1 (root 8) free nines

abbrev other_lock : Machine
other_lock = two 0 87419 1 (relocked (root 8) true 7) free nines

abbrev other_root : Name
other_root = record { number = 0; tag = 23730 }

abbrev other_revoke : Machine
other_revoke = two 0 87420 1 (direct 0 8 0 7 true other_root.tag 87419) free zeros

abbrev second_revoke : Machine
second_revoke = two 0 87421 1 (direct 0 8 0 7 true root_name.tag 87420) free zeros

-- all of the root is passed on
abbrev after_pass : Machine
after_pass = two 1 2 0 (recounted (root 8) 1) (indirect 0 8 (token_for 1 root_name) 4 passed.tag 1) nines

-- after the reset, with one byte of memory
abbrev after_single : Machine
after_single = two 0 1 1 (root 1) free (9 ∷ [])

record Computed : Type 0 where
  begins : Accepted before (reset1 1)
  begun : step before (reset1 1) ≡ after_reset
  derives_child : decision after_reset derives ≡ decides (child ∷ []) after_derive nothing
  no_reset : (answer after_derive (reset1 0)).reply.refusal ≡ 1
  unreset : step after_derive (reset1 0) ≡ after_derive
  locked : step after_derive locks7 ≡ after_lock
  unread : step after_lock (read 0 8) ≡ after_lock
  none_by_reset : (decision after_derive (reset1 0)).issued ≡ []
  none_by_lock : (decision after_derive locks7).issued ≡ []
  none_by_read : (decision after_lock (read 0 8)).issued ≡ []
  revokes_root : decision after_lock (revokes 0) ≡ decides (root_again ∷ []) after_revoke zeroing
  root_locked : step after_reset locks7 ≡ held_root
  first_read : (answer held_root (read 3 7)).buffer ≡ 9 ∷ []
  other_read : (answer (changed held_root 3 5) (read 3 7)).buffer ≡ 5 ∷ []
  other_begins : Accepted before (reset1 87419)
  other_given : (decision before (reset1 87419)).issued ≡ root_name ∷ []
  other_begun : step before (reset1 87419) ≡ other_reset
  locked_later : step other_reset locks7 ≡ other_lock
  revokes_once : decision other_lock (revokes 0) ≡ decides (other_root ∷ []) other_revoke zeroing
  refused_between : (answer other_revoke (read 0 0)).reply.refusal ≡ 2
  revokes_twice : decision other_revoke (revokes (token_for 0 other_root)) ≡ decides (root_name ∷ []) second_revoke zeroing
  opens : Accepted second_revoke (read 0 0)
  entries : size after_derive.table ≡ 2
  lined : line_meets 8 after_derive.table 1 ≡ 1 ∷ 0 ∷ []
  climbed : drop_meets after_derive.table 1 ≡ 1 ∷ 0 ∷ []
  room : (answer after_reset (derive_call 0 7 1 4 0 [])).reply.refusal ≡ 0
  passes_on : decision after_reset (passes 8) ≡ decides (passed ∷ []) after_pass nothing
  last_byte : (answer after_pass (read_passed 7)).buffer ≡ 9 ∷ []
  beyond : (answer after_pass (read_passed 8)).reply.refusal ≡ 8
  single_begins : Accepted single (reset1 1)
  single_begun : step single (reset1 1) ≡ after_single
  single_passes : Accepted after_single (passes 1)

computed : Computed
unfolding walk_meets climb_meets before single bytes number low_bytes low_number direct_number direct_of entry_number entry_of free_number indirect_number indirect_of ill_formed all_sound first_leases is_open leases_of within absorb add64 compress finish padded rotl siphash sip_round word tag_of pass_over seek walk at cleared put size decide step answer
computed = record { begins = refl; begun = refl; derives_child = refl; no_reset = refl; unreset = refl; locked = refl; unread = refl; none_by_reset = refl; none_by_lock = refl; none_by_read = refl; revokes_root = refl; root_locked = refl; first_read = refl; other_read = refl; other_begins = refl; other_given = refl; other_begun = refl; locked_later = refl; revokes_once = refl; refused_between = refl; revokes_twice = refl; opens = refl; entries = refl; lined = refl; climbed = refl; room = refl; passes_on = refl; last_byte = refl; beyond = refl; single_begins = refl; single_begun = refl; single_passes = refl }

-- what the requests that issue come to
derived-child : Grants after_reset derives (child ∷ []) after_derive
derived-child = grants nothing computed.derives_child refl

revoked : Grants after_lock (revokes 0) (root_again ∷ []) after_revoke
revoked = grants zeroing computed.revokes_root refl

revoked-once : Grants other_lock (revokes 0) (other_root ∷ []) other_revoke
revoked-once = grants zeroing computed.revokes_once refl

revoked-twice : Grants other_revoke (revokes (token_for 0 other_root)) (root_name ∷ []) second_revoke
revoked-twice = grants zeroing computed.revokes_twice refl

passed_on : Grants after_reset (passes 8) (passed ∷ []) after_pass
passed_on = grants nothing computed.passes_on refl

-- ---- a token derived before the lock is closed by the revoke

-- what is given after the child: the root, by the revoke
later : issued_by (ledger of_machine [] after_derive (reset1 0 ∷ locks7 ∷ read 0 8 ∷ revokes 0 ∷ [])) ≡ root_again ∷ []
later = rw (computed.none_by_reset, computed.unreset, computed.none_by_lock, computed.locked, computed.none_by_read, computed.unread, revoked.issued)

-- demand 3, for a token whose premises are met
closed_by : (σ : Machine) (f : First) (qs : List Call) (r : Call) (k : Name) (v : Event) (since : List Event) → Premises σ f qs r k v since
    → (zs : List Call) → Unreset (step (run (run σ (list_of f)) qs) r) zs → (Returned k v (ledger of_machine since (run σ (list_of f ++ qs)) (r ∷ zs)) → ⊥)
    → Closed of_machine (run (step (run (run σ (list_of f)) qs) r) zs) k
unfolding Demand3
closed_by σ f qs r k v since p zs n =
    let τ : Machine = run σ (list_of f) in
    let same : Alike of_machine (at τ.table f.entry) τ τ = alike_refl (at τ.table f.entry) τ in
    (demand3 σ tt (reset_of f) (claim.resets, p.accepted) f.follows (all_sent (list_of f)) p.one_reset f.entry f.task p.locked τ τ same same qs (all_sent qs) p.no_reset p.none_carries
    ).closed r p.revoked zs (all_sent (r ∷ zs)) n k v since p.given p.under

-- the premises are met, with a reset in the first list and a read by 8 before the revoke, which are both refused; and the revoke issues the root alone
pub child-premises :
    Premises before (first 1 (derives ∷ reset1 0 ∷ locks7 ∷ [])) (read 0 8 ∷ []) (revokes 0) child derived (since_derived (reset1 0 ∷ locks7 ∷ read 0 8 ∷ []))
    × (Memᴰ child (issued_by (since_derived (reset1 0 ∷ locks7 ∷ read 0 8 ∷ revokes 0 ∷ []))) → ⊥)
unfolding bytes number direct_number direct_of entry_number entry_of indirect_number indirect_of at size
child-premises = (
  record {
    accepted = computed.begins;
    one_reset = (λ g. derives-no_reset g.0, (λ g. omega (arith, rw (computed.begun, derived-child.leaves, computed.no_reset) at g.1), (λ g. locks_no_reset g.0, tt)));
    locked = rw (computed.begun, derived-child.leaves, computed.unreset, computed.locked) (record { direct = refl; locked = refl; held = refl });
    no_reset = (elim [ ], tt);
    none_carries = (λ e. omega arith, tt);
    revoked = record { before = (λ g. reads_no_revoke g.0, tt); revoke = (claim.revokes refl, rw (computed.begun, derived-child.leaves, computed.unreset, computed.locked, computed.unread) revoked.accepted) };
    given = earlier (earlier (earlier (last (rw (computed.begun, derived-child.issued) (Memᴰ.head refl)))));
    under =
        rw (computed.begun, derived-child.leaves, computed.unreset, computed.locked)
        (record { owner = 0; owns = above {n = 1} {m = 0} (record { indirect = refl; holds = refl }) (itself refl); byte = 2; theirs = omega arith; ours = omega arith });
  },
  λ h. once (Memᴰ.cases_cons (rw (computed.begun, derived-child.leaves, later) at h)),
)
  where
    once : (child ≡ root_again) ⊎ Memᴰ child [] → ⊥
    once (inl e) = omega (arith, ap (λ (x : Name). x.number) e)
    once (inr m) = Memᴰ.not-nil m

pub child-closed : Closed of_machine (run before (reset1 1 ∷ derives ∷ reset1 0 ∷ locks7 ∷ read 0 8 ∷ revokes 0 ∷ [])) child
child-closed =
    let on : List Event = since_derived (reset1 0 ∷ locks7 ∷ read 0 8 ∷ revokes 0 ∷ []) in
    closed_by before (first 1 (derives ∷ reset1 0 ∷ locks7 ∷ [])) (read 0 8 ∷ []) (revokes 0) child derived (since_derived (reset1 0 ∷ locks7 ∷ read 0 8 ∷ [])) child-premises.0 [] tt
    (λ h. child-premises.1 (issued_again child derived on h))

-- ---- "none carrying t" is needed: a read by the holder tells two copies apart

-- a copy that differs in one byte of the segment of e
one_byte : (e : Entry) (σ : Machine) (x v : ℕ) → In e x → Alike of_machine e σ (changed σ x v)
one_byte e σ x v i =
    record {
      other = refl;
      table = refl;
      memory = record { long = sym (length-set σ.memory x v); outside = λ y o. sym (get_or-set_other σ.memory x y v 0 (λ p. o (rw p i))) };
    }

-- the first byte of the first answer
first_byte : List Answer → ℕ
first_byte [] = 0
first_byte (a ∷ rest) = get_or a.buffer 0 0

-- the other premises hold, and what demand 3 claims fails
pub holder-reads :
    let τ : Machine = run before (list_of (first 1 (locks7 ∷ []))) in
    let e : Entry = at τ.table 0 in
    Accepted before (reset1 1) × LockedFor τ.table 0 7 × Alike of_machine e τ (changed τ 3 5)
    × (Secret of_machine before (list_of (first 1 (locks7 ∷ []))) 0 e τ (changed τ 3 5) (read 3 7 ∷ []) → ⊥)
unfolding first_byte bytes number direct_number direct_of entry_number entry_of free_number indirect_number indirect_of at size
holder-reads = (
  computed.begins,
  rw (computed.begun, computed.root_locked) (record { direct = refl; locked = refl; held = refl }),
  rw (computed.begun, computed.root_locked) (one_byte (at held_root.table 0) held_root 3 5 (omega arith, omega arith)),
  λ s. omega (arith, rw (computed.begun, computed.root_locked, computed.first_read, computed.other_read) at (ap first_byte s.same)),
)

-- ---- "only where the number held another tag between the token's giving and its issuing again" is needed: a token opens again

-- The first nonce is such that two revokes in a row bring the first tag back: the first gives tag 23730, and the second, which passes over that
-- one alone, gives tag 0. Between them the token is refused; after them a read through it is granted, to whatever task. So it returns, after another tag.
pub opens_again :
    let r : Call = revokes 0 in
    let z : Call = revokes 1669850299335966720 in
    let τ : Machine = run before (list_of (first 87419 (locks7 ∷ []))) in
    let v : Event = event of_machine before (reset1 87419) in
    let since : List Event = ledger of_machine [] (step before (reset1 87419)) (locks7 ∷ []) in
    Premises before (first 87419 (locks7 ∷ [])) [] r root_name v since
    × ((answer (step τ r) (read 0 0)).reply.refusal ≡ 2)
    × Returned root_name v (ledger of_machine since τ (r ∷ z ∷ []))
    × (Closed of_machine (run (step τ r) (z ∷ [])) root_name → ⊥)
unfolding bytes number direct_number direct_of entry_number entry_of free_number indirect_number indirect_of at size
opens_again = (
  record {
    accepted = computed.other_begins;
    one_reset = (λ g. locks_no_reset g.0, tt);
    locked = rw (computed.other_begun, computed.locked_later) (record { direct = refl; locked = refl; held = refl });
    no_reset = tt;
    none_carries = tt;
    revoked = record { before = tt; revoke = (claim.revokes refl, rw (computed.other_begun, computed.locked_later) revoked-once.accepted) };
    given = earlier (last (rw computed.other_given (Memᴰ.head refl)));
    under = rw (computed.other_begun, computed.locked_later) (record { owner = 0; owns = itself refl; byte = 0; theirs = omega arith; ours = omega arith });
  },
  rw (computed.other_begun, computed.locked_later, revoked-once.leaves) computed.refused_between,
  inl (rw (computed.other_begun, computed.locked_later, revoked-once.leaves, revoked-twice.issued) (Memᴰ.head refl), inl (rw (computed.other_begun, computed.locked_later, revoked-once.leaves) (record { there = λ e. omega arith; other = λ e. omega arith }))),
  λ c. c (read 0 0) (through refl refl) (rw (computed.other_begun, computed.locked_later, revoked-once.leaves, revoked-twice.leaves) computed.opens),
)

-- ---- what changes nothing: a lock by the holder again, and a drop at 1 under a lock

bytes-before : LentBytes before []
unfolding before
bytes-before =
    let b : 9 < 256 = omega arith in
    record { table = bytes-zeros 64; memory = (b, (b, (b, (b, (b, (b, (b, (b, tt)))))))); buffer = tt }

-- what the reset, the derive and the lock left has bytes alone
bytes_left : AllBytes (run before (reset1 1 ∷ derives ∷ locks7 ∷ [])).table
bytes_left =
    let one = bytes-stay before (reset1 1) bytes-before in
    let two = bytes-stay (step before (reset1 1)) derives (record { table = one.table; memory = one.memory; buffer = tt }) in
    (bytes-stay (run before (reset1 1 ∷ derives ∷ [])) locks7 (record { table = two.table; memory = two.memory; buffer = tt })).table

pub locked_again :
    let τ : Machine = run before (reset1 1 ∷ derives ∷ locks7 ∷ []) in
    step τ locks7 ≡ τ
unfolding LockAgain ill_formed walk bytes number direct_number direct_of entry_number entry_of free_number indirect_number indirect_of at size
locked_again = rw (computed.begun, derived-child.leaves, computed.locked) (lock_again after_lock 0 7 [] (rw (computed.begun, derived-child.leaves, computed.locked) at bytes_left) refl refl)

pub dropped-under-lock :
    let τ : Machine = run before (reset1 1 ∷ derives ∷ locks7 ∷ []) in
    (step τ drops ≡ τ) × ((answer τ drops).reply.dropped ≡ 0)
unfolding HeldDrop ill_formed walk bytes number direct_number direct_of entry_number entry_of free_number indirect_number indirect_of at size
dropped-under-lock = rw (computed.begun, derived-child.leaves, computed.locked) (held-drop after_lock (token_for 0 child) [] refl refl)

-- ---- how far a walk and a climb go: the child's line and its drop meet every entry of a table of two

pub all_met :
    let t : List ℕ = (run before (reset1 1 ∷ derives ∷ [])).table in
    Bounded 8 t 1 × (line_meets 8 t 1 ≡ 1 ∷ 0 ∷ []) × (drop_meets t 1 ≡ 1 ∷ 0 ∷ []) × (size t ≡ 2)
unfolding Depth
all_met = rw (computed.begun, derived-child.leaves) (depth 8 after_derive.table 1 (omega (arith, computed.entries)), computed.lined, computed.climbed, computed.entries)

-- ---- a buffer passed on whole: the root of 8 bytes, and a root of one byte

-- as bytes 2 to 4 may be passed on, so may the last one alone
pub last_passed : Accepted (step before (reset1 1)) (derive_call 0 7 1 4 0 [])
unfolding Parts bytes number direct_number direct_of entry_number entry_of free_number indirect_number indirect_of at size
last_passed = rw computed.begun (parts after_reset 0 2 3 4 0 [] derived-child.accepted 7 1 (λ z. omega arith) (omega arith) (λ e. omega (arith, rw computed.room at e)))

pub whole-passed_on : PassedOn (step before (reset1 1)) 0 4 (passes 8)
unfolding FromReset Whole bytes number direct_number direct_of entry_number entry_of free_number indirect_number indirect_of at size
whole-passed_on = rw computed.begun (whole-passed after_reset (rw computed.begun at (from_reset_lem before 0 0 1 [] computed.begins [] tt)) 0 4 0 [] passed_on.accepted)

-- its last byte is read through what was given, and none beyond
pub last_read :
    let τ : Machine = step (step before (reset1 1)) (passes 8) in
    ((answer τ (read_passed 7)).buffer ≡ 9 ∷ []) × ((answer τ (read_passed 8)).reply.refusal ≡ 8)
last_read = rw (computed.begun, passed_on.leaves) (computed.last_byte, computed.beyond)

pub one_byte-passed_on : PassedOn (step single (reset1 1)) 0 4 (passes 1)
unfolding FromReset Whole bytes number direct_number direct_of entry_number entry_of free_number indirect_number indirect_of at size
one_byte-passed_on = rw computed.single_begun (whole-passed after_single (rw computed.single_begun at (from_reset_lem single 0 0 1 [] computed.single_begins [] tt)) 0 4 0 [] computed.single_passes)
