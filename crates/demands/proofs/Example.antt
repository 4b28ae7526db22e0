-- Demand 3 of the exported function used, with the real tags: its premises can be met.
-- Assumes nothing.
use mathlib.Core.Path.{◌≡◌, refl, sym, ap, subst}
use mathlib.Core.Bool.{Bool, true, false, false≢true, cond}
use mathlib.Core.Logic.{◌⊎◌, inl, inr}
use mathlib.Core.List.Memᴰ
use mathlib.Core.List.{List, [], ◌∷◌, Memᴰ}
use Prim.Native.Nat.{ℕ}
use native.Mathlib.Omega.{arith}
use lib.Dec.{ltb}
use borrow.Author.Tests.{ltb-true}
use Rattle.bits.specs.Bytes.{AllBytes, bytes, low_bytes, low_number, number}
use Rattle.bits.specs.SipHash.{absorb, add64, compress, finish, padded, rotl, siphash, sip_round, word}
use Rattle.layout.specs.Entry.{direct_number, direct_of, entry_number, entry_of, free_number, indirect_number, indirect_of}
use Rattle.layout.specs.Form.{ill_formed}
use Rattle.layout.specs.Tag.{tag_of}
use Rattle.leases.specs.Lease.{all_sound, covers, first_leases, is_open, lease_at, leases_of}
use Rattle.tokens.specs.Permissions.{within}
use Rattle.machine.specs.Demand3 as claims
use Rattle.machine.specs.Demand3.{Alike, Closed}
use Rattle.machine.specs.Issuing.{pass_over, seek}
use Rattle.machine.specs.Ledger.{earlier, Event, last}
use Rattle.machine.specs.Line.{walk}
use Rattle.machine.specs.MachineSystem as claim
use Rattle.machine.specs.MachineSystem.{IsReset}
use Rattle.machine.specs.Parts.{at, cleared, put, size}
use Rattle.machine.specs.Requests.{access, derive, lock, reading, Request, reset, revoke}
use Rattle.machine.specs.Segments.{above, itself}
use Rattle.machine.specs.ShiftWindows.{accesses, Leaseless}
use Rattle.machine.specs.Steps.{answer, decide, step}
use Rattle.machine.specs.Writes.{Name}
use Rattle.bits.proofs.ByteLists.{bytes-zeros}
use Rattle.demands.specs.Demands.{after, Asks, asks, Brought, Demand3, next, of_calls, Standing}
use Rattle.demands.specs.Example.{before, broken, ByEither, child, derived, derives, First, first, last_minute, Lending, list_of, locks7, Premises, reads8, resets1, revokes, since_derived}
use Rattle.interface.proofs.PlainLaws.{plain}
use Rattle.interface.specs.Exported.{Asked, asked, exported, known, picked, Plain, told, unknown, word_bytes}
use Rattle.machine.proofs.LedgerLaws.{issued_again}
use Rattle.demands.proofs.Demands.{demand3}

-- ---- what is needed to see it

-- bytes, by a test
all_bytes : List ℕ → Bool
all_bytes [] = true
all_bytes (x ∷ xs) = cond (ltb x 256) (all_bytes xs) false

bytes_by : (xs : List ℕ) → all_bytes xs ≡ true → AllBytes xs
unfolding all_bytes
bytes_by [] h = tt
bytes_by (x ∷ xs) h = go (ltb x 256) refl h (bytes_by xs)
  where
    go : (b : Bool) → ltb x 256 ≡ b → cond b (all_bytes xs) false ≡ true → (all_bytes xs ≡ true → AllBytes xs) → AllBytes (x ∷ xs)
    go true l h f = (ltb-true x 256 l, f h)
    go false l h f = absurd (false≢true h)

-- what is asked is such a request
abbrev Such : (Request → Type 0) → Asked → Type 0
Such P (known r) = P r
Such P unknown = ⊥

such : (P : Request → Type 0) (κ : Standing) (q : Brought) → Asks P κ q → Such P (asks κ q)
such P κ q a = subst (Such P) (sym a.asked) a.such

-- if a request is asked, it is such a one
abbrev Each : (Request → Type 0) → Asked → Type 0
Each P (known r) = P r
Each P unknown = Unit {0}

each : (P : Request → Type 0) (k : Asked) → Each P k → (r : Request) → k ≡ known r → P r
each P k h r e = subst (Each P) e h

-- ---- the example

-- with a broken call in the first list, and a read by 8 before the revoke, which is refused; the revoke gives the root alone
pub premises : Premises before first (reads8 ∷ []) revokes child derived (since_derived (broken ∷ locks7 ∷ reads8 ∷ []))
unfolding before bytes number low_bytes low_number direct_number direct_of entry_number entry_of free_number indirect_number indirect_of ill_formed all_sound covers first_leases is_open lease_at leases_of within absorb add64 compress finish padded rotl siphash sip_round word tag_of pass_over seek walk at cleared put size decide step answer asked exported picked told word_bytes all_bytes
premises = record {
  bytes = bytes-zeros 40;
  granted = (record { request = reset 0 0 1; asked = refl; such = claim.resets }, refl);
  first_bytes = (bytes_by resets1.request refl, (bytes_by derives.request refl, (bytes_by broken.request refl, (bytes_by locks7.request refl, tt))));
  one_reset = (λ g. no_derive (such _ _ _ g.0), (λ g. such _ _ _ g.0, (λ g. no_lock (such _ _ _ g.0), tt)));
  locked = record { direct = refl; locked = refl; held = refl };
  more_bytes = (bytes_by reads8.request refl, tt);
  no_reset = (λ a. no_read (such _ _ _ a), tt);
  none_carries = (λ a. other-task (such _ _ _ a), tt);
  revoked = record { before = (λ g. omega (arith, g.1), tt); revoke = (record { request = revoke 0 0; asked = refl; such = claim.revokes refl }, refl) };
  revoke_bytes = (bytes_by revokes.request refl, tt);
  given = earlier (earlier (earlier (last (Memᴰ.head refl))));
  under = record { owner = 0; owns = above {n = 1} {m = 0} (record { indirect = refl; holds = refl }) (itself refl); byte = 2; theirs = omega arith; ours = omega arith };
  once = λ h. other (Memᴰ.cases_cons (issued_again child derived (since_derived (broken ∷ locks7 ∷ reads8 ∷ revokes ∷ [])) h));
}
  where
    no_derive : IsReset (derive 0 2 3 4 0) → ⊥
    no_derive = elim [ ]

    no_lock : IsReset (lock 0 7) → ⊥
    no_lock = elim [ ]

    no_read : IsReset (access reading 0 8 (record { minute = 5; leases = 0 ∷ 0 ∷ 0 ∷ 0 ∷ 1 ∷ 0 ∷ 9 ∷ 0 ∷ [] })) → ⊥
    no_read = elim [ ]

    other-task : ◌≡◌ {A = ℕ} 8 7 → ⊥
    other-task e = omega arith

    other : (child ≡ record { number = 0; tag = 20639 }) ⊎ Memᴰ child [] → ⊥
    other (inl e) = omega (arith, ap (λ (x : Name). x.number) e)
    other (inr m) = Memᴰ.not-nil m

-- and so the token that the derive gave is closed by the revoke
closed_by : (κ : Standing) (f : First) (qs : List Brought) (r : Brought) (k : Name) (v : Event) (since : List Event) → Premises κ f qs r k v since
    → Closed of_calls (next (after (after κ (list_of f)) qs) r) k
unfolding Demand3 claims.Demand3
closed_by κ f qs r k v since p =
    let μ : Standing = after κ (list_of f) in
    let same : Alike of_calls (at μ.table f.entry) μ μ = record { other = refl; table = refl; memory = record { long = refl; outside = λ x o. refl } } in
    (demand3 κ p.bytes f.reset p.granted f.follows p.first_bytes p.one_reset f.entry f.task p.locked μ μ same same qs p.more_bytes p.no_reset p.none_carries
    ).closed r p.revoked [] p.revoke_bytes tt k v since p.given p.under p.once

pub child-closed : Closed of_calls (after before (resets1 ∷ derives ∷ broken ∷ locks7 ∷ reads8 ∷ revokes ∷ [])) child
child-closed = closed_by before first (reads8 ∷ []) revokes child derived (since_derived (broken ∷ locks7 ∷ reads8 ∷ [])) premises

-- calls with leases
pub lends : Lending
unfolding Lending before bytes number low_bytes low_number direct_number direct_of entry_number entry_of free_number indirect_number indirect_of ill_formed all_sound covers first_leases is_open lease_at leases_of within absorb add64 compress finish padded rotl siphash sip_round word tag_of pass_over seek walk at cleared put size decide step answer asked exported picked told word_bytes all_bytes
lends = refl

pub by_either : ByEither
unfolding Plain word low_bytes low_number asked picked word_bytes before step decide exported bytes number
by_either =
    let κ : Standing = next before resets1 in
    plain last_minute.request κ.state κ.table κ.memory last_minute.buffer last_minute.answer (each Leaseless (asks κ last_minute) in_week)
  where
    in_week : Leaseless (access reading 0 20 (record { minute = 10079; leases = [] }))
    in_week r k φ accesses = (refl, omega arith)
