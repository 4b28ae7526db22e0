-- Without leases both exported functions are one.
-- Assumes nothing.
use mathlib.Core.Path.{◌≡◌, refl, sym, ◌∙◌, ap}
use mathlib.Core.Bool.{Bool, true, false, cond}
use mathlib.Core.List.{List, [], ◌∷◌}
use Prim.Native.Nat.{ℕ, zero, suc}
use native.Mathlib.Omega.{arith}
use lib.ListN.{get_or, length}
use Rattle.bits.specs.SipHash.{word}
use Rattle.machine.specs.Operations.{Decision}
use Rattle.machine.specs.Requests.{no_shift, Request, Shift}
use Rattle.machine.specs.ShiftWindows.{accesses, InShifts, Leaseless}
use Rattle.machine.specs.Steps.{answer, buffer_after, finished, memory_after, step}
use Rattle.machine.proofs.ShiftWindows.{as_before}
use Rattle.interface.specs.Exported.{Asked, asked, carried, Exported, exported, known, no_leases, picked, Plain, request_of, requests, served, shift_of, sized, state_of, unknown, with_leases}

-- two things that are asked are the same, but for the shift of an access
data Alike (φ ψ : Shift) : Asked → Asked → Type 0 where
  same : {k : Asked} → Alike φ ψ k k
  shifts : {q r : Request} {k : ℕ} → InShifts q r k φ ψ → Alike φ ψ (known q) (known r)

data AllAlike (φ ψ : Shift) : List Asked → List Asked → Type 0 where
  none : AllAlike φ ψ [] []
  more : {j k : Asked} {js ks : List Asked} → Alike φ ψ j k → AllAlike φ ψ js ks → AllAlike φ ψ (j ∷ js) (k ∷ ks)

at_place : (φ ψ : Shift) {js ks : List Asked} → AllAlike φ ψ js ks → (o : ℕ) → Alike φ ψ (get_or js o unknown) (get_or ks o unknown)
at_place φ ψ none o = same
at_place φ ψ (more a rest) zero = a
at_place φ ψ (more a rest) (suc o) = at_place φ ψ rest o

picked-alike : (o k x u l m p c : ℕ) (φ ψ : Shift) → Alike φ ψ (picked o k x u l m p c φ) (picked o k x u l m p c ψ)
unfolding picked
picked-alike o k x u l m p c φ ψ =
    at_place φ ψ {js = requests k x u l m p c φ} {ks = requests k x u l m p c ψ}
    (more same (more (shifts accesses) (more (shifts accesses) (more (shifts accesses) (more same (more same (more same (more same (more same (more same (more same (more same (more same (more (shifts accesses) (more (shifts accesses) (more same (more same none)))))))))))))))))
    o

-- an access of a controller without shifts
plain_leaseless : {q r : Request} {k : ℕ} {φ : Shift} → InShifts q r k φ no_shift → Leaseless r
plain_leaseless accesses p j ψ accesses = (refl, omega arith)

module _ (s t m b a : List ℕ) where
  -- what a decision leaves, with the last stage
  abbrev left : Decision → Exported
  left blind =
      let d : Decision = finished (state_of s) t m b blind in
      served (record { state = d.state; table = d.table; memory = memory_after d.effect m }) (record { reply = d.reply; buffer = buffer_after d.effect m b })

  carried-alike : (φ : Shift) (j k : Asked) → Alike φ no_shift j k → ((r : Request) → j ≡ known r → Leaseless r) → carried j s t m b a ≡ carried k s t m b a
  unfolding step answer
  carried-alike φ j k same h = refl
  carried-alike φ (known q) (known r) (shifts i) h =
      ap left
      (as_before.decided (length m) (state_of s) t q b (h q refl)
      ∙ as_before.blind (length m) (state_of s) t i b
      ∙ sym (as_before.decided (length m) (state_of s) t r b (plain_leaseless i)))

if_sized : (φ ψ : Shift) (z : Bool) (j k : Asked) → Alike φ ψ j k → Alike φ ψ (cond z j unknown) (cond z k unknown)
if_sized φ ψ true j k a = a
if_sized φ ψ false j k a = same

pub plain : Plain
unfolding Plain exported asked
plain q s t m b a h =
    let φ : Shift = shift_of q (with_leases []) in
    let alike = picked-alike (word q 0) (word q 1) (word q 2) (word q 3) (word q 4) (word q 5) (word q 6) (word q 7) φ no_shift in
    carried-alike s t m b a φ (asked q s a (with_leases [])) (asked q s a no_leases) (if_sized φ no_shift (sized q s a no_leases) (request_of q φ) (request_of q no_shift) alike) h
