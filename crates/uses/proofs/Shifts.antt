-- The claims of shift windows used: accesses that are let through, and some that are not.
-- Assumes nothing.
use mathlib.Core.Path.{◌≡◌, refl}
use mathlib.Core.List.{[], ◌∷◌, map}
use native.Mathlib.Omega.{arith}
use lib.ListN.{length}
use Rattle.bits.specs.Bytes.{bytes, low_bytes, low_number, number}
use Rattle.layout.specs.Entry.{direct_number, direct_of, entry_number, entry_of, free_number, indirect_number, indirect_of}
use Rattle.layout.specs.Form.{ill_formed}
use Rattle.leases.specs.Lease.{all_sound, covers, first_leases, is_open, lease_at, leases_of}
use Rattle.tokens.specs.Permissions.{within}
use Rattle.machine.specs.Line.{walk}
use Rattle.machine.specs.Parts.{at, cleared, put, size}
use Rattle.machine.specs.Requests.{moving, no_shift, reading, Shift}
use Rattle.machine.specs.ShiftWindows as claim
use Rattle.machine.specs.ShiftWindows.{accesses, bringing, Shut, Unsound, Within}
use Rattle.machine.specs.Steps.{answer, decide, decision, Machine, step}
use Rattle.machine.proofs.ShiftWindows.{as_before, windows}
use Rattle.uses.specs.Shifts.{during, leases, reads, unsound}
use Rattle.uses.specs.Uses.{before, reset1}

abbrev σ : Machine
σ = step before (reset1 1)

-- in the window it is granted, so its shift is what the paper asks, and it is decided as without shifts
pub let_through : Within (during 8 leases) 0
unfolding before bytes number low_bytes low_number direct_number direct_of entry_number entry_of free_number indirect_number indirect_of ill_formed all_sound covers first_leases is_open lease_at leases_of within walk at cleared put size decide step answer
let_through = windows.granted σ {q = reads (during 8 leases)} {r = reads no_shift} (accesses {w = moving reading} {k = 0} {u = 0} {φ = during 8 leases} {ψ = no_shift}) (0 ∷ []) refl

pub let_in : decision σ (bringing (reads (during 8 leases)) (0 ∷ [])) ≡ decision σ (bringing (reads no_shift) (0 ∷ []))
let_in = windows.within σ {q = reads (during 8 leases)} {r = reads no_shift} (accesses {w = moving reading} {k = 0} {u = 0} {φ = during 8 leases} {ψ = no_shift}) (0 ∷ []) let_through

-- before it, at its end, with another's lease unsound, and at a minute beyond the week it is not
pub turned_away_lem :
    map (λ (φ : Shift). (answer σ (bringing (reads φ) (0 ∷ []))).reply.refusal) (during 0 leases ∷ during 9 leases ∷ during 8 unsound ∷ during 10080 [] ∷ during 1 (0 ∷ []) ∷ []) ≡ 15 ∷ 15 ∷ 16 ∷ 1 ∷ 1 ∷ []
unfolding before bytes number low_bytes low_number direct_number direct_of entry_number entry_of free_number indirect_number indirect_of ill_formed all_sound covers first_leases is_open lease_at leases_of within walk at cleared put size decide step answer
turned_away_lem = refl

-- and each of the two numbers tells its cause
pub before-opening : Shut (during 0 leases) 0
unfolding before bytes number low_bytes low_number direct_number direct_of entry_number entry_of free_number indirect_number indirect_of ill_formed all_sound covers first_leases is_open lease_at leases_of within walk at cleared put size decide step answer
before-opening = windows.closed σ {q = reads (during 0 leases)} {r = reads no_shift} (accesses {w = moving reading} {k = 0} {u = 0} {φ = during 0 leases} {ψ = no_shift}) (0 ∷ []) refl

pub equal_minutes : Unsound (during 8 unsound)
unfolding before bytes number low_bytes low_number direct_number direct_of entry_number entry_of free_number indirect_number indirect_of ill_formed all_sound covers first_leases is_open lease_at leases_of within walk at cleared put size decide step answer
equal_minutes = windows.unsound σ {q = reads (during 8 unsound)} {r = reads no_shift} (accesses {w = moving reading} {k = 0} {u = 0} {φ = during 8 unsound} {ψ = no_shift}) (0 ∷ []) refl

-- without leases it is decided as before, at the week's last minute too
pub last_minute_lem : decide (length σ.memory) σ.state σ.table (reads (during 10079 [])) (0 ∷ []) ≡ claim.before (length σ.memory) σ.state σ.table (reads (during 10079 [])) (0 ∷ [])
last_minute_lem = as_before.decided (length σ.memory) σ.state σ.table (reads (during 10079 [])) (0 ∷ []) none
  where
    none : claim.Leaseless (reads (during 10079 []))
    none r k φ (accesses {w = w} {k = j} {u = u} {φ = ψ} {ψ = ξ}) = (refl, omega arith)
