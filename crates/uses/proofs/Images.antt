-- Loads and dumps used: the premises of paper 2's claims can be met.
-- Assumes nothing.
use mathlib.Core.Path.{◌≡◌, refl}
use mathlib.Core.List.{[], ◌∷◌}
use native.Mathlib.Omega.{arith}
use lib.ListN.{replicate}
use Rattle.bits.specs.Bytes.{AllBytes, bytes, low_bytes, low_number, number}
use Rattle.bits.specs.SipHash.{absorb, add64, compress, finish, padded, rotl, siphash, sip_round, word}
use Rattle.bits.proofs.ByteLists.{bytes-zeros}
use Rattle.hexfile.specs.Written.{capital, data_records, line_of, written}
use Rattle.layout.specs.Entry.{direct_number, direct_of, entry_number, entry_of, free_number, indirect_number, indirect_of}
use Rattle.layout.specs.Form.{ill_formed}
use Rattle.layout.specs.Tag.{tag_of}
use Rattle.leases.specs.Lease.{all_sound, first_leases, is_open, leases_of}
use Rattle.tokens.specs.Permissions.{within}
use Rattle.machine.specs.Issuing.{pass_over, seek}
use Rattle.machine.specs.Line.{walk}
use Rattle.machine.specs.LoadImages.{dump_call, Dumped, Dumps, load_call, Loaded, Loads, MayDump, MayLoad, Restores, segment_of}
use Rattle.machine.specs.MachineSystem.{Accepted, through}
use Rattle.machine.specs.Parts.{at, cleared, put, size}
use Rattle.machine.specs.Requests.{no_shift}
use Rattle.machine.specs.Steps.{answer, decide, Machine, run, step}
use Rattle.machine.specs.Writes.{token_for}
use Rattle.machine.proofs.Lent.{bytes-stay}
use Rattle.machine.proofs.LoadImages.{as_accesses, dumps_so, loads_so, restores}
use Rattle.uses.specs.Images.{dumps, from, loads, numbered, to}
use Rattle.uses.specs.Uses.{before, child, derives, locks7, read, reset1, revokes}
use Rattle.uses.proofs.Uses.{child-closed}

bytes_from : AllBytes from.memory
unfolding numbered
bytes_from =
    (bytes-stay numbered (reset1 1)
    (record { table = bytes-zeros 64; memory = (omega arith, (omega arith, (omega arith, (omega arith, (omega arith, (omega arith, (omega arith, (omega arith, tt)))))))); buffer = tt })
    ).memory

-- the dump's text, and what the load of it leaves in a segment that had other bytes
pub dumped_eight : Dumped from 0 (dumps 0)
unfolding Dumps numbered bytes number low_bytes low_number direct_number direct_of entry_number entry_of free_number indirect_number indirect_of ill_formed all_sound first_leases is_open leases_of within absorb add64 compress finish padded rotl siphash sip_round word tag_of pass_over seek walk at cleared put size decide step answer capital data_records line_of written
dumped_eight = dumps_so from 0 0 no_shift (replicate 56 0) refl

pub restored_eight : Accepted to loads × (segment_of (step to loads) 0 ≡ 1 ∷ 2 ∷ 3 ∷ 4 ∷ 5 ∷ 6 ∷ 7 ∷ 8 ∷ [])
unfolding Restores before numbered bytes number low_bytes low_number direct_number direct_of entry_number entry_of free_number indirect_number indirect_of ill_formed all_sound first_leases is_open leases_of within absorb add64 compress finish padded rotl siphash sip_round word tag_of pass_over seek walk at cleared put size decide step answer capital data_records line_of written
restored_eight = restores from 0 0 no_shift (replicate 56 0) bytes_from refl to 0 0 no_shift refl refl refl

pub loaded_eight : Loaded to 0 loads
unfolding Loads
loaded_eight = loads_so to 0 0 no_shift loads.buffer restored_eight.0

-- who may load may write, and who may dump may read
pub loads_as_writes : MayLoad to 0 0 no_shift loads.buffer
loads_as_writes = as_accesses.loads to 0 0 no_shift loads.buffer restored_eight.0

pub dumps_as_reads : MayDump from 0 0 no_shift (replicate 56 0)
unfolding numbered bytes number low_bytes low_number direct_number direct_of entry_number entry_of free_number indirect_number indirect_of ill_formed all_sound first_leases is_open leases_of within absorb add64 compress finish padded rotl siphash sip_round word tag_of pass_over seek walk at cleared put size decide step answer capital data_records line_of written
dumps_as_reads = as_accesses.dumps from 0 0 no_shift (replicate 56 0) refl

-- the child that the revoke closed loads and dumps nothing
pub child-shut :
    let σ : Machine = run before (reset1 1 ∷ derives ∷ reset1 0 ∷ locks7 ∷ read 0 8 ∷ revokes 0 ∷ []) in
    (Accepted σ (load_call (token_for 0 child) 0 no_shift loads.buffer) → ⊥) × (Accepted σ (dump_call (token_for 0 child) 0 no_shift (replicate 56 0)) → ⊥)
child-shut = (child-closed (load_call (token_for 0 child) 0 no_shift loads.buffer) (through refl refl), child-closed (dump_call (token_for 0 child) 0 no_shift (replicate 56 0)) (through refl refl))
