-- The free total used: the premises of paper 3's claims can be met, and a wrong total stops.
-- Assumes nothing.
use mathlib.Core.Path.{◌≡◌, refl}
use mathlib.Core.List.{List, [], ◌∷◌}
use Prim.Native.Nat.{ℕ, ◌≤◌}
use native.Mathlib.Omega.{arith}
use lib.ListN.{replicate}
use Rattle.bits.specs.Bytes.{bytes, low_bytes, low_number, number}
use Rattle.bits.specs.SipHash.{absorb, add64, compress, finish, padded, rotl, siphash, sip_round, word}
use Rattle.layout.specs.Entry.{direct_number, direct_of, entry_number, entry_of, free, freed, free_number, indirect, indirect_number, indirect_of, recounted}
use Rattle.layout.specs.declared.entry.Entry.{Entry}
use Rattle.layout.specs.Form.{ill_formed}
use Rattle.layout.specs.Tag.{tag_of}
use Rattle.leases.specs.Lease.{all_sound, first_leases, is_open, leases_of}
use Rattle.tokens.specs.Permissions.{within}
use Rattle.machine.specs.FreeTotal.{Beside, free_in_all, handed_total, InRange, Kept, Sides, Unseen}
use Rattle.machine.specs.FromReset.{added_below}
use Rattle.machine.specs.Issuing.{pass_over, seek}
use Rattle.machine.specs.Line.{walk}
use Rattle.machine.specs.MachineSystem.{Accepted}
use Rattle.machine.specs.Operations.{climb, nothing}
use Rattle.machine.specs.Parts.{at, cleared, most_free, put, root, size}
use Rattle.machine.specs.Steps.{answer, answers, decide, decision, Machine, run, step}
use Rattle.machine.specs.Writes.{Name, token_for}
use Rattle.recorded.specs.Recorded.{table_of}
use Rattle.machine.proofs.FreeTotal.{in_range, kept, sides, unseen}
use Rattle.uses.specs.Totals.{three, too_high, too_low, totals}
use Rattle.uses.specs.Uses.{child, derives, drops, reset1, root_name}
use Rattle.uses.proofs.Granted.{decides, Grants, grants, holding}

-- a count: number 0 is left out, and type 0 is free whatever its other bytes hold
pub two_free : free_in_all (table_of (0 ∷ 1 ∷ 0x200000010000000100000000000000000000000000000000003a70c800000009 ∷ 0 ∷ [])) ≡ 2
unfolding added_below bytes number direct_of entry_of indirect_of at size
two_free = refl

-- the machines that the lists pass through, over three entries: after the reset, one derive, a second, and the drop of the first; with the right total, or
-- another
abbrev child_entry : Entry
child_entry = indirect 2 3 (token_for 1 root_name) 4 child.tag 1

abbrev second : Name
second = record { number = 2; tag = 14552 }

abbrev second_entry : Entry
second_entry = indirect 2 3 (token_for 1 root_name) 4 second.tag 2

abbrev nines : List ℕ
nines = replicate 8 9

abbrev fresh : (total : ℕ) → Machine
fresh k = holding 0 1 k (root 8 ∷ free ∷ free ∷ []) nines

abbrev one : (total : ℕ) → Machine
one k = holding 1 2 k (recounted (root 8) 1 ∷ child_entry ∷ free ∷ []) nines

abbrev both : (total : ℕ) → Machine
both k = holding 2 3 k (recounted (root 8) 2 ∷ child_entry ∷ second_entry ∷ []) nines

abbrev one_dropped : (total : ℕ) → Machine
one_dropped k = holding 1 2 k (root 8 ∷ freed child.tag ∷ free ∷ []) nines

abbrev first_dropped : (total : ℕ) → Machine
first_dropped k = holding 2 3 k (recounted (root 8) 1 ∷ freed child.tag ∷ second_entry ∷ []) nines

record Computed : Type 0 where
  begins : Accepted three (reset1 1)
  begun : step three (reset1 1) ≡ fresh 2
  derives1 : decision (fresh 2) derives ≡ decides (child ∷ []) (one 1) nothing
  derives2 : decision (one 1) derives ≡ decides (second ∷ []) (both 0) nothing
  drops1 : step (both 0) drops ≡ first_dropped 1
  low_derives : decision (fresh 0) derives ≡ decides (child ∷ []) (one 0) nothing
  low_drops : step (one 0) drops ≡ one_dropped 1
  high_drops : step (both 2) drops ≡ first_dropped 2
  none : free_in_all (both 2).table ≡ 0
  entries : size (both 2).table ≡ 3
  first_entries : size (fresh 2).table ≡ 3

computed : Computed
unfolding added_below three bytes number low_bytes low_number direct_number direct_of entry_number entry_of free_number indirect_number indirect_of ill_formed all_sound first_leases is_open leases_of within absorb add64 compress finish padded rotl siphash sip_round word tag_of pass_over seek walk climb at cleared put size decide step answer
computed = record { begins = refl; begun = refl; derives1 = refl; derives2 = refl; drops1 = refl; low_derives = refl; low_drops = refl; high_drops = refl; none = refl; entries = refl; first_entries = refl }

first_derived : Grants (fresh 2) derives (child ∷ []) (one 1)
first_derived = grants nothing computed.derives1 refl

both-derived : Grants (one 1) derives (second ∷ []) (both 0)
both-derived = grants nothing computed.derives2 refl

low_derived : Grants (fresh 0) derives (child ∷ []) (one 0)
low_derived = grants nothing computed.low_derives refl

-- two derives and a drop; and from wrong totals: 0 stops at 0 and is too low still, 2 stops at the top and is too high still
pub from_reset_lem : totals three (reset1 1 ∷ derives ∷ derives ∷ drops ∷ []) ≡ 0 ∷ 2 ∷ 1 ∷ 0 ∷ 1 ∷ []
unfolding three
from_reset_lem = rw (computed.begun, first_derived.leaves, both-derived.leaves, computed.drops1)

pub from_low : totals too_low (derives ∷ drops ∷ []) ≡ 0 ∷ 0 ∷ 1 ∷ []
from_low = rw (computed.begun, low_derived.leaves, computed.low_drops)

pub from_high : totals too_high (drops ∷ []) ≡ 2 ∷ 2 ∷ []
from_high = rw (computed.begun, first_derived.leaves, both-derived.leaves, computed.high_drops)

-- by the claims: a right total is the count, two wrong ones keep their sides and the range, and the answers are those of the right one
pub none_left : let τ : Machine = run three (reset1 1 ∷ derives ∷ derives ∷ []) in τ.state.total ≡ free_in_all τ.table
unfolding Kept
none_left = kept three 0 0 1 [] computed.begins (derives ∷ derives ∷ [])

pub stays_low : Beside too_low (run too_low (derives ∷ drops ∷ []))
unfolding Sides
stays_low = sides three 0 0 1 [] computed.begins [] (derives ∷ drops ∷ []) 0

pub stays_high : Beside too_high (run too_high (drops ∷ []))
unfolding Sides
stays_high = sides three 0 0 1 [] computed.begins (derives ∷ derives ∷ []) (drops ∷ []) 2

pub too_high_lem : free_in_all too_high.table ≤ too_high.state.total
too_high_lem = rw (computed.begun, first_derived.leaves, both-derived.leaves, computed.none) (omega arith)

pub in_the_range : let τ : Machine = run too_high (drops ∷ []) in τ.state.total ≤ most_free τ.table
unfolding InRange
in_the_range = in_range too_high (drops ∷ []) (rw (computed.begun, first_derived.leaves, both-derived.leaves, computed.entries) (omega arith))

pub answered-alike : let σ : Machine = run three (reset1 1 ∷ []) in answers (handed_total σ 0) (derives ∷ drops ∷ []) ≡ answers σ (derives ∷ drops ∷ [])
unfolding Unseen
answered-alike = (unseen (run three (reset1 1 ∷ [])) 0 (rw (computed.begun, computed.first_entries) (omega arith)) (omega arith) (derives ∷ drops ∷ [])).0
