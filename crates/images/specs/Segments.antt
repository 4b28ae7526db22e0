-- What the checks of a load and of a dump come to.
-- Assumes nothing.
use Rattle.std.specs.Prelude.{◌≡◌, true, Result, Ok, Err, List, ℕ, ◌+◌, ◌*◌, ◌≤◌, length}
use Rattle.hexfile.specs.Text.{farthest}
use Rattle.hexread.specs.declared.record.Fault.{Fault}
use Rattle.hexread.specs.declared.record.Fault.TheVariants.{Malformed, WrongSum}
use Rattle.layout.specs.declared.entry.Entry.{Entry}
use Rattle.checks.specs.Holds.{request_holds}
use Rattle.checks.specs.Refusals.{stop_as}
use Rattle.checks.specs.Shifts.{judged_for}
use Rattle.checks.specs.declared.refusal.Refusal.{Refusal}
use Rattle.checks.specs.declared.refusal.Refusal.TheVariants.{Checksum, Record}
use Rattle.leases.specs.declared.lease.Window.{Window}
use Rattle.machine.specs.Images.{pieces_of}
use Rattle.machine.specs.Operations.{named_entry, number_of}
use Rattle.machine.specs.Parts.{State}
use Rattle.machine.specs.Requests.{dump, load, Shift}
use Rattle.machine.specs.Steps.{pass, Verdict, verdict}
use Rattle.machine.specs.Stops.{places, text_read}
use Rattle.rulings.specs.Rulings.{filling_so, verdict_on}
use Rattle.rulings.specs.declared.reply.Granted.{Granted}
use Rattle.images.specs.declared.segment.Segment.{Segment}

-- the checks came to the verdict v; a request that passes is of the segment of e
abbrev pub Lies : Result Segment Refusal → Verdict → Entry → Type 0
Lies (Err why) v e = v ≡ stop_as why
Lies (Ok g) v e = (v ≡ pass) × ((g.base ≡ e.base) × (g.length ≡ e.length))

-- a token that reaches an owner names an entry of the table
abbrev pub There : Result ℕ Refusal → List ℕ → (token : ℕ) → Type 0
There (Err why) t k = Unit
There (Ok o) t k = 32 * number_of k + 32 ≤ length t

-- places 7 and 8 of a load whose data end at so many bytes, whatever else it carries
abbrev pub LoadRest : Result Segment Refusal → List ℕ → (token end : ℕ) → Type 0
LoadRest r t k end =
    (m u : ℕ) (s : State) (φ : Shift) (b : List ℕ) → farthest (pieces_of b) ≡ end → Lies r (verdict (places m s t (load k u φ) b).rest) (named_entry t k)

-- all places but 1, 12 and 13, of one whose text reads well, where the leases come to w
abbrev pub LoadToken : Result Segment Refusal → Window → ℕ → List ℕ → (token task end : ℕ) → Type 0
LoadToken r w m t k u end =
    (s : State) (φ : Shift) (b : List ℕ) → farthest (pieces_of b) ≡ end → verdict (text_read b) ≡ pass → w ≡ judged_for φ k → request_holds m s t (load k u φ) b ≡ true
    → Lies r (verdict_on m s t (load k u φ) b) (named_entry t k)

-- place 7 of a dump, and all but 1 and 14, where the leases come to w
abbrev pub DumpRest : Result Segment Refusal → List ℕ → (token : ℕ) → Type 0
DumpRest r t k = (m u : ℕ) (s : State) (φ : Shift) (b : List ℕ) → Lies r (verdict (places m s t (dump k u φ) b).rest) (named_entry t k)

abbrev pub DumpToken : Result Segment Refusal → Window → ℕ → List ℕ → (token task : ℕ) → Type 0
DumpToken r w m t k u =
    (s : State) (φ : Shift) (b : List ℕ) → w ≡ judged_for φ k → request_holds m s t (dump k u φ) b ≡ true → Lies r (verdict_on m s t (dump k u φ) b) (named_entry t k)

-- what is wrong with a text, as a refusal
abbrev pub fault_as : Fault → Refusal
fault_as Malformed = Record
fault_as WrongSum = Checksum

-- what is handed back of what it came to: how many bytes the answer has at the front of the buffer
abbrev pub telling : Result ℕ Refusal → Result Granted Refusal
telling (Err why) = Err why
telling (Ok n) = Ok (filling_so n)
