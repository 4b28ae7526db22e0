-- The code's refusals in the machine's terms ("When an answer is an enum, a definition gives this paper's number and values for each of its cases": these
-- are `refusal_number` and `refusal_bad` of machine's `Stops`).
-- Assumes nothing.
use Rattle.std.specs.Prelude.{Result, Ok, Err}
use Rattle.machine.specs.Line as line
use Rattle.machine.specs.Steps.{pass, stop, Verdict}
use Rattle.machine.specs.Stops as stops
use Rattle.checks.specs.declared.refusal.Bad.{Bad}
use Rattle.checks.specs.declared.refusal.Bad.TheVariants.{Ancestor, Named}
use Rattle.checks.specs.declared.refusal.Refusal.{Refusal}
use Rattle.checks.specs.declared.refusal.Refusal.TheVariants.{Bounds, Checksum, Dead, Entry, IllFormed, Kind, Lease, Lock, Nonces, Numbers, Paged, Record, Request, Right, Room, Standing, Window}

abbrev pub bad_as : Bad → line.Bad
bad_as Named = line.itself
bad_as Ancestor = line.ancestor

abbrev pub refusal_as : Refusal → stops.Refusal
refusal_as Request = stops.at_request
refusal_as Entry = stops.at_entry
refusal_as (IllFormed b) = stops.at_form (bad_as b)
refusal_as (Dead b) = stops.at_line (bad_as b)
refusal_as Lock = stops.at_lock
refusal_as Kind = stops.at_kind
refusal_as Right = stops.at_right
refusal_as Bounds = stops.at_bounds
refusal_as Standing = stops.at_standing
refusal_as Numbers = stops.at_numbers
refusal_as Nonces = stops.at_nonces
refusal_as Record = stops.at_record
refusal_as Checksum = stops.at_checksum
refusal_as Room = stops.at_room
refusal_as Window = stops.at_window
refusal_as Lease = stops.at_lease
refusal_as Paged = stops.at_paged

-- the verdict of a refusal
abbrev pub stop_as : Refusal → Verdict
stop_as why = stop (refusal_as why)

-- what checks that give nothing come to
abbrev pub checked_as : Result Unit Refusal → Verdict
checked_as (Err why) = stop_as why
checked_as (Ok z) = pass
