-- The first cases of 01's session ("Sessions to hold against"): 65,536 bytes, 4 entries, key 0, first nonce 1, task 0 unless named. They are decided without a
-- look at a byte of memory, so that they are had from its length.
-- Assumes nothing.
use Rattle.std.specs.Prelude.{◌≡◌, List, [], ◌∷◌, ◌++◌, map, ℕ, get_or, length, replicate, take}
use Rattle.layout.specs.Examples.{packed_tokens, printed_root, Row}
use Rattle.tokens.specs.Permissions.{R}
use Rattle.tokens.specs.Token.{token}
use Rattle.machine.specs.LastOfAll.{NoneMakes}
use Rattle.machine.specs.Operations.{Decision}
use Rattle.machine.specs.Parts.{State}
use Rattle.machine.specs.Requests.{access, Call, create, derive, lock, no_shift, reading, Request, reset}
use Rattle.machine.specs.Steps.{Answer, answers, decide, Machine, run}

abbrev pub bytes65536 : ℕ
bytes65536 = 65536

-- the decisions on a list of calls, one after the other, over a memory of m bytes
abbrev pub decisions : ℕ → State → List ℕ → List Call → List Decision
decisions m s t [] = []
decisions m s t (q ∷ qs) =
    let d = decide m s t q.request q.buffer in
    d ∷ decisions m d.state d.table qs

abbrev pub refusals : List Decision → List ℕ
refusals [] = []
refusals (d ∷ ds) = d.reply.refusal ∷ refusals ds

-- the table that the last of them leaves, t if there is none
abbrev pub leaves : (t : List ℕ) → List Decision → List ℕ
leaves t [] = t
leaves t (d ∷ ds) = leaves d.table ds

-- they are those of the machine that runs the list, where no request makes what 14 could stop: its replies, and its table at the end
unfoldable pub Followed : Type 0
Followed =
    (σ : Machine) (qs : List Call) → NoneMakes qs → let ds = decisions (length σ.memory) σ.state σ.table qs in
    (map (λ (a : Answer). a.reply) (answers σ qs) ≡ map (λ (d : Decision). d.reply) ds) × ((run σ qs).table ≡ leaves σ.table ds)

-- the token of number 0 and tag 0 with an offset, in encoding 0
abbrev zero_at : ℕ → ℕ
zero_at o = token 0 (record { tag = 0; number = 0; offset = o })

abbrev read : (length offset task : ℕ) → Call
read l o u = record { request = access reading (zero_at o) u no_shift; buffer = replicate l 0 }

abbrev pub plain : Request → Call
plain q = record { request = q; buffer = [] }

-- reset, then cases 1 to 8
abbrev pub first_cases : List Call
first_cases =
    plain (reset 0 0 1)
    ∷ read 12 4096 0
    ∷ read 1 65535 0
    ∷ read 1 65536 0
    ∷ read 12 65525 0
    ∷ plain (derive (zero_at 0) 0 65535 R 0)
    ∷ plain (derive (zero_at 0) 0 65536 R 0)
    ∷ plain (create (zero_at 0) 0 4096 0 7 0)
    ∷ plain (lock (zero_at 0) 0)
    ∷ []

-- what stands before the reset does not matter
abbrev any : State
any = record { key0 = 0; key1 = 0; last = 0; next = 0; total = 0 }

-- the rows of 01's checklist: "The four packed tokens, the root entry and cases 3, 4, 6, 8 are proved as one table by one proposition." Of 02, paper 1:
-- "Case 6 of the session then prints 0".
abbrev case_row : ℕ → ℕ → Row
case_row case printed = record { given = get_or (refusals (decisions bytes65536 any (replicate 128 0) first_cases)) case 99 ∷ []; printed = printed ∷ [] }

-- the root entry is what the reset leaves at the table's start
abbrev root_row : Row
root_row = record { given = take 32 (decide bytes65536 any (replicate 128 0) (reset 0 0 1) []).table; printed = printed_root }

abbrev pub examples : List Row
examples = packed_tokens ++ (root_row ∷ case_row 3 8 ∷ case_row 4 8 ∷ case_row 6 0 ∷ case_row 8 1 ∷ [])
