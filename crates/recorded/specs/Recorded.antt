-- Recorded sessions: what a session is, and the claim that the machine serves it as it was recorded (`Recordings` has them).
-- Assumes nothing.
use Rattle.std.specs.Prelude.{◌≡◌, List, [], ◌∷◌, ◌++◌, map, ℕ, replicate}
use Rattle.bits.specs.Bytes.{bytes}
use Rattle.layout.specs.Examples as printed
use Rattle.machine.specs.Operations.{Decision, Effect, fill_from, nothing}
use Rattle.machine.specs.Parts.{State}
use Rattle.machine.specs.Requests.{Call, Request, Shift}
use Rattle.recorded.specs.Session.{leaves}
use Rattle.machine.specs.Steps.{Answer, answers, decide, decision, Machine, memory_after, run}

-- how calls and states are written out
abbrev pub over : (buffer : List ℕ) → Request → Call
over b q = record { request = q; buffer = b }

abbrev pub during : (minute : ℕ) → (leases : List ℕ) → Shift
during i ls = record { minute = i; leases = ls }

abbrev pub zeros : ℕ → List ℕ
zeros n = replicate n 0

abbrev pub known : (key0 key1 last next total : ℕ) → State
known a b l ν k = record { key0 = a; key1 = b; last = l; next = ν; total = k }

-- what a request comes to: its answer but for the buffer, the three words of the state that move, and its effect
pub record Told : Type 0 where
  pub refusal : ℕ
  pub bad : ℕ
  pub tokens : List ℕ
  pub dropped : ℕ
  pub length : ℕ
  pub last : ℕ
  pub next : ℕ
  pub total : ℕ
  pub effect : Effect

pub record Row : Type 0 where
  pub call : Call
  pub told : Told

-- a row of a granted request, and of a refused one
abbrev pub grants : Call → (tokens : List ℕ) (dropped last next total : ℕ) → Effect → Row
grants q ks d l ν k f = record { call = q; told = record { refusal = 0; bad = 0; tokens = ks; dropped = d; length = 0; last = l; next = ν; total = k; effect = f } }

-- what a granted paging out does: a range of memory goes to the buffer, and becomes zeros
abbrev pub takes : (start length : ℕ) → Effect
takes a n = record { stores = record { start = a; bytes = zeros n } ∷ []; fill = fill_from a n }

-- of a granted dump, by its text's length
abbrev pub dumps : Call → (length last next total : ℕ) → Effect → Row
dumps q n l ν k f = record { call = q; told = record { refusal = 0; bad = 0; tokens = []; dropped = 0; length = n; last = l; next = ν; total = k; effect = f } }

abbrev pub refuses : Call → (refusal bad last next total : ℕ) → Row
refuses q r b l ν k = record { call = q; told = record { refusal = r; bad = b; tokens = []; dropped = 0; length = 0; last = l; next = ν; total = k; effect = nothing } }

-- A session over a memory of so many bytes: state and table at its start, its rows, and the table that it leaves. An entry of a table is one number of 32
-- bytes, "Byte 0 holds the top bits".
pub record Session : Type 0 where
  pub memory : ℕ
  pub state : State
  pub table : List ℕ
  pub rows : List Row
  pub left : List ℕ

abbrev pub table_of : List ℕ → List ℕ
table_of [] = []
table_of (e ∷ es) = bytes 32 e ++ table_of es

-- what is told of each request, and the table at the end
pub record Outcome : Type 0 where
  pub told : List Told
  pub table : List ℕ

-- the decisions of the machine on a list of calls, one after the other
abbrev decisions_of : Machine → List Call → List Decision
decisions_of σ [] = []
decisions_of σ (q ∷ qs) =
    let d = decision σ q in
    d ∷ decisions_of (record { state = d.state; table = d.table; memory = memory_after d.effect σ.memory }) qs

-- of the machine, whose memory begins with zeros
abbrev told_of : Decision → Told
told_of d = record { refusal = d.reply.refusal; bad = d.reply.bad; tokens = d.reply.tokens; dropped = d.reply.dropped; length = d.reply.length; last = d.state.last; next = d.state.next; total = d.state.total; effect = d.effect }

abbrev pub served : Session → Outcome
served s =
    let ds = decisions_of (record { state = s.state; table = table_of s.table; memory = zeros s.memory }) (map (λ (r : Row). r.call) s.rows) in
    record { told = map told_of ds; table = leaves (table_of s.table) ds }

-- as it was recorded
abbrev pub recorded : Session → Outcome
recorded s = record { told = map (λ (r : Row). r.told) s.rows; table = table_of s.left }

-- a request alone, with its refusal, over a table of so many zeros
abbrev pub limit : (memory table last next total : ℕ) → Call → (refusal : ℕ) → printed.Row
limit m n l ν k q r = record { given = (decide m (known 0 0 l ν k) (zeros n) q.request q.buffer).reply.refusal ∷ []; printed = r ∷ [] }

-- the buffers that a list of requests hands back, one after the other, and the memory that it leaves
abbrev buffers_in : List Answer → List ℕ
buffers_in [] = []
buffers_in (a ∷ rest) = a.buffer ++ buffers_in rest

abbrev pub moves : State → (table memory : List ℕ) → List Call → (buffers left : List ℕ) → printed.Row
moves s t m qs bs l =
    let σ : Machine = record { state = s; table = table_of t; memory = m } in
    record { given = buffers_in (answers σ qs) ++ (run σ qs).memory; printed = bs ++ l }

-- every session is served as it was recorded, and every row gives what was recorded
abbrev pub Recorded : List Session → List printed.Row → Type 0
Recorded ss rows = (map served ss ≡ map recorded ss) × printed.Agree rows
