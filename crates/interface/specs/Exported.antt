-- The interface for C and Rust: what a call of `northbridge_serve` or of `northbridge_serve_leased` returns, and every byte that it leaves, by the machine's
-- `step` and `answer`.
-- Assumes nothing.
use Rattle.std.specs.Prelude.{Bool, true, ◌&&◌, cond, List, [], ◌∷◌, ◌++◌, ◌≡◌, ℕ, eqb, get_or, length}
use Rattle.bits.specs.Bytes.{low_bytes}
use Rattle.bits.specs.SipHash.{word}
use Rattle.leases.specs.Lease.{fit}
use Rattle.machine.specs.Operations.{Reply}
use Rattle.machine.specs.Parts.{State}
use Rattle.machine.specs.Requests.{access, Call, clone, create, derive, dump, execute_only, fetching, load, lock, merge, no_shift, page_in, page_out, reading, release, Request, reset, revoke, Shift, unlock, writing}
use Rattle.machine.specs.ShiftWindows.{Leaseless}
use Rattle.machine.specs.Steps as steps
use Rattle.machine.specs.Steps.{Answer, Machine, step, turned_away}
use Rattle.machine.specs.Stops.{at_request, refusal_number}

-- words of 64 bits as bytes, the low byte first; `word s i` is word i of the bytes s
unfoldable pub word_bytes : List ℕ → List ℕ
word_bytes [] = []
word_bytes (w ∷ ws) = low_bytes 8 w ++ word_bytes ws

-- ---- a request

-- in bytes
abbrev pub request_size : ℕ
request_size = 64

pub data Asked : Type 0 where
  known : Request → Asked
  unknown : Asked

-- the requests in the order of their operations' numbers, 0 to 16; `release` is drop; the five that are accesses bring the shift φ
abbrev pub requests : (token second task length user permissions encoding : ℕ) → Shift → List Asked
requests k x u l m p c φ =
    known (reset k x u)
    ∷ known (access reading k u φ)
    ∷ known (access writing k u φ)
    ∷ known (access fetching k u φ)
    ∷ known (create k u l m p c)
    ∷ known (merge k x u c)
    ∷ known (derive k x l p c)
    ∷ known (execute_only k c)
    ∷ known (clone k)
    ∷ known (release k)
    ∷ known (lock k u)
    ∷ known (unlock k u)
    ∷ known (revoke k c)
    ∷ known (load k u φ)
    ∷ known (dump k u φ)
    ∷ known (page_out k u x c)
    ∷ known (page_in k x u c)
    ∷ []

-- the first word picks the request, made of the words after it
unfoldable pub picked : (operation token second task length user permissions encoding : ℕ) → Shift → Asked
picked o k x u l m p c φ = get_or (requests k x u l m p c φ) o unknown

abbrev pub request_of : List ℕ → Shift → Asked
request_of q φ = picked (word q 0) (word q 1) (word q 2) (word q 3) (word q 4) (word q 5) (word q 6) (word q 7) φ

-- ---- further parts (02, paper 4)

-- what a call lends beside request, state, table, memory, buffer and answer: `northbridge_serve` nothing, `northbridge_serve_leased` a table of leases
pub data Lent : Type 0 where
  no_leases : Lent
  with_leases : List ℕ → Lent

-- what an access brings then: without leases none, and its minute is not looked at; with them word 2 is the minute
abbrev pub shift_of : (request : List ℕ) → Lent → Shift
shift_of q no_leases = no_shift
shift_of q (with_leases ls) = record { minute = word q 2; leases = ls }

-- "a lent table of whole leases, at most 512 bytes, else 1": of whatever request they are lent with. "both accesses only" is said of 15 and 16, "an
-- access minute" of the minute, and nothing of the kind of the size.
abbrev pub lent_fits : Lent → Bool
lent_fits no_leases = true
lent_fits (with_leases ls) = fit ls

-- ---- a state

-- in bytes
abbrev pub state_size : ℕ
state_size = 40

abbrev pub state_of : List ℕ → State
state_of s = record { key0 = word s 0; key1 = word s 1; last = word s 2; next = word s 3; total = word s 4 }

abbrev pub state_bytes : State → List ℕ
state_bytes s = word_bytes (s.key0 ∷ s.key1 ∷ s.last ∷ s.next ∷ s.total ∷ [])

-- ---- an answer

-- in bytes
abbrev pub answer_size : ℕ
answer_size = 48

-- the refusal, its place (which entry was bad), two words for the tokens, zero where there is none, drop's number, and the length that an answer tells
abbrev pub reply_words : Reply → List ℕ
reply_words r = r.refusal ∷ r.bad ∷ get_or r.tokens 0 0 ∷ get_or r.tokens 1 0 ∷ r.dropped ∷ r.length ∷ []

abbrev pub answer_bytes : Reply → List ℕ
answer_bytes r = word_bytes (reply_words r)

-- ---- a call

-- what it returns, and the bytes of the slices that it may write
pub record Exported : Type 0 where
  pub result : ℕ
  pub state : List ℕ
  pub table : List ℕ
  pub memory : List ℕ
  pub buffer : List ℕ
  pub answer : List ℕ

-- a request that the machine has is one step of the machine
abbrev pub served : Machine → Answer → Exported
served σ a = record { result = a.reply.refusal; state = state_bytes σ.state; table = σ.table; memory = σ.memory; buffer = a.buffer; answer = answer_bytes a.reply }

-- refusal 1, where the call itself is broken: nothing is written but an answer of its size
unfoldable pub told : (answer : List ℕ) → List ℕ
told a = cond (eqb (length a) answer_size) (answer_bytes (turned_away at_request)) a

-- a request is read only if request, state and answer have their sizes, and what is lent beside them
abbrev pub words_sized : (request state answer : List ℕ) → Bool
words_sized q s a = eqb (length q) request_size && eqb (length s) state_size && eqb (length a) answer_size

abbrev pub sized : (request state answer : List ℕ) → Lent → Bool
sized q s a l = words_sized q s a && lent_fits l

unfoldable pub asked : (request state answer : List ℕ) → Lent → Asked
asked q s a l = cond (sized q s a l) (request_of q (shift_of q l)) unknown

abbrev pub carried : Asked → (state table memory buffer answer : List ℕ) → Exported
carried (known r) s t m b a =
    let before : Machine = record { state = state_of s; table = t; memory = m } in
    let call : Call = record { request = r; buffer = b } in
    served (step before call) (steps.answer before call)
carried unknown s t m b a =
    record { result = refusal_number at_request; state = s; table = t; memory = m; buffer = b; answer = told a }

unfoldable pub exported : (request state table memory buffer answer : List ℕ) → Lent → Exported
exported q s t m b a l = carried (asked q s a l) s t m b a

-- ---- both functions

-- Without leases the second function is the first, whatever the request; an access is then at some minute of the week.
unfoldable pub Plain : Type 0
Plain =
    (q s t m b a : List ℕ) → ((r : Request) → asked q s a (with_leases []) ≡ known r → Leaseless r)
    → exported q s t m b a (with_leases []) ≡ exported q s t m b a no_leases
