-- What the code answers of a record and of a text.
-- Assumes nothing.
use Rattle.std.specs.Prelude.{cond, not, ◌||◌, List, [], ◌∷◌, ℕ, zero, suc, ◌+◌, ◌*◌, ◌%◌, ◌≤◌, max, eqb, Result, Ok, Err}
use Rattle.hexfile.specs.Record.{address, count, faults_of, inside, no_byte, page_of, some, sum, type, verdict_of}
use Rattle.hexfile.specs.Text.{apply, farthest, first, loads, refused, Said}
use Rattle.hexread.specs.declared.record.Fault.{Fault}
use Rattle.hexread.specs.declared.record.Fault.TheVariants.{Malformed, WrongSum}
use Rattle.hexread.specs.declared.record.Record.{Record}
use Rattle.hexread.specs.declared.record.Record.TheVariants.{Data, End, Page}

-- ---- a record

-- by its type, address, count and page, if its verdict is 0
abbrev pub good_as : ℕ → ℕ → ℕ → ℕ → Record
good_as zero a n p = Data a n
good_as (suc zero) a n p = End
good_as (suc (suc t)) a n p = Page p

abbrev pub record_as : ℕ → ℕ → ℕ → ℕ → ℕ → Result Record Fault
record_as v t a n p = cond (eqb v 12) (Err Malformed) (cond (eqb v 13) (Err WrongSum) (Ok (good_as t a n p)))

-- by its bytes, if their count is right
unfoldable pub bytes_as : List ℕ → Result Record Fault
bytes_as bs = record_as (verdict_of (no_byte bs || some (faults_of (type bs) (address bs) (count bs))) (not (eqb (sum bs % 256) 0))) (type bs) (address bs) (count bs) (page_of bs)

-- the first of lines
unfoldable pub record_in : List (List ℕ) → Result Record Fault
record_in [] = Err Malformed
record_in (line ∷ rest) =
    let bs = inside line in
    record_as (first (line ∷ rest)) (type bs) (address bs) (count bs) (page_of bs)

-- ---- a text

-- its refusal, or the largest end of a piece, of at least so much
abbrev pub judged_as : ℕ → Said → Result ℕ Fault
judged_as best (refused n) = cond (eqb n 12) (Err Malformed) (Err WrongSum)
judged_as best (loads ps) = Ok (max best (farthest ps))

-- a largest end, after one data record more: one without bytes "can't be out of bounds"
unfoldable pub raised : ℕ → ℕ → ℕ → ℕ → ℕ
raised best page a n = cond (eqb n 0) best (max best (65536 * page + a + n))

-- it is read, and its pieces lie in a segment so long
abbrev pub Fits : Said → ℕ → Type 0
Fits (refused k) n = ⊥
Fits (loads ps) n = farthest ps ≤ n

-- a segment after what a text says
abbrev pub applied : Said → List ℕ → List ℕ
applied (refused k) segment = segment
applied (loads ps) segment = apply ps segment
