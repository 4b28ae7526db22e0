-- What stands in the table fits its fields.
-- Assumes nothing.
use Rattle.std.proofs.Common.{ℕ, ◌<◌, List, sym, subst, arith}
use native.Mathlib.Decide.{dec_lt}
use Rattle.layout.specs.Entry.{Fits}
use Rattle.layout.proofs.EntryLaws.{free_fits, read_fits}
use Rattle.machine.specs.Parts.{at, size}
use Rattle.machine.proofs.TableLaws.{at_in, at_out}

pub at_fits : (t : List ℕ) (n : ℕ) → Fits (at t n)
at_fits t n = go (dec_lt n (size t))
  where
    go : Dec (n < size t) → Fits (at t n)
    go (yes h) = subst Fits (sym (at_in t n h)) (read_fits _)
    go (no h) = subst Fits (sym (at_out t n (omega arith))) free_fits
