-- The fields of an entry are bytes.
-- Assumes nothing.
use mathlib.Core.Path.{◌≡◌}
use mathlib.Core.List.{List, [], ◌∷◌}
use Prim.Native.Nat.{ℕ, zero, suc}
use native.Mathlib.Omega.{arith}
use lib.ListN.{length, replicate}
use Rattle.bits.specs.Bytes.{AllBytes, bytes}
use Rattle.layout.specs.Entry.{entry_bytes, entry_number}
use Rattle.bits.specs.Fields.{Fit}
use Rattle.layout.specs.declared.entry.Entry.{Entry}
use Rattle.bits.proofs.FieldLaws.{unpack-fit}

-- fields of eight bits are bytes and bytes such fields, and so are the 32 of an entry
fit-bytes : (k : ℕ) (s : List ℕ) → Fit (replicate k 8) s → AllBytes s
fit-bytes zero [] h = tt
fit-bytes zero (v ∷ s) h = absurd h
fit-bytes (suc k) [] h = absurd h
fit-bytes (suc k) (v ∷ s) h = (h.0, fit-bytes k s h.1)

pub bytes_fit : (k : ℕ) (s : List ℕ) → length s ≡ k → AllBytes s → Fit (replicate k 8) s
bytes_fit zero [] l h = tt
bytes_fit zero (v ∷ s) l h = absurd (omega arith)
bytes_fit (suc k) [] l h = absurd (omega arith)
bytes_fit (suc k) (v ∷ s) l h = (h.0, bytes_fit k s (omega arith) h.1)

pub entry_bytes_lem : (e : Entry) → AllBytes (entry_bytes e)
unfolding bytes
entry_bytes_lem e = fit-bytes 32 (entry_bytes e) (unpack-fit (replicate 32 8) (entry_number e))
