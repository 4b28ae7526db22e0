-- Lists of bytes stay lists of bytes when parts are taken, joined or stored.
-- Assumes nothing.
use mathlib.Core.List.{List, [], ◌∷◌, ◌++◌}
use Prim.Native.Nat.{ℕ, zero, suc, ◌<◌}
use native.Mathlib.Omega.{arith}
use lib.ListN.{drop, replicate, set, take}
use lib.Seq.{sets}
use Rattle.bits.specs.Bytes.{AllBytes}

pub bytes_take : (n : ℕ) (l : List ℕ) → AllBytes l → AllBytes (take n l)
bytes_take zero l h = tt
bytes_take (suc n) [] h = tt
bytes_take (suc n) (x ∷ l) h = (h.0, bytes_take n l h.1)

pub bytes_drop : (n : ℕ) (l : List ℕ) → AllBytes l → AllBytes (drop n l)
bytes_drop zero l h = h
bytes_drop (suc n) [] h = tt
bytes_drop (suc n) (x ∷ l) h = bytes_drop n l h.1

bytes-set : (l : List ℕ) (i v : ℕ) → v < 256 → AllBytes l → AllBytes (set l i v)
bytes-set [] i v b h = tt
bytes-set (x ∷ l) zero v b h = (b, h.1)
bytes-set (x ∷ l) (suc i) v b h = (h.0, bytes-set l i v b h.1)

pub bytes-sets : (l : List ℕ) (i : ℕ) (vs : List ℕ) → AllBytes vs → AllBytes l → AllBytes (sets l i vs)
bytes-sets l i [] b h = h
bytes-sets l i (v ∷ vs) b h = bytes-sets (set l i v) (suc i) vs b.1 (bytes-set l i v b.0 h)

pub bytes-zeros : (n : ℕ) → AllBytes (replicate n 0)
bytes-zeros zero = tt
bytes-zeros (suc n) = (omega arith, bytes-zeros n)

pub bytes_join : (a b : List ℕ) → AllBytes a → AllBytes b → AllBytes (a ++ b)
bytes_join [] b ha hb = hb
bytes_join (x ∷ a) b ha hb = (ha.0, bytes_join a b ha.1 hb)
