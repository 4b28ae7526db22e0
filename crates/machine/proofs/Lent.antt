-- Under every call, granted or not, table, memory and buffer keep their lengths and stay lists of bytes.
-- Assumes nothing.
use mathlib.Core.Path.{◌≡◌, refl, ◌∙◌}
use mathlib.Core.Bool.{true}
use mathlib.Core.List.{List, [], ◌∷◌}
use Prim.Native.Nat.{ℕ}
use lib.ListN.{drop, length, take}
use lib.Seq.{length-sets, sets}
use Rattle.layout.specs.declared.entry.Entry.{Entry}
use Rattle.bits.specs.Bytes.{AllBytes}
use Rattle.machine.specs.Lent.{AsLong, LentBytes}
use Rattle.machine.specs.Operations.{entire, Fill, front, Grant, grant, Store, unfilled}
use Rattle.machine.specs.Parts.{cleared, put}
use Rattle.machine.specs.Requests.{Call}
use Rattle.machine.specs.Steps.{answer, decision, filled, Machine, step, stored, limited}
use Rattle.machine.specs.Writes.{opened}
use Rattle.bits.proofs.ByteLists.{bytes_drop, bytes-sets, bytes_take}
use Rattle.machine.proofs.Decided.{away, Course, course, early, late, made_fits, taken, through, Turned, turned}
use Rattle.machine.proofs.Effects.{memory-long}
use Rattle.machine.proofs.Grants.{EffectFits, FillFits, granted_fits, StoreFits}
use Rattle.machine.proofs.TableLaws.{bytes-cleared, bytes-put, length-cleared, length-put}
use Rattle.machine.proofs.WriteLaws.{table_after}

-- ---- table, memory and buffer

table_stays : (P : List ℕ → Type 0) → ((t : List ℕ) (n : ℕ) (e : Entry) → P t → P (put t n e)) → ((t : List ℕ) → P t → P (cleared t))
    → (σ : Machine) (q : Call) → P σ.table → P (step σ q).table
unfolding step
table_stays P puts clears σ q h =
    go (turned σ q)
  where
    g : Grant
    g = grant (length σ.memory) σ.table q.request q.buffer

    go : Turned σ q → P (decision σ q).table
    go (taken a p e) = rw e (table_after P puts clears g.encoding (opened σ.state σ.table) g.writes h)
    go (away r e n) = rw e h

-- what is made for the buffer keeps to its limit
FillShort : Fill → (memory : List ℕ) → Type 0
FillShort f memory = limited f memory ≡ true

decided_fits : (σ : Machine) (q : Call) → EffectFits (length σ.memory) σ.table q.buffer (decision σ q).effect × FillShort (decision σ q).effect.fill σ.memory
unfolding FillShort
decided_fits σ q = go (course σ q)
  where
    m : ℕ
    m = length σ.memory

    go : Course σ q → EffectFits m σ.table q.buffer (decision σ q).effect × FillShort (decision σ q).effect.fill σ.memory
    go (through p l b e) = rw e ((granted_fits m σ.state σ.table q.request q.buffer p).effect, (made_fits (grant m σ.table q.request q.buffer).effect.fill σ.memory q.buffer l).0)
    go (late p r h b e) = rw e ((tt, tt), refl)
    go (early r b e) = rw e ((tt, tt), refl)

filled-long : (f : Fill) (t memory b : List ℕ) → FillFits (length memory) t b f → length (filled f memory b) ≡ length b
filled-long unfilled t memory b h = refl
filled-long (entire a n f) t memory b h = h.0 memory refl
filled-long (front a n f limit) t memory b h = length-sets b 0 (f (take n (drop a memory)))

stored_bytes : (ws : List Store) (memory b : List ℕ) → StoreFits b ws → AllBytes memory → AllBytes b → AllBytes (stored ws memory)
stored_bytes [] memory b h i j = i
stored_bytes (w ∷ ws) memory b h i j = stored_bytes ws (sets memory w.start w.bytes) b h.1 (bytes-sets memory w.start w.bytes (h.0 j) i) j

filled-bytes : (f : Fill) (t memory b : List ℕ) → FillFits (length memory) t b f → FillShort f memory → AllBytes t → AllBytes memory → AllBytes b → AllBytes (filled f memory b)
unfolding FillShort
filled-bytes unfilled t memory b h s k i j = j
filled-bytes (entire a n f) t memory b h s k i j = h.1 k (take n (drop a memory)) (bytes_take n (drop a memory) (bytes_drop a memory i))
filled-bytes (front a n f limit) t memory b h s k i j = let bs = take n (drop a memory) in bytes-sets b 0 (f bs) (h k bs s (bytes_take n (drop a memory) (bytes_drop a memory i))) j

-- ---- every call

pub as_long_lem : (σ : Machine) (q : Call) → AsLong σ q
unfolding step answer
as_long_lem σ q =
    record {
      table = table_stays (λ (t : List ℕ). length t ≡ length σ.table) (λ t n e h. length-put t n e ∙ h) (λ t h. length-cleared t ∙ h) σ q refl;
      memory = memory-long (decision σ q).effect σ.memory;
      buffer = filled-long (decision σ q).effect.fill σ.table σ.memory q.buffer (decided_fits σ q).0.1;
    }

pub bytes-stay : (σ : Machine) (q : Call) → LentBytes σ q.buffer → LentBytes (step σ q) (answer σ q).buffer
unfolding step answer
bytes-stay σ q h =
    record {
      table = table_stays AllBytes bytes-put (λ t i. bytes-cleared t) σ q h.table;
      memory = stored_bytes (decision σ q).effect.stores σ.memory q.buffer (decided_fits σ q).0.0 h.memory h.buffer;
      buffer = filled-bytes (decision σ q).effect.fill σ.table σ.memory q.buffer (decided_fits σ q).0.1 (decided_fits σ q).1 h.table h.memory h.buffer;
    }
