-- The table as bytes: an entry that was put is there, the others stay, and so does the length. Nothing else opens `at`, `put`, `size`, `cleared`.
-- Assumes nothing.
use mathlib.Core.Path.{◌≡◌, refl, sym, subst, ◌∙◌, ap}
use mathlib.Core.Logic.{◌≢◌}
use mathlib.Core.Bool.{false}
use mathlib.Core.List.{List, append_assoc}
use Prim.Native.Nat.{ℕ, ◌*◌, ◌/◌, ◌^◌, ◌≤◌, ◌<◌}
use native.Mathlib.Omega.{arith}
use native.Mathlib.Decide.{dec_lt}
use lib.ListN.{length, take, drop, replicate, length-replicate, get_or-replicate, length-drop, length-take, take-append-drop}
use lib.Seq.{sets, sets-eq, length-sets, drop-drop}
use borrow.Author.Tests.{lt-ltb, le-ltb}
use Rattle.layout.specs.Entry.{entry_at, entry_bytes, entry_number, entry_of, free, freed, is_free, Storable, type_of}
use Rattle.layout.specs.Form.{ill_formed}
use Rattle.layout.specs.declared.entry.Entry.{Entry}
use Rattle.bits.proofs.ByteLaws.{length-bytes}
use Rattle.layout.proofs.EntryLaws.{read_small, read-storable, shared_as}
use Rattle.layout.proofs.FormLaws.{free_back, laid, well_formed_back, written_read}
use Rattle.machine.specs.Issuing.{last_held}
use Rattle.machine.specs.Parts.{at, cleared, put, size}
use Rattle.machine.specs.Writes.{vacated}
use Rattle.bits.specs.Bytes.{AllBytes, number}
use Rattle.bits.proofs.ByteLists.{bytes_drop, bytes-sets, bytes_take, bytes-zeros}
use Rattle.machine.proofs.ByteLaws.{bytes_fit, entry_bytes_lem}
use Rattle.machine.proofs.SliceLaws.{all_zeros, slice_agree, slice_same, sets-other}

-- ---- reading and writing by number

pub at_in : (t : List ℕ) (n : ℕ) → n < size t → at t n ≡ entry_at (take 32 (drop (32 * n) t))
unfolding at
at_in t n h = rw (lt-ltb n (size t) h)

pub at_out : (t : List ℕ) (n : ℕ) → size t ≤ n → at t n ≡ free
unfolding at
at_out t n h = rw (le-ltb n (size t) h)

put-sets : (t : List ℕ) (n : ℕ) (e : Entry) → n < size t → put t n e ≡ sets t (32 * n) (entry_bytes e)
unfolding put size
put-sets t n e h =
    let l : length (entry_bytes e) ≡ 32 = length-bytes 32 (entry_number e) in
    rw (lt-ltb n (length t / 32) h, drop-drop 32 (32 * n) t, sets-eq (entry_bytes e) t (32 * n) (omega arith), append_assoc, l)

pub put-out : (t : List ℕ) (n : ℕ) (e : Entry) → size t ≤ n → put t n e ≡ t
unfolding put
put-out t n e h = rw (le-ltb n (size t) h)

pub length-put : (t : List ℕ) (n : ℕ) (e : Entry) → length (put t n e) ≡ length t
length-put t n e = go (dec_lt n (size t))
  where
    go : Dec (n < size t) → length (put t n e) ≡ length t
    go (yes h) = ap length (put-sets t n e h) ∙ length-sets t (32 * n) (entry_bytes e)
    go (no h) = ap length (put-out t n e (omega arith))

pub size-put : (t : List ℕ) (n : ℕ) (e : Entry) → size (put t n e) ≡ size t
unfolding size
size-put t n e = ap (λ (l : ℕ). l / 32) (length-put t n e)

pub at_same : (t : List ℕ) (n : ℕ) (e : Entry) → Storable e → n < size t → at (put t n e) n ≡ e
unfolding size
at_same t n e f h =
    let l : length (entry_bytes e) ≡ 32 = length-bytes 32 (entry_number e) in
    at_in (put t n e) n (rw size-put h)
    ∙ rw (put-sets t n e h, slice_same t (32 * n) (entry_bytes e) 32 l (omega arith)) (written_read e f)

pub at_other : (t : List ℕ) (n m : ℕ) (e : Entry) → m ≢ n → at (put t n e) m ≡ at t m
unfolding size
at_other t n m e h = go (dec_lt n (size t)) (dec_lt m (size t))
  where
    l : length (entry_bytes e) ≡ 32
    l = length-bytes 32 (entry_number e)

    go : Dec (n < size t) → Dec (m < size t) → at (put t n e) m ≡ at t m
    go (yes i) (yes j) =
        at_in (put t n e) m (rw size-put j)
        ∙ ap entry_at (rw (put-sets t n e i) (slice_agree (sets t (32 * n) (entry_bytes e)) t (32 * m) 32 (length-sets t (32 * n) (entry_bytes e)) (λ x k. sets-other t (32 * n) (entry_bytes e) x (λ k'. h (omega (arith, l))))))
        ∙ sym (at_in t m j)
    go (yes i) (no j) = at_out (put t n e) m (rw size-put (omega arith)) ∙ sym (at_out t m (omega arith))
    go (no i) d = ap (λ (s : List ℕ). at s m) (put-out t n e (omega arith))

-- an entry that is not free is in the table
pub in_table : (t : List ℕ) (n : ℕ) → (at t n).kind ≢ 0 → n < size t
in_table t n h = go (dec_lt n (size t))
  where
    go : Dec (n < size t) → n < size t
    go (yes i) = i
    go (no i) = absurd (h (ap (λ (e : Entry). e.kind) (at_out t n (omega arith))))

-- one that is well-formed can be packed with nothing lost
pub at_storable : (m : ℕ) (t : List ℕ) (n : ℕ) → (at t n).kind ≢ 0 → ill_formed m (at t n) ≡ false → Storable (at t n)
unfolding entry_of
at_storable m t n f h =
    let x : ℕ = number 32 (take 32 (drop (32 * n) t)) in
    let r : at t n ≡ entry_of x = at_in t n (in_table t n f) in
    let k : (at t n).kind ≡ type_of x = ap (λ (e : Entry). e.kind) r ∙ ap (λ (e : Entry). e.kind) (shared_as (type_of x) x) in
    rw r (read-storable x (rw (← k) (laid m (at t n) f h)))

-- ---- an entry that is freed

-- a tag fits, so that a free entry can keep it
pub held_small : (t : List ℕ) (n : ℕ) → last_held t n < 2 ^ 16
held_small t n = go (dec_lt n (size t))
  where
    go : Dec (n < size t) → last_held t n < 2 ^ 16
    go (yes i) = subst (λ (e : Entry). e.tag < 2 ^ 16) (sym (at_in t n i)) (read_small _).0
    go (no i) = subst (λ (e : Entry). e.tag < 2 ^ 16) (sym (at_out t n (omega arith))) (omega arith)

pub freed-storable : (t : List ℕ) (n : ℕ) → Storable (freed (last_held t n))
freed-storable t n = is_free (held_small t n) refl

-- it is there with its tag, and the others stay
pub vacated_same : (t : List ℕ) (n : ℕ) → n < size t → at (vacated t n) n ≡ freed (last_held t n)
vacated_same t n h = at_same t n (freed (last_held t n)) (freed-storable t n) h

pub vacated-other : (t : List ℕ) (n i : ℕ) → i ≢ n → at (vacated t n) i ≡ at t i
vacated-other t n i h = at_other t n i (freed (last_held t n)) h

-- ---- an entry put where it stands

-- an entry that is neither free nor ill-formed, put where it stands, leaves every byte
pub put_back : (m : ℕ) (t : List ℕ) (n : ℕ) → AllBytes t → (at t n).kind ≢ 0 → ill_formed m (at t n) ≡ false → put t n (at t n) ≡ t
unfolding put size
put_back m t n b f h =
    let i : n < length t / 32 = in_table t n f in
    let s : List ℕ = take 32 (drop (32 * n) t) in
    let r : at t n ≡ entry_at s = at_in t n i in
    let l : length s ≡ 32 = simp (length-take, length-drop) (omega arith) in
    let same : entry_bytes (entry_at s) ≡ s =
    well_formed_back m s (bytes_fit 32 s l (bytes_take 32 (drop (32 * n) t) (bytes_drop (32 * n) t b))) (subst (λ (e : Entry). e.kind ≢ 0) r f) (subst (λ (e : Entry). ill_formed m e ≡ false) r h) in
    rw (lt-ltb n (length t / 32) i, r, same, take-append-drop 32 (drop (32 * n) t), take-append-drop (32 * n) t)

-- ---- a cleared table

pub length-cleared : (t : List ℕ) → length (cleared t) ≡ length t
unfolding cleared
length-cleared t = length-replicate {A = ℕ} (length t) 0

pub size-cleared : (t : List ℕ) → size (cleared t) ≡ size t
unfolding size
size-cleared t = ap (λ (l : ℕ). l / 32) (length-cleared t)

zeros : (t : List ℕ) (n : ℕ) → n < size (cleared t) → take 32 (drop (32 * n) (cleared t)) ≡ replicate 32 0
unfolding size cleared
zeros t n i =
    let long : length (cleared t) ≡ length t = length-cleared t in
    all_zeros (cleared t) (32 * n) 32 (omega arith) (λ x a b. get_or-replicate (length t) x 0 0 (omega arith))

pub at_cleared : (t : List ℕ) (n : ℕ) → at (cleared t) n ≡ free
at_cleared t n = go (dec_lt n (size (cleared t)))
  where
    go : Dec (n < size (cleared t)) → at (cleared t) n ≡ free
    go (yes i) = at_in (cleared t) n i ∙ ap entry_at (zeros t n i) ∙ free_back.0
    go (no i) = at_out (cleared t) n (omega arith)

-- ---- a table of bytes stays one

pub bytes-put : (t : List ℕ) (n : ℕ) (e : Entry) → AllBytes t → AllBytes (put t n e)
bytes-put t n e b = go (dec_lt n (size t))
  where
    go : Dec (n < size t) → AllBytes (put t n e)
    go (yes h) = rw (put-sets t n e h) (bytes-sets t (32 * n) (entry_bytes e) (entry_bytes_lem e) b)
    go (no h) = rw (put-out t n e (omega arith)) b

pub bytes-cleared : (t : List ℕ) → AllBytes (cleared t)
unfolding cleared
bytes-cleared t = bytes-zeros (length t)
