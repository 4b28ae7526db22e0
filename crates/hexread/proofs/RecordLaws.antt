-- What the characters of a record make it.
-- Assumes nothing.
use mathlib.Core.Path.{◌≡◌, refl, sym, ◌∙◌}
use mathlib.Core.Logic.{◌≢◌, ◌⊎◌, inl, inr}
use mathlib.Core.Bool.{Bool, true, false, not, ◌||◌}
use mathlib.Core.List.{List}
use Prim.Native.Nat.{ℕ, zero, suc, ◌+◌, ◌*◌, ◌%◌, ◌≤◌, ◌<◌}
use native.Mathlib.Omega.{arith}
use lib.Dec.{eqb, ltb}
use lib.ListN.{get_or, length}
use borrow.Author.Tests.{ne_eqb}
use Rattle.bits.specs.Bytes.{AllBytes}
use Rattle.hexfile.specs.Record.{address, bytes_of, faults_of, no_byte, page_of, some, type, verdict_of}
use Rattle.hexfile.proofs.LineLaws.{all_bytes, below, bytes_all, even, field}
use Rattle.hexfile.proofs.ReadLaws.{ends, holds, Kind, kind_of, turns}
use Rattle.hexread.specs.Answers.{bytes_as, record_as}
use Rattle.hexread.specs.Premises.{Counted, Ruled, Summed}
use Rattle.hexread.specs.Values.{pair_of, word_of}
use Rattle.hexread.specs.declared.record.Record.{Record}
use Rattle.std.specs.Prelude.{Result, Ok, Err}
use Rattle.hexread.specs.declared.record.Fault.{Fault}
use Rattle.hexread.specs.declared.record.Fault.TheVariants.{Malformed, WrongSum}
use Rattle.hexread.specs.declared.record.Record.TheVariants.{Data, End, Page}
use Rattle.hexread.proofs.ValueLaws.{pair-byte, sums_good, sums_small}

-- ---- the faults of a type

or_none : (b : Bool) → b ≡ (b || false)
or_none true = refl
or_none false = refl

pub faulty_data : (k a n : ℕ) → k ≡ 0 → ltb 65536 (a + n) ≡ some (faults_of k a n)
faulty_data k a n e = rw e (or_none (ltb 65536 (a + n)))

pub faulty_address : (k a n : ℕ) → k ≢ 0 → a ≢ 0 → true ≡ some (faults_of k a n)
faulty_address zero a n h i = absurd (h refl)
faulty_address (suc zero) a n h i = rw (ne_eqb a 0 i)
faulty_address (suc (suc zero)) a n h i = refl
faulty_address (suc (suc (suc zero))) a n h i = refl
faulty_address (suc (suc (suc (suc zero)))) a n h i = rw (ne_eqb a 0 i)
faulty_address (suc (suc (suc (suc (suc k))))) a n h i = refl

pub faulty_end : (k a n : ℕ) → k ≡ 1 → a ≡ 0 → not (eqb n 0) ≡ some (faults_of k a n)
faulty_end k a n e z = rw (e, z) (or_none (not (eqb n 0)))

pub faulty_page : (k a n : ℕ) → k ≡ 4 → a ≡ 0 → not (eqb n 2) ≡ some (faults_of k a n)
faulty_page k a n e z = rw (e, z) (or_none (not (eqb n 2)))

pub faulty_type : (k a n : ℕ) → k ≢ 0 → k ≢ 1 → k ≢ 4 → true ≡ some (faults_of k a n)
faulty_type zero a n h i j = absurd (h refl)
faulty_type (suc zero) a n h i j = absurd (i refl)
faulty_type (suc (suc zero)) a n h i j = refl
faulty_type (suc (suc (suc zero))) a n h i j = refl
faulty_type (suc (suc (suc (suc zero)))) a n h i j = absurd (j refl)
faulty_type (suc (suc (suc (suc (suc k))))) a n h i j = refl

pub ruleset faulty-cases = (faulty_data, faulty_address, faulty_end, faulty_page, faulty_type)

-- ---- the fields of characters that make bytes

-- the byte at a place, by the values of its characters
pub field_at : (k : ℕ) (cs : List ℕ) {v : ℕ} → AllBytes (bytes_of cs) → 2 * k + 1 < length cs → v ≡ pair_of cs (2 * k) → v ≡ get_or (bytes_of cs) k 0
field_at k cs h n e =
    let f = field k cs n in
    let b = below (bytes_of cs) k h in
    e ∙ pair-byte (get_or cs (2 * k) 0) (get_or cs (2 * k + 1) 0) (omega arith) ∙ sym f

-- the two bytes from a place on
pub word_at : (k : ℕ) (cs : List ℕ) → AllBytes (bytes_of cs) → 2 * k + 3 < length cs
    → (word_of cs (2 * k) ≡ 256 * get_or (bytes_of cs) k 0 + get_or (bytes_of cs) (k + 1) 0) × (word_of cs (2 * k) < 65536)
word_at k cs h n =
    let e : 2 * (k + 1) ≡ 2 * k + 2 = omega arith in
    let x : pair_of cs (2 * k) ≡ get_or (bytes_of cs) k 0 = field_at k cs h (omega arith) refl in
    let y : pair_of cs (2 * k + 2) ≡ get_or (bytes_of cs) (k + 1) 0 = rw (← e) (field_at (k + 1) cs h (omega arith) refl) in
    let p = below (bytes_of cs) k h in
    let q = below (bytes_of cs) (k + 1) h in
    (omega arith, omega arith)

-- a record without fault that is neither data nor an end is a page
pub page-size : (t a n : ℕ) {b : Bool} → b ≡ some (faults_of t a n) → b ≡ false → t ≢ 0 → t ≢ 1 → n ≡ 2
page-size t a n e h i j = by (kind_of t a n (sym e ∙ h))
  where
    by : Kind t a n → n ≡ 2
    by (holds p q) = absurd (i p)
    by (ends p q r) = absurd (j p)
    by (turns p q r) = r

-- ---- a record by its fields

page_of_lem : (t a n p : ℕ) → t ≢ 0 → t ≢ 1 → Ok (Page p) ≡ record_as 0 t a n p
page_of_lem zero a n p i j = absurd (i refl)
page_of_lem (suc zero) a n p i j = absurd (j refl)
page_of_lem (suc (suc t)) a n p i j = refl

module _ {cs : List ℕ} {size total a k : ℕ} (r : Ruled cs size total) (ek : k ≡ pair_of cs 6) (ea : a ≡ word_of cs 2) where
  kind_field : k ≡ type (bytes_of cs)
  kind_field = field_at 3 cs r.bytes (omega (arith, r.counted.long)) ek

  address-field : (a ≡ address (bytes_of cs)) × (a < 65536)
  address-field = let w = word_at 1 cs r.bytes (omega (arith, r.counted.long)) in (ea ∙ w.0, omega (arith, w.1))

  pub address_small : a < 65536
  address_small = address-field.1

  -- its answer, by what the code knows
  by_fields : {x : Result Record Fault} → x ≡ record_as (verdict_of (some (faults_of k a size)) (not (eqb (total % 256) 0))) k a size (page_of (bytes_of cs)) → x ≡ bytes_as (bytes_of cs)
  unfolding bytes_as
  by_fields h =
      let f = address-field.0 in
      let s = r.counted.says in
      let t = r.sums in
      rw (all_bytes (bytes_of cs) r.bytes, ← kind_field, ← f, ← s, ← t) h

  pub ruled-malformed : {b : Bool} → b ≡ some (faults_of k a size) → b ≡ true → Err Malformed ≡ bytes_as (bytes_of cs)
  ruled-malformed e h = by_fields (rw (← e, h))

  pub ruled-sum : {b : Bool} → b ≡ some (faults_of k a size) → b ≡ false → total % 256 ≢ 0 → Err WrongSum ≡ bytes_as (bytes_of cs)
  ruled-sum e h i = by_fields (rw (← e, h, ne_eqb (total % 256) 0 i))

  pub ruled_data : {b : Bool} → b ≡ some (faults_of k a size) → b ≡ false → total % 256 ≡ 0 → k ≡ 0 → Ok (Data a size) ≡ bytes_as (bytes_of cs)
  ruled_data e h i j = by_fields (rw (← e, h, i, j))

  pub ruled-end : {b : Bool} → b ≡ some (faults_of k a size) → b ≡ false → total % 256 ≡ 0 → k ≡ 1 → Ok End ≡ bytes_as (bytes_of cs)
  ruled-end e h i j = by_fields (rw (← e, h, i, j))

  pub ruled-page : {b : Bool} {p : ℕ} → b ≡ some (faults_of k a size) → b ≡ false → total % 256 ≡ 0 → k ≢ 0 → k ≢ 1 → p ≡ word_of cs 8 → Ok (Page p) ≡ bytes_as (bytes_of cs)
  ruled-page e h i j l m =
      let z = page-size k a size e h j l in
      let same = m ∙ (word_at 4 cs r.bytes (omega (arith, r.counted.long))).0 in
      by_fields (rw (← e, h, i, same) (page_of_lem k a size (page_of (bytes_of cs)) j l))

pub ruleset ruled-cases = (ruled-malformed, ruled-sum, ruled_data, ruled-end, ruled-page)

-- ---- a record by its characters

pub none_made : (cs : List ℕ) → (AllBytes (bytes_of cs) → ⊥) → Err Malformed ≡ bytes_as (bytes_of cs)
unfolding bytes_as
none_made cs h = by (no_byte (bytes_of cs)) refl
  where
    by : (b : Bool) → no_byte (bytes_of cs) ≡ b → Err Malformed ≡ bytes_as (bytes_of cs)
    by true e = rw e
    by false e = absurd (h (bytes_all (bytes_of cs) e))

-- a character is no digit: the sums show it
module _ {cs : List ℕ} {size high low : ℕ} (c : Counted cs size) (s : Summed cs high low) where
  most : AllBytes (bytes_of cs) → (high ≤ 3900) × (low ≤ 3900)
  most b =
      let e = even cs b in
      let m = sums_small cs b in
      let l = c.long in
      let n = c.small in
      let f = s.first in
      let g = s.second in
      (omega (arith, m.0), omega (arith, m.1))

  pub of-large : (4095 < high) ⊎ ((high ≤ 4095) × (4095 < low)) → Err Malformed ≡ bytes_as (bytes_of cs)
  of-large (inl h) = none_made cs (λ b. omega (arith, (most b).0))
  of-large (inr h) = none_made cs (λ b. omega (arith, (most b).1, h.1))

  pub ruled-asked : high ≤ 4095 → low ≤ 4095 → Ruled cs size (16 * high + low)
  ruled-asked h k =
      let l = c.long in
      let f = s.first in
      let g = s.second in
      let r = sums_good cs (size + 5) (omega arith) (omega arith) (omega arith) in
      let t = r.1 in
      record { counted = c; bytes = r.0; sums = omega arith }
