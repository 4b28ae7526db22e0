-- The record at the beginning of a text.
-- Assumes nothing.
use mathlib.Core.Path.{◌≡◌, refl, sym, ◌∙◌, ap}
use mathlib.Core.Logic.{◌≢◌, ◌⊎◌, inl, inr, ⊎_elim}
use mathlib.Core.Bool.{Bool, true, false, true≢false}
use mathlib.Core.List.{List, [], ◌∷◌, ◌++◌}
use Prim.Native.Nat.{ℕ, suc, ◌+◌, ◌*◌, ◌-◌, ◌≤◌, ◌<◌}
use native.Mathlib.Omega.{arith}
use lib.ListN.{drop, get_or, length, length-append, length-drop, length-take, get_or-append, take}
use lib.Seq.{get_or_at, get_or-take, split_at, take_at}
use borrow.Author.Tests.{eq-eqb}
use Rattle.bits.specs.Bytes.{AllBytes}
use Rattle.hexfile.specs.Record.{address, byte, bytes_of, count, malformed, no_byte, page_of, type, verdict, wrong_sum}
use Rattle.hexfile.specs.Text.{first, lines}
use Rattle.hexfile.proofs.LineLaws.{all_bytes, below, bytes_all, even, field, lines-line, plain-bytes, verdict-lines}
use Rattle.hexfile.proofs.ReadLaws.{bad, ends, Formed, held, holds, Kind, Passed, passed, passed-formed, passed-long, Seen, seen, turns, wrong}
use Rattle.hexread.specs.Answers.{bytes_as, good_as, record_in}
use Rattle.hexread.specs.Premises.{Counted}
use Rattle.hexread.specs.Values.{pair_of, word_of}
use Rattle.hexread.specs.declared.record.Record.{Record}
use Rattle.std.specs.Prelude.{Result, Ok, Err}
use Rattle.hexread.specs.declared.record.Fault.{Fault}
use Rattle.hexread.specs.declared.record.Fault.TheVariants.{Malformed, WrongSum}
use Rattle.hexread.specs.declared.record.Record.TheVariants.{Data, End, Page}
use Rattle.hexread.proofs.RecordLaws.{field_at, none_made}
use Rattle.hexread.proofs.ValueLaws.{pair-byte, pair_small}

-- ---- by its verdict

pub malformed_in : (ls : List (List ℕ)) → first ls ≡ 12 → record_in ls ≡ Err Malformed
unfolding record_in
malformed_in [] e = refl
malformed_in (l ∷ ls) e = rw e

pub wrong_in : (ls : List (List ℕ)) → first ls ≡ 13 → record_in ls ≡ Err WrongSum
unfolding record_in
wrong_in [] e = absurd (omega arith)
wrong_in (l ∷ ls) e = rw e

pub passed_in : {s : List ℕ} (g : Passed s) → record_in (lines s) ≡ Ok (good_as (type (held g)) (address (held g)) (count (held g)) (page_of (held g)))
unfolding record_in
passed_in g = rw (g.split, verdict-lines (58 ∷ g.cs) g.rest, g.sound)

-- ---- a text whose first record is not malformed

abbrev pub counted : List ℕ → ℕ
counted s = byte (get_or s 1 0) (get_or s 2 0)

pub record Good (s : List ℕ) : Type 0 where
  pub colon : get_or s 0 0 ≡ 58
  pub small : counted s < 256
  pub long : 2 * counted s + 11 < length s
  pub feed : get_or s (2 * counted s + 11) 0 ≡ 10
  pub bytes : AllBytes (bytes_of (take (2 * counted s + 10) (drop 1 s)))

formed_good : (s : List ℕ) → Formed s → Good s
formed_good s f =
    let cs = f.cs in
    let e = even cs f.bytes in
    let z = f.size in
    let c : count (bytes_of cs) ≡ byte (get_or cs 0 0) (get_or cs 1 0) = field 0 cs (omega arith) in
    let a = get_or-append cs (10 ∷ f.rest) 0 0 (omega arith) in
    let b = get_or-append cs (10 ∷ f.rest) 0 1 (omega arith) in
    let n = length-append cs (10 ∷ f.rest) in
    let k : length cs ≡ 2 * byte (get_or cs 0 0) (get_or cs 1 0) + 10 = omega arith in
    let m = below (bytes_of cs) 0 f.bytes in
    let t : take (2 * byte (get_or cs 0 0) (get_or cs 1 0) + 10) (cs ++ (10 ∷ f.rest)) ≡ cs = take_at cs (10 ∷ f.rest) (2 * byte (get_or cs 0 0) (get_or cs 1 0) + 10) k in
    let d : 2 * byte (get_or cs 0 0) (get_or cs 1 0) + 11 ≡ suc (2 * byte (get_or cs 0 0) (get_or cs 1 0) + 10) = omega arith in
    rw f.begins (record {
      colon = refl;
      small = rw (a, b) (omega arith);
      long = rw (a, b) (omega arith);
      feed = rw (a, b, d) (get_or_at cs 10 f.rest 0 (2 * byte (get_or cs 0 0) (get_or cs 1 0) + 10) k);
      bytes = rw (a, b, t) f.bytes;
    })

good_or : (s : List ℕ) → Good s ⊎ (Err Malformed ≡ record_in (lines s))
good_or s = by (seen s)
  where
    by : Seen s → Good s ⊎ (Err Malformed ≡ record_in (lines s))
    by (bad e) = inr (sym (malformed_in (lines s) e))
    by (wrong e f) = inl (formed_good s f)
    by (passed g) = inl (formed_good s (passed-formed g))

-- ---- a record whose line feed stands where its count says

-- the record of a line with a right count
line_record : (x : ℕ) (cs rest : List ℕ) → x ≡ 58 → AllBytes (bytes_of cs) → length cs ≡ 2 * count (bytes_of cs) + 10
    → bytes_as (bytes_of cs) ≡ record_in (lines ((x ∷ cs) ++ (10 ∷ rest)))
unfolding bytes_as record_in verdict malformed wrong_sum
line_record x cs rest e b n =
    let len = even cs b in
    rw (lines-line (x ∷ cs) rest ((λ i. omega arith), plain-bytes cs b), verdict-lines (x ∷ cs) rest, eq-eqb x 58 e, eq-eqb (length (bytes_of cs)) (count (bytes_of cs) + 5) (omega arith), all_bytes (bytes_of cs) b)

count-part : (x : ℕ) (s : List ℕ) (m : ℕ) → 2 ≤ m → m ≤ length s → count (bytes_of (take m s)) ≡ counted (x ∷ s)
count-part x s m h k =
    let n = length-take m s in
    rw (field 0 (take m s) (omega arith), get_or-take m s 0 0 (omega arith), get_or-take m s 1 0 (omega arith))

whole_part : (s : List ℕ) (c m : ℕ) → c ≡ counted s → c < 256 → 2 * c + 11 < length s → get_or s 0 0 ≡ 58 → get_or s (2 * c + 11) 0 ≡ 10 → m ≡ 2 * c + 10
    → bytes_as (bytes_of (take m (drop 1 s))) ≡ record_in (lines s)
whole_part [] c m e b n i f k = absurd (omega arith)
whole_part (x ∷ s) c m e b n i f k = go (no_byte (bytes_of (take m s))) refl
  where
    same : m ≡ 2 * counted (x ∷ s) + 10
    same = omega arith

    go : (b : Bool) → no_byte (bytes_of (take m s)) ≡ b → bytes_as (bytes_of (take m s)) ≡ record_in (lines (x ∷ s))
    go true h = ⊎_elim (λ g. absurd (clash g)) (λ r. sym (none_made (take m s) unbyte) ∙ r) (good_or (x ∷ s))
      where
        unbyte : AllBytes (bytes_of (take m s)) → ⊥
        unbyte t = let z : ◌≡◌ {A = Bool} true false = sym h ∙ all_bytes (bytes_of (take m s)) t in absurd (true≢false z)

        clash : Good (x ∷ s) → ⊥
        clash g = unbyte (rw same g.bytes)
    go false h =
        let q : 2 * c + 11 ≡ suc m = omega arith in
        let feed : get_or s m 0 ≡ 10 = rw q at f in
        let cut : s ≡ take m s ++ (10 ∷ drop (suc m) s) = split_at s m 0 (omega arith) ∙ ap (λ z. take m s ++ (z ∷ drop (suc m) s)) feed in
        let long = length-take m s in
        let l = count-part x s m (omega arith) (omega arith) in
        line_record x (take m s) (drop (suc m) s) i (bytes_all (bytes_of (take m s)) h) (omega arith) ∙ ap (λ t. record_in (lines (x ∷ t))) (sym cut)

-- ---- each way out of the code

pub in_short : (s : List ℕ) → length s < 12 → Err Malformed ≡ record_in (lines s)
in_short s h = ⊎_elim (λ g. absurd (omega (arith, g.long))) (λ r. r) (good_or s)

pub in_colon : (s : List ℕ) → get_or s 0 0 ≢ 58 → Err Malformed ≡ record_in (lines s)
in_colon s h = ⊎_elim (λ g. absurd (h g.colon)) (λ r. r) (good_or s)

pub in_count : (s : List ℕ) {v : ℕ} → v ≡ pair_of s 1 → 255 < v → Err Malformed ≡ record_in (lines s)
in_count s e h = ⊎_elim (λ g. absurd (let p = pair-byte (get_or s 1 0) (get_or s 2 0) g.small in omega (arith, g.small))) (λ r. r) (good_or s)

module _ (s : List ℕ) {v : ℕ} (q : v ≡ pair_of s 1) (b : v ≤ 255) where
  same_count : v ≡ counted s
  same_count = q ∙ pair_small (get_or s 1 0) (get_or s 2 0) (omega arith)

  pub in_cut : length s ≤ 2 * v + 11 → Err Malformed ≡ record_in (lines s)
  in_cut h = let e = same_count in ⊎_elim (λ g. absurd (omega (arith, g.long))) (λ r. r) (good_or s)

  pub in_feed : get_or s (2 * v + 11) 0 ≢ 10 → Err Malformed ≡ record_in (lines s)
  in_feed h = ⊎_elim (λ g. absurd (h (rw same_count g.feed))) (λ r. r) (good_or s)

  pub in_whole : {r : Result Record Fault} → 2 * v + 11 < length s → get_or s 0 0 ≡ 58 → get_or s (2 * v + 11) 0 ≡ 10 → r ≡ bytes_as (bytes_of (take (2 * v + 11 - 1) (drop 1 s))) → r ≡ record_in (lines s)
  in_whole n i f e = e ∙ whole_part s v (2 * v + 11 - 1) same_count (omega arith) n i f (omega arith)

  pub part-asked : 2 * v + 11 < length s → Counted (take (2 * v + 11 - 1) (drop 1 s)) v
  part-asked n = record { says = says s same_count n; long = simp (length-take, length-drop) (omega arith); small = omega arith }
    where
      says : (s : List ℕ) → v ≡ counted s → 2 * v + 11 < length s → v ≡ count (bytes_of (take (2 * v + 11 - 1) (drop 1 s)))
      says [] e n = absurd (omega arith)
      says (x ∷ s) e n = e ∙ sym (count-part x s (2 * v + 11 - 1) (omega arith) (omega arith))

pub ruleset in-cases = (in_short, in_colon, in_count, in_cut, in_feed, in_whole)

-- ---- a record that is known to have no fault

known : (s : List ℕ) → first (lines s) ≡ 0 → Passed s
known s h = by (seen s)
  where
    by : Seen s → Passed s
    by (bad e) = absurd (omega arith)
    by (wrong e f) = absurd (omega arith)
    by (passed g) = g

-- its fields, by the values of characters
known-pair : (k : ℕ) {s : List ℕ} (g : Passed s) → k < count (held g) + 5 → pair_of s (suc (2 * k)) ≡ get_or (held g) k 0
known-pair k {s} g h =
    let cs = g.cs in
    let l = (passed-long g).0 in
    let z : suc (2 * k) + 1 ≡ suc (2 * k + 1) = omega arith in
    let a = get_or-append cs (10 ∷ g.rest) 0 (2 * k) (omega arith) in
    let b = get_or-append cs (10 ∷ g.rest) 0 (2 * k + 1) (omega arith) in
    rw (g.begins, z, a, b) (field_at k cs g.whole.bytes (omega arith) refl)

known-word : (k : ℕ) {s : List ℕ} (g : Passed s) → k + 1 < count (held g) + 5 → word_of s (suc (2 * k)) ≡ 256 * get_or (held g) k 0 + get_or (held g) (k + 1) 0
known-word k {s} g h =
    let e : suc (2 * (k + 1)) ≡ suc (2 * k) + 2 = omega arith in
    let x = known-pair k g (omega arith) in
    let y : pair_of s (suc (2 * k) + 2) ≡ get_or (held g) (k + 1) 0 = rw (← e) (known-pair (k + 1) g h) in
    rw (x, y)

module _ (s : List ℕ) {k : ℕ} (h : first (lines s) ≡ 0) (e : k ≡ pair_of s 7) where
  kind_is : k ≡ type (held (known s h))
  kind_is = e ∙ known-pair 3 (known s h) (omega arith)

  pub known_data : {a c : ℕ} → k ≡ 0 → a ≡ word_of s 3 → c ≡ pair_of s 1 → Ok (Data a c) ≡ record_in (lines s)
  known_data {a} {c} z p q =
      let g = known s h in
      let x = p ∙ known-word 1 g (omega arith) in
      let n = q ∙ known-pair 0 g (omega arith) in
      let t : type (held g) ≡ 0 = sym kind_is ∙ z in
      rw (n, x) (sym (rw t at (passed_in g)))

  pub known-end : k ≡ 1 → Ok End ≡ record_in (lines s)
  known-end z = let t : type (held (known s h)) ≡ 1 = sym kind_is ∙ z in sym (rw t at (passed_in (known s h)))

  turned : k ≢ 0 → k ≢ 1 → (type (held (known s h)) ≡ 4) × (count (held (known s h)) ≡ 2)
  turned i j = by (known s h).kind
    where
      by : Kind (type (held (known s h))) (address (held (known s h))) (count (held (known s h))) → (type (held (known s h)) ≡ 4) × (count (held (known s h)) ≡ 2)
      by (holds p q) = absurd (i (kind_is ∙ p))
      by (ends p q r) = absurd (j (kind_is ∙ p))
      by (turns p q r) = (p, r)

  pub known-long : k ≢ 0 → k ≢ 1 → 16 ≤ length s
  known-long i j = let t = turned i j in omega (arith, (passed-long (known s h)).1)

  pub known-page : {a : ℕ} → k ≢ 0 → k ≢ 1 → a ≡ word_of s 9 → Ok (Page a) ≡ record_in (lines s)
  known-page i j p =
      let g = known s h in
      let t = turned i j in
      let n = t.1 in
      let x = p ∙ known-word 4 g (omega arith) in
      rw x (sym (rw t.0 at (passed_in g)))

pub ruleset known-cases = (known_data, known-end, known-page)
