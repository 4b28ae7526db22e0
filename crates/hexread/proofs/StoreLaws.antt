-- The data of a text, stored byte by byte and piece by piece.
-- Assumes nothing.
use mathlib.Core.Path.{◌≡◌, refl, sym, ◌∙◌, ap}
use mathlib.Core.Logic.{◌≢◌}
use mathlib.Core.Bool.{Bool, true, false, cond}
use mathlib.Core.List.{List, [], ◌∷◌, ◌++◌, append_assoc}
use Prim.Native.Nat.{ℕ, ◌+◌, ◌*◌, ◌-◌, ◌≤◌, ◌<◌, max}
use native.Mathlib.Nat.{add-sub_cancel_left}
use native.Mathlib.Numerals.{add-one}
use native.Mathlib.Omega.{arith}
use lib.Dec.{eqb}
use lib.ListN.{drop, get_or, length, length-drop, length-set, length-take, set, take}
use lib.Seq.{drop-drop, length-sets, sets-eq, take_all, take-suc, take-suc-set}
use borrow.Author.Tests.{eqb-true, ne_eqb}
use Rattle.bits.specs.Bytes.{AllBytes}
use borrow.Rule.Slice.PartMut.{put_mid}
use Rattle.hexread.specs.Answers.{applied, Fits, judged_as, record_in}
use Rattle.hexfile.specs.Record.{bytes_of}
use Rattle.hexfile.specs.Text.{after, apply, ending, farthest, first, lines, loads, piece_at, read, refused, Said, said}
use Rattle.std.specs.Prelude.{Result, Ok}
use Rattle.hexread.specs.declared.record.Fault.{Fault}
use Rattle.hexread.specs.declared.record.Record.{Record}
use Rattle.hexread.specs.declared.record.Record.TheVariants.{Data, End, Page}
use Rattle.hexread.specs.Premises.{chars_at, Placed}
use Rattle.hexread.specs.Values.{pair_of}
use Rattle.hexfile.proofs.LineLaws.{below, even}
use Rattle.hexfile.proofs.ReadLaws.{bad, passed, passed_first, passed-long, refused-read, Seen, seen, wrong}
use Rattle.hexread.proofs.JudgeLaws.{part, part-whole}
use Rattle.hexread.proofs.KindLaws.{data_in, data_read, end_read, page-read, piece_in}
use Rattle.hexread.proofs.RecordLaws.{field_at}

-- ---- bytes

-- the first i bytes are stored
pub record Copied (to₀ cs to : List ℕ) (i : ℕ) : Type 0 where
  pub within : i ≤ length to
  pub same : length to ≡ length to₀
  pub done : take i to ≡ take i (bytes_of cs)

pub copy_start : (to cs : List ℕ) → Copied to cs to 0
copy_start to cs = record { within = omega arith; same = refl; done = refl }

-- the next pair is a byte
module _ (to₀ cs : List ℕ) (i : ℕ) (p : length cs ≡ 2 * length to₀) (a : AllBytes (bytes_of cs)) where
  -- the next pair is a byte
  pub copy-small : {v : ℕ} → i < length to₀ → v ≡ pair_of cs (2 * i) → v < 256
  copy-small {v} h e =
      let f = field_at i cs a (omega arith) e in
      let b = below (bytes_of cs) i a in
      omega arith

  pub copy_more : {to : List ℕ} {v : ℕ} → Copied to₀ cs to i → i < length to₀ → v ≡ pair_of cs (2 * i) → Copied to₀ cs (set to i v) (i + 1)
  copy_more {to} {v} c h e =
      let s = c.same in
      let len = even cs a in
      let q : v ≡ get_or (bytes_of cs) i 0 = field_at i cs a (omega arith) e in
      record {
        within = simp length-set (omega arith);
        same = simp length-set s;
        done = rw (add-one i, take-suc-set to i v (omega arith), take-suc (bytes_of cs) i 0 (omega arith), c.done, q);
      }

  pub copy_done : {to : List ℕ} → Copied to₀ cs to i → length to₀ ≤ i → to ≡ bytes_of cs
  copy_done {to} c h =
      let s = c.same in
      let len = even cs a in
      sym (take_all i to (omega arith)) ∙ c.done ∙ take_all i (bytes_of cs) (omega arith)

-- ---- a piece

pub piece_none : (start n : ℕ) (bs xs : List ℕ) → n ≡ 0 → xs ≡ apply (piece_at start n bs) xs
piece_none start n bs xs e = rw e

pub piece_some : (start n : ℕ) (cs xs ys : List ℕ) → n ≢ 0 → length cs ≡ 2 * n → AllBytes (bytes_of cs) → start + n ≤ length xs → ys ≡ bytes_of cs
    → put_mid start (start + n - start) xs ys ≡ apply (piece_at start n (bytes_of cs)) xs
piece_some start n cs xs ys h k c f e =
    let len = even cs c in
    let l : length (bytes_of cs) ≡ n = omega arith in
    rw (ne_eqb n 0 h, e, add-sub_cancel_left, drop-drop n start xs, sets-eq (bytes_of cs) xs start (omega arith), append_assoc, l)

apply-long : (start n : ℕ) (bs xs : List ℕ) → length (apply (piece_at start n bs) xs) ≡ length xs
apply-long start n bs xs = by (eqb n 0)
  where
    by : (b : Bool) → length (apply (cond b [] (record { at = start; bytes = bs } ∷ [])) xs) ≡ length xs
    by true = refl
    by false = length-sets xs start bs

-- a piece, and the rest of what a text says
fits_after : (start n m : ℕ) (bs : List ℕ) (x : Said) → length bs ≡ n → Fits (after (piece_at start n bs) x) m → Fits x m × (0 < n → start + n ≤ m)
fits_after start n m bs (refused k) l h = absurd h
fits_after start n m bs (loads ps) l h = by (eqb n 0) refl
  where
    by : (b : Bool) → eqb n 0 ≡ b → (farthest ps ≤ m) × (0 < n → start + n ≤ m)
    by true e = (rw e at h, λ i. absurd (zero_not e i))
      where
        zero_not : eqb n 0 ≡ true → 0 < n → ⊥
        zero_not p q = let z = eqb-true n 0 p in omega arith
    by false e =
        let f : max (start + length bs) (farthest ps) ≤ m = rw e at h in
        (omega arith, λ i. omega arith)

applied_after : (start n m : ℕ) (bs : List ℕ) (x : Said) (segment : List ℕ) → Fits (after (piece_at start n bs) x) m
    → applied (after (piece_at start n bs) x) segment ≡ applied x (apply (piece_at start n bs) segment)
applied_after start n m bs (refused k) segment h = absurd h
applied_after start n m bs (loads ps) segment h = by (eqb n 0) refl
  where
    by : (b : Bool) → eqb n 0 ≡ b → apply (piece_at start n bs ++ ps) segment ≡ apply ps (apply (piece_at start n bs) segment)
    by true e = rw e
    by false e = rw e

-- an end changes nothing
applied-ending : (ls : List (List ℕ)) (segment : List ℕ) → applied (ending ls) segment ≡ segment
applied-ending [] segment = refl
applied-ending ([] ∷ []) segment = refl
applied-ending ((c ∷ cs) ∷ ls) segment = refl
applied-ending ([] ∷ l ∷ ls) segment = refl

-- ---- what is left of the text

-- the rest is still to be stored
pub record Storing (text segment₀ rest segment : List ℕ) (page : ℕ) : Type 0 where
  pub small : page < 65536
  pub same : length segment ≡ length segment₀
  pub fits : Fits (read page (lines rest)) (length segment)
  pub left : applied (read page (lines rest)) segment ≡ applied (said text) segment₀

pub store-start : (text segment : List ℕ) → Fits (said text) (length segment) → Storing text segment text segment 0
unfolding said
store-start text segment h = record { small = omega arith; same = refl; fits = h; left = refl }

-- the next record has no fault
pub known-asked : {text segment₀ rest segment : List ℕ} {page : ℕ} → Storing text segment₀ rest segment page → (first (lines rest) ≡ 0) × (12 ≤ length rest)
known-asked {text} {segment₀} {rest} {segment} {page} j = by (seen rest)
  where
    never : (n : ℕ) → read page (lines rest) ≡ refused n → ⊥
    never n e = rw e at j.fits

    by : Seen rest → (first (lines rest) ≡ 0) × (12 ≤ length rest)
    by (bad i) = absurd (never 12 (refused-read (lines rest) 11 page i))
    by (wrong i f) = absurd (never 13 (refused-read (lines rest) 12 page i))
    by (passed g) = (passed_first g, omega (arith, (passed-long g).1))

-- the part that the code lends
pub chars_part : (text : List ℕ) (at n : ℕ) → take (at + 9 + 2 * n - (at + 9)) (drop (at + 9) text) ≡ chars_at text at n
chars_part text at n = rw add-sub_cancel_left

pub piece-asked : {text : List ℕ} {long at page a n : ℕ} → Placed text long at page a n
    → (length (take (at + 9 + 2 * n - (at + 9)) (drop (at + 9) text)) ≡ 2 * n) × (AllBytes (bytes_of (take (at + 9 + 2 * n - (at + 9)) (drop (at + 9) text))) × (0 < n → 65536 * page + a + n ≤ long))
piece-asked {text} {long} {at} {page} {a} {n} p =
    let w = p.within in
    (simp (length-take, length-drop) (omega arith), (rw (chars_part text at n) p.bytes, p.room))

pub data_stored : (text xs : List ℕ) (at start n : ℕ) {ys : List ℕ} → ys ≡ apply (piece_at start n (bytes_of (take (at + 9 + 2 * n - (at + 9)) (drop (at + 9) text)))) xs
    → (at + 9 + 2 * n + 3 ≡ at + (12 + 2 * n)) × (ys ≡ apply (piece_at start n (bytes_of (chars_at text at n))) xs)
data_stored text xs at start n e = (omega arith, rw (chars_part text at n) at e)

module _ {text segment₀ rest segment : List ℕ} {page : ℕ} {r : Record} (j : Storing text segment₀ rest segment page) (e : Ok r ≡ record_in (lines rest)) where
  kind : {k : Record} → r ≡ k → record_in (lines rest) ≡ Ok k
  kind h = sym e ∙ ap Ok h

  pub store-ended : r ≡ End → segment ≡ applied (said text) segment₀
  store-ended h = rw ((end_read rest (kind h) refl).reads page, applied-ending) at j.left

  pub to_page : {q : ℕ} → r ≡ Page q → 16 ≤ length rest
  to_page {q} h = (page-read rest (kind h) q refl).fits

  pub store-page : {q : ℕ} → r ≡ Page q → Storing text segment₀ (part rest 16) segment q
  store-page {q} h =
      let d = page-read rest (kind h) q refl in
      record {
        small = d.small;
        same = j.same;
        fits = rw (part-whole rest 16) (rw (d.reads page) at j.fits);
        left = rw (part-whole rest 16) (rw (d.reads page) at j.left);
      }

  parts : (a n : ℕ) → r ≡ Data a n
      → Fits (read page (lines (drop (12 + 2 * n) rest))) (length segment) × (0 < n → 65536 * page + a + n ≤ length segment)
  parts a n h =
      let d = data_read rest (kind h) a n refl in
      fits_after (65536 * page + a) n (length segment) (data_in rest n) (read page (lines (drop (12 + 2 * n) rest))) d.long (rw (d.reads page) at j.fits)

  pub data_asked : {a n : ℕ} → r ≡ Data a n → Placed rest (length segment) 0 page a n
  data_asked {a} {n} h =
      let d = data_read rest (kind h) a n refl in
      record { within = omega (arith, d.fits); page_small = j.small; address_small = d.page; bytes = d.bytes; room = (parts a n h).1 }

  pub store_data : {a n next : ℕ} {ys : List ℕ} → r ≡ Data a n → next ≡ 12 + 2 * n → ys ≡ apply (piece_at (65536 * page + a) n (bytes_of (chars_at rest 0 n))) segment
      → Storing text segment₀ (part rest next) ys page
  store_data {a} {n} {next} {ys} h m i =
      let d = data_read rest (kind h) a n refl in
      let k : ys ≡ apply (piece_in rest page a n) segment = i in
      let l : length ys ≡ length segment = ap length k ∙ apply-long (65536 * page + a) n (data_in rest n) segment in
      let t = rw (d.reads page) at j.fits in
      record {
        small = j.small;
        same = l ∙ j.same;
        fits = rw (m, l, part-whole rest (12 + 2 * n)) (parts a n h).0;
        left = rw (m, k, part-whole rest (12 + 2 * n)) (sym (applied_after (65536 * page + a) n (length segment) (data_in rest n) (read page (lines (drop (12 + 2 * n) rest))) segment t) ∙ (rw (d.reads page) at j.left));
      }

pub ruleset store-cases = (store-start, store-ended, store-page, store_data)

-- ---- a text that was judged may be stored

pub judged_fits : (x : Said) (end n : ℕ) {j : Result ℕ Fault} → j ≡ judged_as 0 x → j ≡ Ok end → end ≤ n → Fits x n
judged_fits (refused k) end n p q h = by (eqb k 12) refl
  where
    by : (b : Bool) → eqb k 12 ≡ b → ⊥
    by true e = let r = rw e at p in let z : ◌≡◌ {A = ℕ} 0 1 = cc in omega arith
    by false e = let r = rw e at p in let z : ◌≡◌ {A = ℕ} 0 1 = cc in omega arith
judged_fits (loads ps) end n p q h = let e : end ≡ max 0 (farthest ps) = cc in omega arith
