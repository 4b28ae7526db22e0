-- What a text says, by the kind of its first record.
-- Assumes nothing.
use mathlib.Core.Path.{◌≡◌, refl, sym, ◌∙◌, ap}
use mathlib.Core.List.{List, [], ◌∷◌, ◌++◌}
use Prim.Native.Nat.{ℕ, zero, suc, ◌+◌, ◌*◌, ◌≤◌, ◌<◌}
use native.Mathlib.Omega.{arith}
use lib.ListN.{drop, length, length-drop, length-take, take}
use lib.Seq.{drop-append-le, drop_at, drop-drop, take-append-le}
use Rattle.bits.specs.Bytes.{AllBytes}
use Rattle.bits.proofs.ByteLists.{bytes_drop, bytes_take}
use Rattle.hexfile.specs.Record.{address, byte, bytes_of, count, data_of, page_of, type}
use Rattle.hexfile.specs.Text.{after, ending, lines, Piece, piece_at, read, refused}
use Rattle.hexfile.proofs.LineLaws.{below}
use Rattle.hexfile.proofs.ReadLaws.{bad, ends, held, holds, Kind, Passed, passed, passed-long, passed-read, refused-read, Seen, seen, turns, wrong}
use Rattle.hexread.specs.Answers.{record_in}
use Rattle.hexread.specs.declared.record.Record.{Record}
use Rattle.std.specs.Prelude.{Result, Ok, Err}
use Rattle.hexread.specs.declared.record.Fault.{Fault}
use Rattle.hexread.specs.declared.record.Fault.TheVariants.{Malformed, WrongSum}
use Rattle.hexread.specs.declared.record.Record.TheVariants.{Data, End, Page}
use Rattle.hexread.proofs.LineLaws.{malformed_in, passed_in, wrong_in}

never : {A : Type 0} → ◌≡◌ {A = ℕ} 0 1 → A
never z = absurd (omega arith)

-- ---- the rest of a text, and the data of its first record

tail : {s : List ℕ} (g : Passed s) (n : ℕ) → count (held g) ≡ n → (drop (12 + 2 * n) s ≡ g.rest) × (12 + 2 * n ≤ length s)
tail {s} g n e =
    let l = passed-long g in
    let a = l.0 in
    let b = l.1 in
    let k : 12 + 2 * n ≡ suc (length g.cs + 1) = omega arith in
    (rw (g.begins, k, ← drop-drop 1 (length g.cs) (g.cs ++ (10 ∷ g.rest)), drop_at g.cs (10 ∷ g.rest) (length g.cs) refl), omega arith)

abbrev pub data_in : List ℕ → ℕ → List ℕ
data_in s n = bytes_of (take (2 * n) (drop 9 s))

abbrev pub piece_in : List ℕ → ℕ → ℕ → ℕ → List Piece
piece_in s p a n = piece_at (65536 * p + a) n (data_in s n)

-- the bytes of a part of the characters
take-bytes : (k : ℕ) (cs : List ℕ) → 2 * k ≤ length cs → take k (bytes_of cs) ≡ bytes_of (take (2 * k) cs)
take-bytes zero cs h = refl
take-bytes (suc k) [] h = absurd (omega arith)
take-bytes (suc k) (a ∷ []) h = absurd (omega arith)
take-bytes (suc k) (a ∷ b ∷ cs) h =
    let e : 2 * suc k ≡ suc (suc (2 * k)) = omega arith in
    rw e (ap (λ bs. byte a b ∷ bs) (take-bytes k cs (omega arith)))

drop-bytes : (k : ℕ) (cs : List ℕ) → 2 * k ≤ length cs → drop k (bytes_of cs) ≡ bytes_of (drop (2 * k) cs)
drop-bytes zero cs h = refl
drop-bytes (suc k) [] h = absurd (omega arith)
drop-bytes (suc k) (a ∷ []) h = absurd (omega arith)
drop-bytes (suc k) (a ∷ b ∷ cs) h =
    let e : 2 * suc k ≡ suc (suc (2 * k)) = omega arith in
    rw e (drop-bytes k cs (omega arith))

data_line : (cs rest : List ℕ) (n : ℕ) → length cs ≡ 2 * n + 10 → take n (drop 4 (bytes_of cs)) ≡ bytes_of (take (2 * n) (drop 8 (cs ++ (10 ∷ rest))))
data_line cs rest n h =
    let b : length (drop 8 cs) ≡ 2 * n + 2 = simp length-drop (omega arith) in
    rw (drop-bytes 4 cs (omega arith), take-bytes n (drop 8 cs) (omega arith), drop-append-le 8 cs (10 ∷ rest) (omega arith), take-append-le (2 * n) (drop 8 cs) (10 ∷ rest) (omega arith))

data_of_lem : {s : List ℕ} (g : Passed s) (n : ℕ) → count (held g) ≡ n → data_of (held g) ≡ data_in s n
data_of_lem g n e =
    let l = (passed-long g).0 in
    rw (g.begins, e) (data_line g.cs g.rest n (omega arith))

-- ---- each kind of first record

pub record EndRead (s : List ℕ) : Type 0 where
  pub fits : 12 ≤ length s
  pub reads : (p : ℕ) → read p (lines s) ≡ ending (lines (drop 12 s))

pub record PageRead (s : List ℕ) (q : ℕ) : Type 0 where
  pub fits : 16 ≤ length s
  pub small : q < 65536
  pub reads : (p : ℕ) → read p (lines s) ≡ read q (lines (drop 16 s))

pub record DataRead (s : List ℕ) (a n : ℕ) : Type 0 where
  pub fits : 12 + 2 * n ≤ length s
  pub page : a + n ≤ 65536
  pub long : length (data_in s n) ≡ n
  pub bytes : AllBytes (data_in s n)
  pub reads : (p : ℕ) → read p (lines s) ≡ after (piece_in s p a n) (read p (lines (drop (12 + 2 * n) s)))

module _ (s : List ℕ) {k : Result Record Fault} (h : record_in (lines s) ≡ k) where
  pub bad-read : k ≡ Err Malformed → (p : ℕ) → read p (lines s) ≡ refused 12
  bad-read e p = by (seen s)
    where
      by : Seen s → read p (lines s) ≡ refused 12
      by (bad i) = refused-read (lines s) 11 p i
      by (wrong i f) = let w = wrong_in (lines s) i in never (cc)
      by (passed g) = kind g.kind
        where
          kind : Kind (type (held g)) (address (held g)) (count (held g)) → read p (lines s) ≡ refused 12
          kind (holds t x) = let i = rw t at (passed_in g) in never (cc)
          kind (ends t x y) = let i = rw t at (passed_in g) in never (cc)
          kind (turns t x y) = let i = rw t at (passed_in g) in never (cc)

  pub wrong-read : k ≡ Err WrongSum → (p : ℕ) → read p (lines s) ≡ refused 13
  wrong-read e p = by (seen s)
    where
      by : Seen s → read p (lines s) ≡ refused 13
      by (bad i) = let w = malformed_in (lines s) i in never (cc)
      by (wrong i f) = refused-read (lines s) 12 p i
      by (passed g) = kind g.kind
        where
          kind : Kind (type (held g)) (address (held g)) (count (held g)) → read p (lines s) ≡ refused 13
          kind (holds t x) = let i = rw t at (passed_in g) in never (cc)
          kind (ends t x y) = let i = rw t at (passed_in g) in never (cc)
          kind (turns t x y) = let i = rw t at (passed_in g) in never (cc)

  pub end_read : k ≡ Ok End → EndRead s
  end_read e = by (seen s)
    where
      by : Seen s → EndRead s
      by (bad i) = let w = malformed_in (lines s) i in never (cc)
      by (wrong i f) = let w = wrong_in (lines s) i in never (cc)
      by (passed g) = kind g.kind
        where
          kind : Kind (type (held g)) (address (held g)) (count (held g)) → EndRead s
          kind (holds t x) = let i = rw t at (passed_in g) in never (cc)
          kind (turns t x y) = let i = rw t at (passed_in g) in never (cc)
          kind (ends t x y) = let d = tail g 0 y in record { fits = d.1; reads = λ p. passed-read g p ∙ rw (t, d.0) refl }

  pub page-read : (q : ℕ) → k ≡ Ok (Page q) → PageRead s q
  page-read q e = by (seen s)
    where
      by : Seen s → PageRead s q
      by (bad i) = let w = malformed_in (lines s) i in never (cc)
      by (wrong i f) = let w = wrong_in (lines s) i in never (cc)
      by (passed g) = kind g.kind
        where
          kind : Kind (type (held g)) (address (held g)) (count (held g)) → PageRead s q
          kind (holds t x) = let i = rw t at (passed_in g) in never (cc)
          kind (ends t x y) = let i = rw t at (passed_in g) in never (cc)
          kind (turns t x y) =
              let i = rw t at (passed_in g) in
              let same : page_of (held g) ≡ q = cc in
              let d = tail g 2 y in
              let high = below (held g) 4 g.whole.bytes in
              let low = below (held g) 5 g.whole.bytes in
              record { fits = d.1; small = omega arith; reads = λ p. passed-read g p ∙ rw (t, d.0, same) refl }

  pub data_read : (a n : ℕ) → k ≡ Ok (Data a n) → DataRead s a n
  data_read a n e = by (seen s)
    where
      by : Seen s → DataRead s a n
      by (bad i) = let w = malformed_in (lines s) i in never (cc)
      by (wrong i f) = let w = wrong_in (lines s) i in never (cc)
      by (passed g) = kind g.kind
        where
          kind : Kind (type (held g)) (address (held g)) (count (held g)) → DataRead s a n
          kind (ends t x y) = let i = rw t at (passed_in g) in never (cc)
          kind (turns t x y) = let i = rw t at (passed_in g) in never (cc)
          kind (holds t x) =
              let i = rw t at (passed_in g) in
              let m : address (held g) ≡ a = cc in
              let c : count (held g) ≡ n = cc in
              let r = tail g n c in
              let d = data_of_lem g n c in
              let z = g.whole.size in
              let size : length (data_of (held g)) ≡ n = simp (length-take, length-drop) (omega arith) in
              record {
                fits = r.1;
                page = omega arith;
                long = ap length (sym d) ∙ size;
                bytes = rw (← d) (bytes_take (count (held g)) (drop 4 (held g)) (bytes_drop 4 (held g) g.whole.bytes));
                reads = λ p. passed-read g p ∙ rw (t, d, c, m, r.0) refl;
              }

-- no text is no record
pub read_none : (p : ℕ) → read p (lines []) ≡ refused 12
unfolding read lines
read_none p = refl
