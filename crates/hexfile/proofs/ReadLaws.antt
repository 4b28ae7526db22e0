-- What a text says, by its first record.
-- Assumes nothing.
use mathlib.Core.Path.{◌≡◌, refl, ◌∙◌, ap}
use mathlib.Core.Bool.{Bool, true, false, true≢false, not}
use mathlib.Core.List.{List, [], ◌∷◌, ◌++◌}
use Prim.Native.Nat.{ℕ, zero, suc, ◌+◌, ◌*◌, ◌≤◌}
use native.Mathlib.Omega.{arith}
use lib.Dec.{eqb, ltb}
use lib.ListN.{length, length-append}
use borrow.Author.Tests.{eq-eqb, eqb-true, le-ltb, ltb-false, not-false}
use Rattle.bits.specs.Bytes.{AllBytes}
use Rattle.hexfile.specs.Accounted.{Begins, Whole}
use Rattle.hexfile.specs.Record.{address, bytes_of, count, faults_of, inside, malformed, no_byte, no_colon, page_of, some, type, verdict, wrong_count, wrong_sum}
use Rattle.hexfile.specs.Text.{after, ending, first, go, lines, pieces, read, refused}
use Rattle.hexfile.proofs.LineLaws.{all_bytes, bytes_all, ended, even, lines-line, or_false, plain-bytes, Split, split, unended, verdict-lines}

-- ---- the kind of a record

pub data Kind (t a n : ℕ) : Type 0 where
  holds : t ≡ 0 → a + n ≤ 65536 → Kind t a n
  ends : t ≡ 1 → a ≡ 0 → n ≡ 0 → Kind t a n
  turns : t ≡ 4 → a ≡ 0 → n ≡ 2 → Kind t a n

same : (a b : ℕ) → not (eqb a b) ≡ false → a ≡ b
same a b h = eqb-true a b (not-false (eqb a b) h)

pub kind_of : (t a n : ℕ) → some (faults_of t a n) ≡ false → Kind t a n
kind_of zero a n h = holds refl (ltb-false 65536 (a + n) (or_false (ltb 65536 (a + n)) false h).0)
kind_of (suc zero) a n h =
    let f = or_false (not (eqb a 0)) _ h in
    ends refl (same a 0 f.0) (same n 0 (or_false (not (eqb n 0)) false f.1).0)
kind_of (suc (suc zero)) a n h = absurd (true≢false h)
kind_of (suc (suc (suc zero))) a n h = absurd (true≢false h)
kind_of (suc (suc (suc (suc zero)))) a n h =
    let f = or_false (not (eqb a 0)) _ h in
    turns refl (same a 0 f.0) (same n 2 (or_false (not (eqb n 2)) false f.1).0)
kind_of (suc (suc (suc (suc (suc t))))) a n h = absurd (true≢false h)

pub no_fault : {t a n : ℕ} → Kind t a n → some (faults_of t a n) ≡ false
no_fault {t} {a} {n} (holds e h) = rw (e, le-ltb 65536 (a + n) h)
no_fault (ends e h k) = rw (e, h, k)
no_fault (turns e h k) = rw (e, h, k)

-- ---- the first record

pub refused-read : (ls : List (List ℕ)) (n p : ℕ) → first ls ≡ suc n → read p ls ≡ refused (suc n)
unfolding read
refused-read [] n p e = ap refused e
refused-read (line ∷ rest) n p e = rw e

-- a text that begins with a record without fault
pub record Passed (s : List ℕ) : Type 0 where
  pub cs : List ℕ
  pub rest : List ℕ
  pub begins : Begins s cs rest
  pub split : lines s ≡ (58 ∷ cs) ∷ lines rest
  pub sound : verdict (58 ∷ cs) ≡ 0
  pub whole : Whole cs (bytes_of cs)
  pub kind : Kind (type (bytes_of cs)) (address (bytes_of cs)) (count (bytes_of cs))

-- its bytes
abbrev pub held : {s : List ℕ} → Passed s → List ℕ
held g = bytes_of g.cs

-- a text that begins with a colon, as many bytes as their count says, and a line feed
pub record Formed (s : List ℕ) : Type 0 where
  pub cs : List ℕ
  pub rest : List ℕ
  pub begins : Begins s cs rest
  pub bytes : AllBytes (bytes_of cs)
  pub size : length (bytes_of cs) ≡ count (bytes_of cs) + 5

pub data Seen (s : List ℕ) : Type 0 where
  bad : first (lines s) ≡ 12 → Seen s
  wrong : first (lines s) ≡ 13 → Formed s → Seen s
  passed : Passed s → Seen s

-- what such a text says
pub passed-read : {s : List ℕ} (g : Passed s) (p : ℕ) → read p (lines s) ≡ go 0 (type (held g))
    (after (pieces p (held g)) (read p (lines g.rest))) (ending (lines g.rest)) (read (page_of (held g)) (lines g.rest))
unfolding read
passed-read g p = rw (g.split, verdict-lines (58 ∷ g.cs) g.rest, g.sound)

-- how many digits the record has, and how many characters the text
pub passed-long : {s : List ℕ} (g : Passed s) → (length g.cs ≡ 2 * count (held g) + 10) × (length s ≡ 2 * count (held g) + 12 + length g.rest)
passed-long g =
    let e = even g.cs g.whole.bytes in
    let n = g.whole.size in
    let l = ap length g.begins in
    let k = length-append g.cs (10 ∷ g.rest) in
    (omega arith, omega arith)

sound-line : (cs : List ℕ) → Whole cs (bytes_of cs) → Kind (type (bytes_of cs)) (address (bytes_of cs)) (count (bytes_of cs)) → verdict (58 ∷ cs) ≡ 0
unfolding verdict malformed wrong_sum
sound-line cs w k = rw (all_bytes (bytes_of cs) w.bytes, eq-eqb (length (bytes_of cs)) (count (bytes_of cs) + 5) w.size, no_fault k, w.sums)

pub passes : (s cs bs rest : List ℕ) → Begins s cs rest → Whole cs bs → Kind (type bs) (address bs) (count bs) → Passed s
passes s cs bs rest b w k =
    let e = w.made in
    let w' : Whole cs (bytes_of cs) = rw e w in
    let k' : Kind (type (bytes_of cs)) (address (bytes_of cs)) (count (bytes_of cs)) = rw e k in
    record {
      cs = cs;
      rest = rest;
      begins = b;
      split = ap lines b ∙ lines-line (58 ∷ cs) rest ((λ i. omega arith), plain-bytes cs w'.bytes);
      sound = sound-line cs w' k';
      whole = w';
      kind = k';
    }

pub whole-read : (s cs bs rest : List ℕ) → Begins s cs rest → Whole cs bs → Kind (type bs) (address bs) (count bs) → (p : ℕ)
    → read p (lines s) ≡ go 0 (type bs) (after (pieces p bs) (read p (lines rest))) (ending (lines rest)) (read (page_of bs) (lines rest))
unfolding passes
whole-read s cs bs rest b w k p = let e = w.made in rw (← e) (passed-read (passes s cs bs rest b w k) p)

pub passed-formed : {s : List ℕ} → Passed s → Formed s
passed-formed g = record { cs = g.cs; rest = g.rest; begins = g.begins; bytes = g.whole.bytes; size = g.whole.size }

pub passed_first : {s : List ℕ} → Passed s → first (lines s) ≡ 0
passed_first g = rw (g.split, verdict-lines (58 ∷ g.cs) g.rest) g.sound

-- a line that is not malformed is a record, but for its checksum
formed : (s l rest : List ℕ) → s ≡ l ++ (10 ∷ rest) → malformed l ≡ false
    → (f : Formed s) × ((Kind (type (bytes_of f.cs)) (address (bytes_of f.cs)) (count (bytes_of f.cs))) × (inside l ≡ bytes_of f.cs))
unfolding malformed
formed s [] rest e m = absurd (true≢false m)
formed s (x ∷ cs) rest e m =
    let bs = bytes_of cs in
    let a = or_false (no_colon (x ∷ cs)) _ m in
    let b = or_false (no_byte bs) _ a.1 in
    let c = or_false (wrong_count bs) _ b.1 in
    let colon : x ≡ 58 = same x 58 a.0 in (
      record {
        cs = cs;
        rest = rest;
        begins = e ∙ ap (λ y. y ∷ (cs ++ (10 ∷ rest))) colon;
        bytes = bytes_all bs b.0;
        size = same (length bs) (count bs + 5) c.0;
      },
      (kind_of (type bs) (address bs) (count bs) c.1, refl),
    )

good : (s l rest : List ℕ) → s ≡ l ++ (10 ∷ rest) → malformed l ≡ false → wrong_sum l ≡ false → Passed s
unfolding wrong_sum
good s l rest e m w =
    let r = formed s l rest e m in
    let f = r.0 in
    let i = r.1.1 in
    passes s f.cs (bytes_of f.cs) f.rest f.begins (record { made = refl; bytes = f.bytes; size = f.size; sums = same _ 0 (rw i at w) }) r.1.0

pub seen : (s : List ℕ) → Seen s
unfolding verdict
seen s = by (split s)
  where
    by : Split s → Seen s
    by (unended p) = bad (rw p)
    by (ended l rest p q) = judged (malformed l) (wrong_sum l) refl refl
      where
        judged : (a b : Bool) → malformed l ≡ a → wrong_sum l ≡ b → Seen s
        judged true b m w = bad (rw (q, verdict-lines l rest, m))
        judged false true m w = wrong (rw (q, verdict-lines l rest, m, w)) (formed s l rest p m).0
        judged false false m w = passed (good s l rest p m w)
