-- The lines of a text, and the bytes of a line.
-- Assumes nothing.
use mathlib.Core.Path.{◌≡◌, refl, ap}
use mathlib.Core.Logic.{◌≢◌}
use mathlib.Core.Bool.{Bool, true, false, true≢false, cond, not, ◌&&◌, ◌||◌}
use mathlib.Core.List.{List, [], ◌∷◌, ◌++◌}
use Prim.Native.Nat.{ℕ, zero, suc, ◌+◌, ◌*◌, ◌<◌}
use native.Mathlib.Omega.{arith}
use lib.Dec.{eqb, ltb}
use lib.ListN.{get_or, length}
use borrow.Author.Tests.{eqb-true, lt-ltb, ltb-true, ne_eqb, not-false}
use Rattle.bits.specs.Bytes.{AllBytes}
use Rattle.hexfile.specs.Record.{byte, bytes_of, digit, no_byte, verdict}
use Rattle.hexfile.specs.Text.{begin, ending, lines, loads, refused, verdict_in}

-- ---- lines

-- no line feed
abbrev pub Plain : List ℕ → Type 0
Plain [] = Unit
Plain (c ∷ cs) = (c ≢ 10) × Plain cs

pub lines-line : (line rest : List ℕ) → Plain line → lines (line ++ (10 ∷ rest)) ≡ line ∷ lines rest
unfolding lines
lines-line [] rest p = refl
lines-line (c ∷ cs) rest p = rw (ne_eqb c 10 p.0, lines-line cs rest p.1)

pub lines_none : lines [] ≡ [] ∷ []
unfolding lines
lines_none = refl

-- lines are at least one
begun : (l : List ℕ) (c : ℕ) (ls : List (List ℕ)) → verdict_in l (begin c ls) ≡ verdict l
begun l c [] = refl
begun l c (x ∷ ls) = refl

pub verdict-lines : (l s : List ℕ) → verdict_in l (lines s) ≡ verdict l
unfolding lines
verdict-lines l [] = refl
verdict-lines l (c ∷ cs) = go (eqb c 10) refl
  where
    go : (b : Bool) → eqb c 10 ≡ b → verdict_in l (lines (c ∷ cs)) ≡ verdict l
    go true e = rw e
    go false e = rw e (begun l c (lines cs))

-- a text has no line feed, or one after its first line
pub data Split (s : List ℕ) : Type 0 where
  unended : lines s ≡ s ∷ [] → Split s
  ended : (l rest : List ℕ) → s ≡ l ++ (10 ∷ rest) → lines s ≡ l ∷ lines rest → Split s

pub split : (s : List ℕ) → Split s
unfolding lines
split [] = unended refl
split (c ∷ cs) = go (eqb c 10) refl (split cs)
  where
    go : (b : Bool) → eqb c 10 ≡ b → Split cs → Split (c ∷ cs)
    go true e h = ended [] cs (ap (λ x. x ∷ cs) (eqb-true c 10 e)) (rw e)
    go false e (unended p) = unended (rw (e, p))
    go false e (ended l rest p q) = ended (c ∷ l) rest (ap (λ t. c ∷ t) p) (rw (e, q))

-- ---- the end of a text

pub ending_none : ending (lines []) ≡ loads []
unfolding lines
ending_none = refl

pub ending_more : (s : List ℕ) → 0 < length s → ending (lines s) ≡ refused 12
unfolding lines
ending_more [] h = absurd (omega arith)
ending_more (c ∷ cs) h = by (eqb c 10) refl
  where
    first : (ls : List (List ℕ)) → ending (begin c ls) ≡ refused 12
    first [] = refl
    first (l ∷ ls) = refl

    after_feed : (s : List ℕ) → ending ([] ∷ lines s) ≡ refused 12
    after_feed [] = refl
    after_feed (d ∷ ds) = two (eqb d 10) (lines ds)
      where
        two : (b : Bool) (ls : List (List ℕ)) → ending ([] ∷ cond b ([] ∷ ls) (begin d ls)) ≡ refused 12
        two true ls = refl
        two false [] = refl
        two false (l ∷ ls) = refl

    by : (b : Bool) → eqb c 10 ≡ b → ending (lines (c ∷ cs)) ≡ refused 12
    by true e = rw e (after_feed cs)
    by false e = rw e (first (lines cs))

-- ---- bytes

pub or_false : (a b : Bool) → (a || b) ≡ false → (a ≡ false) × (b ≡ false)
or_false true b h = absurd (true≢false h)
or_false false b h = (refl, h)

pub all_bytes : (bs : List ℕ) → AllBytes bs → no_byte bs ≡ false
all_bytes [] h = refl
all_bytes (b ∷ bs) h = rw (lt-ltb b 256 h.0) (all_bytes bs h.1)

pub bytes_all : (bs : List ℕ) → no_byte bs ≡ false → AllBytes bs
bytes_all [] h = tt
bytes_all (b ∷ bs) h =
    let r = or_false (not (ltb b 256)) (no_byte bs) h in
    (ltb-true b 256 (not-false (ltb b 256) r.0), bytes_all bs r.1)

pub below : (bs : List ℕ) (k : ℕ) → AllBytes bs → get_or bs k 0 < 256
below [] k h = omega arith
below (b ∷ bs) zero h = h.0
below (b ∷ bs) (suc k) h = below bs k h.1

-- bytes are two characters each
pub even : (cs : List ℕ) → AllBytes (bytes_of cs) → length cs ≡ 2 * length (bytes_of cs)
even [] h = refl
even (a ∷ []) h = absurd (omega (arith, h.0))
even (a ∷ b ∷ cs) h = omega (arith, even cs h.1)

-- the byte at a place
pub field : (k : ℕ) (cs : List ℕ) → 2 * k + 1 < length cs → get_or (bytes_of cs) k 0 ≡ byte (get_or cs (2 * k) 0) (get_or cs (2 * k + 1) 0)
field k [] h = absurd (omega arith)
field k (a ∷ []) h = absurd (omega arith)
field zero (a ∷ b ∷ cs) h = refl
field (suc k) (a ∷ b ∷ cs) h =
    let e : 2 * suc k ≡ suc (suc (2 * k)) = omega arith in
    let f : 2 * suc k + 1 ≡ suc (suc (2 * k + 1)) = omega arith in
    rw (f, e) (field k cs (omega arith))

-- ---- bytes hold no line feed

feed_first : (b : ℕ) → byte 10 b ≡ 256
unfolding byte digit
feed_first b = refl

feed_second : (a : ℕ) → byte a 10 ≡ 256
unfolding byte digit
feed_second a = go (ltb (digit a) 16)
  where
    go : (x : Bool) → cond (x && false) (16 * digit a + 256) 256 ≡ 256
    go true = refl
    go false = refl

pub plain-bytes : (cs : List ℕ) → AllBytes (bytes_of cs) → Plain cs
plain-bytes [] h = tt
plain-bytes (a ∷ []) h = absurd (omega (arith, h.0))
plain-bytes (a ∷ b ∷ cs) h =
    let k = h.0 in (
      (λ e. let f : byte a b ≡ 256 = rw e (feed_first b) in omega arith),
      ((λ e. let f : byte a b ≡ 256 = rw e (feed_second a) in omega arith), plain-bytes cs h.1),
    )
