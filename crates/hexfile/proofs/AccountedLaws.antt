-- Every byte of a text that is read is accounted for.
-- Assumes nothing.
use mathlib.Core.Path.{◌≡◌, refl, sym, ◌∙◌}
use mathlib.Core.List.{List, [], ◌∷◌, ◌++◌}
use Prim.Native.Nat.{ℕ, zero, suc, ◌<◌}
use native.Mathlib.Omega.{arith}
use lib.ListN.{length}
use Rattle.hexfile.specs.Accounted.{Accounted, data_record, end_record, malformed, Outcome, page_record, spelt, Spells, wrong}
use Rattle.hexfile.specs.Record.{address, count, page_of, type}
use Rattle.hexfile.specs.Text.{after, ending, go, lines, loads, Piece, pieces, read, refused, Said, said}
use Rattle.hexfile.proofs.LineLaws.{ending_more, ending_none}
use Rattle.hexfile.proofs.ReadLaws as the
use Rattle.hexfile.proofs.ReadLaws.{ends, held, holds, Kind, passed-long, passed-read, refused-read, Seen, seen, turns, whole-read}

never : {A : Type 0} (x : Said) (n : ℕ) (ps : List Piece) → x ≡ refused n → x ≡ loads ps → A
never x n ps p q = let z : ◌≡◌ {A = ℕ} 0 1 = cc in absurd (omega arith)

-- ---- what is spelt is read

reads_from : {page : ℕ} {text : List ℕ} {ps : List Piece} → Spells page text ps → read page (lines text) ≡ loads ps
reads_from {page} {text} (data_record cs bs rest qs b w t a e s) =
    whole-read text cs bs rest b w (holds t a) page ∙ rw (t, reads_from s, e)
reads_from {page} {text} (page_record cs bs rest b w t a n s) =
    whole-read text cs bs rest b w (turns t a n) page ∙ rw (t, reads_from s)
reads_from {page} {text} (end_record cs bs b w t a n e) =
    whole-read text cs bs [] b w (ends t a n) page ∙ rw (t, ending_none, e)

-- ---- what is read is spelt

ending-loads : (s : List ℕ) (ps : List Piece) → ending (lines s) ≡ loads ps → (s ≡ []) × (ps ≡ [])
ending-loads [] ps h = let e : loads [] ≡ loads ps = sym ending_none ∙ h in (refl, cc)
ending-loads (c ∷ cs) ps h = never (ending (lines (c ∷ cs))) 12 ps (ending_more (c ∷ cs) (omega arith)) h

-- what comes before what a text says
before-loads : (ps rs : List Piece) (x : Said) → after ps x ≡ loads rs → (qs : List Piece) × ((x ≡ loads qs) × (rs ≡ ps ++ qs))
before-loads ps rs (refused n) h = never (refused n) n rs refl h
before-loads ps rs (loads qs) h = (qs, (refl, cc))

-- for a text, if it holds for all shorter ones
built_step : (page : ℕ) (s : List ℕ) (ps : List Piece) → ((q : ℕ) (t : List ℕ) (qs : List Piece) → length t < length s → read q (lines t) ≡ loads qs → Spells q t qs)
    → read page (lines s) ≡ loads ps → Spells page s ps
built_step page s ps shorter r = by (seen s)
  where
    by : Seen s → Spells page s ps
    by (the.bad i) = never (read page (lines s)) 12 ps (refused-read (lines s) 11 page i) r
    by (the.wrong i f) = never (read page (lines s)) 13 ps (refused-read (lines s) 12 page i) r
    by (the.passed g) = kind g.kind
      where
        kind : Kind (type (held g)) (address (held g)) (count (held g)) → Spells page s ps
        kind (holds t a) =
            let m = before-loads (pieces page (held g)) ps (read page (lines g.rest)) (sym (rw t at (passed-read g page)) ∙ r) in
            data_record g.cs (held g) g.rest m.0 g.begins g.whole t a m.1.1 (shorter page g.rest m.0 (omega (arith, passed-long g)) m.1.0)
        kind (turns t a e) =
            page_record g.cs (held g) g.rest g.begins g.whole t a e
            (shorter (page_of (held g)) g.rest ps (omega (arith, passed-long g)) (sym (rw t at (passed-read g page)) ∙ r))
        kind (ends t a e) =
            let m = ending-loads g.rest ps (sym (rw t at (passed-read g page)) ∙ r) in
            end_record g.cs (held g) (rw m.0 at g.begins) g.whole t a e m.1

built_from : (n page : ℕ) (s : List ℕ) (ps : List Piece) → length s < n → read page (lines s) ≡ loads ps → Spells page s ps
built_from zero page s ps h r = absurd (omega arith)
built_from (suc n) page s ps h r = built_step page s ps (λ q t qs i. built_from n q t qs (omega arith)) r

-- ---- no other refusal

data Told (x : Said) : Type 0 where
  read_as : (ps : List Piece) → x ≡ loads ps → Told x
  by_12 : x ≡ refused 12 → Told x
  by_13 : x ≡ refused 13 → Told x

told_after : (ps : List Piece) (x : Said) → Told x → Told (after ps x)
told_after ps x (read_as qs e) = read_as (ps ++ qs) (rw e)
told_after ps x (by_12 e) = by_12 (rw e)
told_after ps x (by_13 e) = by_13 (rw e)

told-ending : (s : List ℕ) → Told (ending (lines s))
told-ending [] = read_as [] ending_none
told-ending (c ∷ cs) = by_12 (ending_more (c ∷ cs) (omega arith))

told_step : (page : ℕ) (s : List ℕ) → ((q : ℕ) (t : List ℕ) → length t < length s → Told (read q (lines t))) → Told (read page (lines s))
told_step page s shorter = by (seen s)
  where
    by : Seen s → Told (read page (lines s))
    by (the.bad i) = by_12 (refused-read (lines s) 11 page i)
    by (the.wrong i f) = by_13 (refused-read (lines s) 12 page i)
    by (the.passed g) = rw (passed-read g page) (kind g.kind)
      where
        kind : Kind (type (held g)) (address (held g)) (count (held g))
            → Told (go 0 (type (held g)) (after (pieces page (held g)) (read page (lines g.rest))) (ending (lines g.rest)) (read (page_of (held g)) (lines g.rest)))
        kind (holds t a) = rw t (told_after (pieces page (held g)) (read page (lines g.rest)) (shorter page g.rest (omega (arith, passed-long g))))
        kind (turns t a e) = rw t (shorter (page_of (held g)) g.rest (omega (arith, passed-long g)))
        kind (ends t a e) = rw t (told-ending g.rest)

told : (n page : ℕ) (s : List ℕ) → length s < n → Told (read page (lines s))
told zero page s h = absurd (omega arith)
told (suc n) page s h = told_step page s (λ q t i. told n q t (omega arith))

outcome : (text : List ℕ) → Told (read 0 (lines text)) → Outcome text
unfolding said
outcome text (read_as ps e) = spelt ps (built_from (suc (length text)) 0 text ps (omega arith) e)
outcome text (by_12 e) = malformed e
outcome text (by_13 e) = wrong e

pub accounted : Accounted
unfolding said
accounted = record {
  built = λ text ps r. built_from (suc (length text)) 0 text ps (omega arith) r;
  reads = λ text ps s. reads_from s;
  once = λ text ps qs a b. let e : loads ps ≡ loads qs = sym (reads_from a) ∙ reads_from b in cc;
  others = λ text. outcome text (told (suc (length text)) 0 text (omega arith));
}
