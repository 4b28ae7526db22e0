-- A text judged record by record.
-- Assumes nothing.
use mathlib.Core.Path.{◌≡◌, refl, sym, ◌∙◌, ap}
use mathlib.Core.Logic.{◌≢◌}
use mathlib.Core.Bool.{Bool, true, false}
use mathlib.Core.List.{List, []}
use Prim.Native.Nat.{ℕ, ◌+◌, ◌*◌, ◌-◌, ◌≤◌, ◌<◌, max}
use Rattle.std.specs.Prelude.{Result, Ok, Err}
use native.Mathlib.Omega.{arith}
use lib.Dec.{eqb}
use lib.ListN.{drop, drop_of_length-le, length, length-drop, take}
use lib.Seq.{take_all}
use borrow.Author.Tests.{ne_eqb}
use Rattle.hexread.specs.Answers.{judged_as, raised, record_in}
use Rattle.hexfile.specs.Text.{after, ending, lines, loads, read, refused, Said, said}
use Rattle.hexread.specs.declared.record.Fault.{Fault}
use Rattle.hexread.specs.declared.record.Fault.TheVariants.{Malformed, WrongSum}
use Rattle.hexread.specs.declared.record.Record.{Record}
use Rattle.hexread.specs.declared.record.Record.TheVariants.{Data, End, Page}
use Rattle.hexfile.proofs.LineLaws.{ending_more, ending_none}
use Rattle.hexread.proofs.KindLaws.{bad-read, DataRead, data_read, end_read, page-read, piece_in, wrong-read}

-- ---- the largest end

pub raised_none : (best p a n : ℕ) → n ≡ 0 → best ≡ raised best p a n
unfolding raised
raised_none best p a n e = rw e

pub raised_some : (best p a n : ℕ) {e m : ℕ} → n ≢ 0 → e ≡ 65536 * p + a + n → m ≡ max best e → m ≡ raised best p a n
unfolding raised
raised_some best p a n h i k = rw (ne_eqb n 0 h) (omega arith)

pub ruleset raised-cases = (raised_none, raised_some)

more : (s : List ℕ) (best p a n : ℕ) (r : DataRead s a n) (x : Said) → judged_as best (after (piece_in s p a n) x) ≡ judged_as (raised best p a n) x
unfolding raised
more s best p a n r x = by (eqb n 0) refl x
  where
    by : (b : Bool) → eqb n 0 ≡ b → (x : Said) → judged_as best (after (piece_in s p a n) x) ≡ judged_as (raised best p a n) x
    by true e (refused k) = refl
    by true e (loads ps) = rw e
    by false e (refused k) = refl
    by false e (loads ps) = rw (e, r.long) (ap Ok (omega arith))

-- ---- what is left of the text

-- the rest decides it
pub record Judging (text rest : List ℕ) (page best : ℕ) : Type 0 where
  pub small : page < 65536
  pub same : judged_as best (read page (lines rest)) ≡ judged_as 0 (said text)

-- the part that the code lends
abbrev pub part : List ℕ → ℕ → List ℕ
part text at = take (length text - at) (drop at text)

pub part-whole : (text : List ℕ) (at : ℕ) → part text at ≡ drop at text
part-whole text at = take_all (length text - at) (drop at text) (simp length-drop (omega arith))

pub judge-start : (text : List ℕ) → Judging text text 0 0
unfolding said
judge-start text = record { small = omega arith; same = refl }

-- it grows shorter
pub shorter : (text : List ℕ) (n : ℕ) → 0 < n → n ≤ length text → length (part text n) < length text
shorter text n h k = rw (part-whole text n) (simp length-drop (omega arith))

module _ {text rest : List ℕ} {page best : ℕ} {r : Result Record Fault} (j : Judging text rest page best) (e : r ≡ record_in (lines rest)) where
  pub judge-stop : (f : Fault) → r ≡ Err f → Err f ≡ judged_as 0 (said text)
  judge-stop Malformed h = rw (bad-read rest (sym e) h page) at j.same
  judge-stop WrongSum h = rw (wrong-read rest (sym e) h page) at j.same

  module _ {k : Record} (w : r ≡ Ok k) where
    kind : {x : Record} → k ≡ x → record_in (lines rest) ≡ Ok x
    kind h = sym e ∙ w ∙ ap Ok h

    ended : k ≡ End → (judged_as best (ending (lines (drop 12 rest))) ≡ judged_as 0 (said text)) × (12 ≤ length rest)
    ended h = let d = end_read rest (kind h) refl in (rw (d.reads page) at j.same, d.fits)

    pub judge-ended : k ≡ End → length rest ≡ 12 → Ok best ≡ judged_as 0 (said text)
    judge-ended h l =
        let d = ended h in
        let none : drop 12 rest ≡ [] = drop_of_length-le rest {i = 12} (omega arith) in
        let z : best ≡ max best 0 = omega arith in
        ap Ok z ∙ (rw (none, ending_none) at d.0)

    pub judge_after : k ≡ End → length rest ≢ 12 → Err Malformed ≡ judged_as 0 (said text)
    judge_after h l =
        let d = ended h in
        rw (ending_more (drop 12 rest) (simp length-drop (omega arith))) at d.0

    pub page_fits : {q : ℕ} → k ≡ Page q → 16 ≤ length rest
    page_fits {q} h = (page-read rest (kind h) q refl).fits

    pub judge-page : {q : ℕ} → k ≡ Page q → Judging text (part rest 16) q best
    judge-page {q} h =
        let d = page-read rest (kind h) q refl in
        record { small = d.small; same = rw (part-whole rest 16) (rw (d.reads page) at j.same) }

    pub data_fits : {a n : ℕ} → k ≡ Data a n → (12 + 2 * n ≤ length rest) × (a + n ≤ 65536)
    data_fits {a} {n} h = let d = data_read rest (kind h) a n refl in (d.fits, d.page)

    pub judge_data : {a n b : ℕ} → k ≡ Data a n → b ≡ raised best page a n → Judging text (part rest (12 + 2 * n)) page b
    judge_data {a} {n} h i =
        let d = data_read rest (kind h) a n refl in
        record {
          small = j.small;
          same = rw (part-whole rest (12 + 2 * n), i) (sym (more rest best page a n d (read page (lines (drop (12 + 2 * n) rest)))) ∙ (rw (d.reads page) at j.same));
        }

pub ruleset judge-cases = (judge-start, judge-stop, judge-ended, judge_after, judge-page, judge_data)
