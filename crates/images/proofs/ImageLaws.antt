-- Loads and dumps: their checks, and what they leave.
-- Assumes nothing.
use mathlib.Core.Path.{◌≡◌, refl, sym, ap, ◌∙◌, subst}
use mathlib.Core.Bool.{true, false, true≢false, ◌&&◌, cond}
use mathlib.Core.List.{List, [], ◌∷◌, ◌++◌}
use Rattle.std.specs.Prelude.{Result, Ok, Err, IsErrAnd, MatchResult}
use Rattle.std.proofs.lemmas.Result.{err_from_is_err_and}
use Prim.Native.Nat.{ℕ, ◌+◌, ◌-◌, ◌^◌, ◌≤◌, ◌<◌}
use native.Mathlib.Nat.{add-sub_cancel_left}
use native.Mathlib.Omega.{arith}
use lib.Dec.{eqb, leb, ltb}
use lib.ListN.{drop, length, length-drop, length-take, take}
use borrow.Author.Tests.{le-leb, leb-true, lt-leb}
use borrow.Rule.Slice.PartMut.{put_mid}
use Rattle.hexfile.specs.Accounted as claim
use Rattle.hexfile.specs.Text.{farthest, loads, Piece, refused, Said, said}
use Rattle.hexfile.specs.Written.{written, written_length}
use Rattle.hexfile.proofs.AccountedLaws.{accounted}
use Rattle.hexfile.proofs.WrittenLaws.{written-long}
use Rattle.hexread.specs.Answers.{applied, Fits, judged_as}
use Rattle.hexread.specs.declared.record.Fault.{Fault}
use Rattle.tokens.specs.Permissions.{R, W, within}
use Rattle.tokens.specs.Token.{named}
use Rattle.layout.specs.declared.entry.Entry.{Entry}
use Rattle.tokens.specs.declared.token.Named.{Named}
use Rattle.bits.proofs.TestLaws.{both}
use Rattle.checks.specs.Refusals.{stop_as}
use Rattle.checks.specs.declared.refusal.Refusal as code
use Rattle.images.specs.Segments.{fault_as}
use Rattle.checks.specs.Holds.{request_holds, settings_hold, shift_holds}
use Rattle.checks.specs.Shifts.{shift_verdict}
use Rattle.checks.proofs.ShiftLaws.{hold_append, shift_read, shift_text}
use Rattle.checks.proofs.ReachLaws.{reached_inside}
use Rattle.checks.proofs.VerdictLaws.{together}
use Rattle.machine.specs.Images.{pieces_in, pieces_of, spares, text_short}
use Rattle.machine.specs.Operations.{carried, Effect, effect_by, grant_access, named_entry, number_of, placed, text}
use Rattle.machine.specs.Parts.{at, State}
use Rattle.machine.specs.Requests.{dump, dumping, load, loading, Shift}
use Rattle.machine.specs.Steps as Steps
use Rattle.machine.specs.Steps.{buffer_after, pass, stop, stored, told_length, Verdict, verdict}
use Rattle.machine.specs.Stops.{at_bounds, at_checksum, at_record, at_right, at_room, checks, lastly, no_offset, places, Refusal, settings, shift_fits, sizes, task_fits, text_read}
use Rattle.machine.proofs.Decided.{Passed}
use Rattle.machine.proofs.PlaceLaws.{stored-part}
use Rattle.table.specs.States.{state_as}
use Rattle.table.specs.declared.state.StateWords.{StateWords}
use Rattle.rulings.specs.Rulings.{effect_on, filling_so, granted_effect, granting, handed, ruled, ruling_on, tokens_on, verdict_on}
use Rattle.rulings.proofs.AllotLaws.{request-limits}
use Rattle.rulings.proofs.RulingLaws.{by_effect, decided-pass, effect-pass, passed_on, rest_alone, token-passes, token-stops}

-- ---- the text

-- a text is read, or refused by 12 or by 13
data Said-of (b : List ℕ) : Type 0 where
  reads : (ps : List Piece) → said b ≡ loads ps → Said-of b
  twelve : said b ≡ refused 12 → Said-of b
  thirteen : said b ≡ refused 13 → Said-of b

said_of : (b : List ℕ) → Said-of b
said_of b = by (accounted.others b)
  where
    by : claim.Outcome b → Said-of b
    by (claim.spelt ps h) = reads ps (accounted.reads b ps h)
    by (claim.malformed h) = twelve h
    by (claim.wrong h) = thirteen h

module _ (b : List ℕ) where
  text-reads : (ps : List Piece) → said b ≡ loads ps → verdict (text_read b) ≡ pass
  unfolding spares
  text-reads ps e = rw e

  text-malformed : said b ≡ refused 12 → verdict (text_read b) ≡ stop at_record
  unfolding spares
  text-malformed e = rw e

  text-wrong : said b ≡ refused 13 → verdict (text_read b) ≡ stop at_checksum
  unfolding spares
  text-wrong e = rw e

  -- what the code judges of it, as a fault and as a refusal
  abbrev Judged : Result ℕ Fault → Type 0
  Judged (Err f) = verdict (text_read b) ≡ stop_as (fault_as f)
  Judged (Ok end) = (verdict (text_read b) ≡ pass) × (farthest (pieces_of b) ≡ end)

  abbrev Told : Result ℕ code.Refusal → Type 0
  Told (Err why) = verdict (text_read b) ≡ stop_as why
  Told (Ok end) = (verdict (text_read b) ≡ pass) × (farthest (pieces_of b) ≡ end)

  judged_lem : Judged (judged_as 0 (said b))
  unfolding pieces_of
  judged_lem = by (said_of b)
    where
      by : Said-of b → Judged (judged_as 0 (said b))
      by (reads ps e) = subst (λ (s : Said). Judged (judged_as 0 s)) (sym e) (text-reads ps e, rw e (omega arith))
      by (twelve e) = subst (λ (s : Said). Judged (judged_as 0 s)) (sym e) (text-malformed e)
      by (thirteen e) = subst (λ (s : Said). Judged (judged_as 0 s)) (sym e) (text-wrong e)

  pub told_lem : (j : Result ℕ Fault) (r : Result ℕ code.Refusal) → j ≡ judged_as 0 (said b) → MatchResult j (λ (end : ℕ). r ≡ Ok end) (λ (f : Fault). IsErrAnd r (λ (why : code.Refusal). why ≡ fault_as f)) → Told r
  told_lem j r is h = by j (subst Judged (sym is) judged_lem) h
    where
      by : (j : Result ℕ Fault) → Judged j → MatchResult j (λ (end : ℕ). r ≡ Ok end) (λ (f : Fault). IsErrAnd r (λ (why : code.Refusal). why ≡ fault_as f)) → Told r
      by (Ok end) k h = subst Told (sym h) k
      by (Err f) k h = let p = err_from_is_err_and r h in subst Told (sym p.1) (k ∙ ap stop_as (sym p.2))

  -- a text that is not refused is read, and its data lie in what they end in
  text_fits : (n : ℕ) → spares 12 b ≡ true → spares 13 b ≡ true → farthest (pieces_of b) ≤ n → Fits (said b) n
  unfolding spares pieces_of
  text_fits n m w h = by (said_of b)
    where
      by : Said-of b → Fits (said b) n
      by (reads ps e) = rw e (rw e at h)
      by (twelve e) = let z : spares 12 b ≡ false = rw e in absurd (true≢false (sym m ∙ z))
      by (thirteen e) = let z : spares 13 b ≡ false = rw e in absurd (true≢false (sym w ∙ z))

-- ---- the segment

-- the part of memory from a on, which comes back with the data stored in it
pub stored_back : (a n : ℕ) (b m ys : List ℕ) → a + n ≤ length m → Fits (said b) n → ys ≡ applied (said b) (take (a + n - a) (drop a m)) → put_mid a (a + n - a) m ys ≡ stored (placed a (pieces_of b)) m
unfolding pieces_of
stored_back a n b m ys h f e = by (said b) f e
  where
    by : (s : Said) → Fits s n → ys ≡ applied s (take (a + n - a) (drop a m)) → put_mid a (a + n - a) m ys ≡ stored (placed a (pieces_in s)) m
    by (refused k) f e = absurd f
    by (loads ps) f e = rw (e, add-sub_cancel_left) (sym (stored-part a n ps m h f))

pub fits_as_lem : (a n : ℕ) (b m : List ℕ) → a + n ≤ length m → Fits (said b) n → Fits (said b) (length (take (a + n - a) (drop a m)))
fits_as_lem a n b m h f = let long : length (take (a + n - a) (drop a m)) ≡ n = simp (add-sub_cancel_left, length-take, length-drop) (omega arith) in rw long f

-- ---- a load

module _ (m : ℕ) (s : State) (t : List ℕ) (k u : ℕ) (φ : Shift) (b : List ℕ) where
  module _ (end : ℕ) (ends : farthest (pieces_of b) ≡ end) (n : Named) (e : Entry) (is : n ≡ named k) (there : e ≡ at t n.number) where
    load_of : verdict (places m s t (load k u φ) b).rest ≡ cond (within W e.permissions) (cond (leb end e.length) pass (stop at_bounds)) (stop at_right)
    load_of = rw (ends, there, is)

    pub load_right : within W e.permissions ≡ false → verdict (places m s t (load k u φ) b).rest ≡ stop at_right
    load_right h = load_of ∙ rw h

    module _ (held : within W e.permissions ≡ true) where
      pub load-out : leb end e.length ≡ false → verdict (places m s t (load k u φ) b).rest ≡ stop at_bounds
      load-out h = load_of ∙ rw (held, h)

      pub load_in : leb end e.length ≡ true → verdict (places m s t (load k u φ) b).rest ≡ pass
      load_in h = load_of ∙ rw (held, h)

  pub load-request : (settings_hold m s t && ltb u (2 ^ 55) && eqb (named k).offset 0 && leb (length b) 65536 && shift_holds φ) ≡ request_holds m s t (load k u φ) b
  unfolding settings_hold request_holds shift_holds
  load-request = sym (hold_append (sizes m t ++ (settings s t ++ (task_fits u ∷ no_offset k ∷ text_short b ∷ []))) (shift_fits φ))

  load-tokens : {v : Verdict} → shift_verdict (text_read b) m t k u φ ≡ v → tokens_on m s t (load k u φ) b ≡ v
  unfolding shift_verdict tokens_on
  load-tokens h = h

  module _ (ok : request_holds m s t (load k u φ) b ≡ true) where
    -- the text stops it
    pub load-text : {r : Refusal} → verdict (text_read b) ≡ stop r → verdict_on m s t (load k u φ) b ≡ stop r
    load-text h = token-stops m s t (load k u φ) b ok (load-tokens (shift_text (text_read b) m t k u φ h))

    module _ (read : verdict (text_read b) ≡ pass) where
      load_reached : {v : Verdict} → shift_verdict [] m t k u φ ≡ v → tokens_on m s t (load k u φ) b ≡ v
      load_reached h = load-tokens (shift_read (text_read b) m t k u φ read ∙ h)

      pub load-token : {r : Refusal} → shift_verdict [] m t k u φ ≡ stop r → verdict_on m s t (load k u φ) b ≡ stop r
      load-token h = token-stops m s t (load k u φ) b ok (load_reached h)

      pub load-rest : shift_verdict [] m t k u φ ≡ pass → verdict_on m s t (load k u φ) b ≡ verdict (places m s t (load k u φ) b).rest
      load-rest h =
          token-passes m s t (load k u φ) b ok (load_reached h)
          ∙ rest_alone m s t (load k u φ) b refl (request-limits m s t (load k u φ) b (task_fits u ∷ no_offset k ∷ text_short b ∷ shift_fits φ) refl ok).left

  -- what a pass says: the segment lies in memory, and the data in the segment
  module _ (h : verdict_on m s t (load k u φ) b ≡ pass) where
    all : Passed (checks m s t (load k u φ) b)
    all = passed_on m s t (load k u φ) b h

    pub load-room : (named_entry t k).base + (named_entry t k).length ≤ m
    load-room = reached_inside m t (number_of k) (let p = all in search) (let p = all in search) (let p = all in search)

    pub load_fits : Fits (said b) (named_entry t k).length
    load_fits = let p = all in text_fits b (named_entry t k).length (search) (search) (leb-true (farthest (pieces_of b)) (named_entry t k).length (search))

    pub load-effect : effect_on m s t (load k u φ) b ≡ effect_by loading (named_entry t k) 0 b
    unfolding granted_effect
    load-effect = effect-pass m s t (load k u φ) b h

-- it leaves the buffer, and tells no length
pub load-buffer : (m : ℕ) (s : State) (t : List ℕ) (k u : ℕ) (φ : Shift) (b memory : List ℕ) → b ≡ buffer_after (effect_on m s t (load k u φ) b) memory b
load-buffer m s t k u φ b memory = by_effect (λ (f : Effect). b ≡ buffer_after f memory b) m s t (load k u φ) b refl refl

pub load-handed : (m : ℕ) (s : StateWords) (t : List ℕ) (k u : ℕ) (φ : Shift) (b : List ℕ) → verdict_on m (state_as s) t (load k u φ) b ≡ pass → handed s t (Ok (filling_so 0)) ≡ ruling_on m (state_as s) t (load k u φ) b
unfolding granting
load-handed m s t k u φ b h = decided-pass m (state_as s) t (load k u φ) b (handed s t (Ok (filling_so 0))) refl h

-- ---- a dump

pub room_some : (n room : ℕ) {w : ℕ} → n ≤ 23820 → w ≡ written_length n → leb w room ≡ (leb (written_length n) 65536 && leb (written_length n) room)
room_some n room h e = rw (e, le-leb (written_length n) 65536 (omega arith))

pub room_none : (n room : ℕ) → 23820 < n → false ≡ (leb (written_length n) 65536 && leb (written_length n) room)
room_none n room h = rw (lt-leb (written_length n) 65536 (omega arith))

module _ (m : ℕ) (s : State) (t : List ℕ) (k u : ℕ) (φ : Shift) (b : List ℕ) where
  module _ (n : Named) (e : Entry) (is : n ≡ named k) (there : e ≡ at t n.number) where
    dump_of : verdict (places m s t (dump k u φ) b).rest ≡ cond (within R e.permissions) pass (stop at_right)
    dump_of = rw (there, is)

    pub dump_right : within R e.permissions ≡ false → verdict (places m s t (dump k u φ) b).rest ≡ stop at_right
    dump_right h = dump_of ∙ rw h

    pub dump-held : within R e.permissions ≡ true → verdict (places m s t (dump k u φ) b).rest ≡ pass
    dump-held h = dump_of ∙ rw h

  pub dump-request : (settings_hold m s t && ltb u (2 ^ 55) && eqb (named k).offset 0 && shift_holds φ) ≡ request_holds m s t (dump k u φ) b
  unfolding settings_hold request_holds shift_holds
  dump-request = sym (hold_append (sizes m t ++ (settings s t ++ (task_fits u ∷ no_offset k ∷ []))) (shift_fits φ))

  pub dump-token : {v : Verdict} → shift_verdict [] m t k u φ ≡ v → tokens_on m s t (dump k u φ) b ≡ v
  unfolding shift_verdict tokens_on
  dump-token h = h

  pub dump-rest : request_holds m s t (dump k u φ) b ≡ true → shift_verdict [] m t k u φ ≡ pass → verdict_on m s t (dump k u φ) b ≡ verdict (places m s t (dump k u φ) b).rest
  dump-rest ok h =
      token-passes m s t (dump k u φ) b ok (dump-token h)
      ∙ rest_alone m s t (dump k u φ) b refl (request-limits m s t (dump k u φ) b (task_fits u ∷ no_offset k ∷ shift_fits φ) refl ok).left

  -- what a pass says: the segment lies in memory
  pub dump-inside : verdict_on m s t (dump k u φ) b ≡ pass → (named_entry t k).base + (named_entry t k).length ≤ m
  dump-inside h =
      let p : Passed (checks m s t (dump k u φ) b) = passed_on m s t (dump k u φ) b h in
      reached_inside m t (number_of k) (search) (search) (search)

-- ---- place 14: the room that the text of a segment needs, which is one of the memory

module _ (memory : List ℕ) (a n : ℕ) (inside : a + n ≤ length memory) where
  pub text-long : length (written (take n (drop a memory))) ≡ written_length n
  text-long = written-long (take n (drop a memory)) ∙ ap written_length (simp (length-take, length-drop) (omega arith))

  text-room : (b : List ℕ) → verdict (lastly (text a n).fill memory b) ≡ cond (leb (written_length n) 65536 && leb (written_length n) (length b)) pass (stop at_room)
  text-room b = let w = written (take n (drop a memory)) in together at_room (text_short w ∷ leb (length w) (length b) ∷ []) ∙ rw text-long

  pub text_in : (b : List ℕ) → (leb (written_length n) 65536 && leb (written_length n) (length b)) ≡ true → verdict (lastly (text a n).fill memory b) ≡ pass
  text_in b h = text-room b ∙ rw h

  pub text_out : (b : List ℕ) → (leb (written_length n) 65536 && leb (written_length n) (length b)) ≡ false → verdict (lastly (text a n).fill memory b) ≡ stop at_room
  text_out b h = text-room b ∙ rw h

-- a text that has its room is of few bytes
pub few_bytes : (n room : ℕ) → (leb (written_length n) 65536 && leb (written_length n) room) ≡ true → (n ≤ 23820) × (written_length n ≤ room)
few_bytes n room h = let p = both (leb (written_length n) 65536) (leb (written_length n) room) h in (omega (arith, leb-true (written_length n) 65536 p.0), leb-true (written_length n) room p.1)

-- what is handed back tells the text's length
pub dump-handed : (s : StateWords) (t : List ℕ) (k : ℕ) (b memory : List ℕ) (l : ℕ) → let e : Entry = named_entry t k in
    e.base + e.length ≤ length memory
    → l ≡ written_length e.length
    → handed s t (Ok (filling_so l)) ≡ ruled (Steps.telling (told_length (text e.base e.length).fill memory) (carried (state_as s) t (grant_access t dumping k b)))
dump-handed s t k b memory l inside e = rw (e, text-long memory (named_entry t k).base (named_entry t k).length inside)
