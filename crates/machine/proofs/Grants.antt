-- What every granted request has, on whatever machine: its effect fits, its tokens' encoding is one of four, and what it issues anew lies in the table.
-- Assumes nothing.
use mathlib.Core.Path.{◌≡◌, sym, ◌∙◌}
use mathlib.Core.Logic.{◌⊎◌, inl, inr}
use mathlib.Core.Bool.{true, false}
use mathlib.Core.List.{List, [], ◌∷◌}
use Prim.Native.Nat.{ℕ, ◌+◌, ◌*◌, ◌≤◌, ◌<◌}
use native.Mathlib.Omega.{arith}
use lib.Dec.{eqb}
use lib.ListN.{drop, length, length-drop, length-take, take}
use borrow.Author.Tests.{eqb-true, leb-true, ltb-true}
use Rattle.hexfile.specs.Text.{loads, Piece, refused, Said, said}
use Rattle.hexfile.specs.Written.{written}
use Rattle.hexfile.proofs.DataLaws.{AllData, said-bytes, SaidBytes, written-bytes}
use Rattle.hexfile.proofs.WrittenLaws.{written-long}
use Rattle.layout.specs.Form.{ill_formed}
use Rattle.tokens.specs.Token.{named}
use Rattle.layout.specs.declared.entry.Entry.{Entry}
use Rattle.machine.specs.Images.{most_text, pieces_in, pieces_of, text_short}
use Rattle.machine.specs.MachineSystem.{IsReset, resets}
use Rattle.machine.specs.Operations.{Effect, effect_by, entire, Fill, fill_with, front, Grant, grant, grant_release, named_entry, number_of, part_of, placed, shown, Store, unfilled}
use Rattle.machine.specs.Parts.{size, State}
use Rattle.machine.specs.Requests.{Access, access, accessing, clone, create, derive, dumping, execute_only, fetching, loading, lock, Look, look, merge, moving, page_in, page_out, reading, release, Request, reset, revoke, Shift, unlock, Way, writing}
use Rattle.machine.specs.Stops.{asks, checks}
use Rattle.machine.specs.Writes.{give}
use Rattle.bits.specs.Bytes.{AllBytes}
use Rattle.machine.proofs.Basics.{present, Present, range}
use Rattle.bits.proofs.ByteLists.{bytes-zeros}
use Rattle.machine.proofs.Choices.{by_cond}
use Rattle.machine.proofs.Decided.{access-passed, Passed}
use Rattle.machine.proofs.Fuel.{line_formed_lem}
use Rattle.machine.proofs.WriteLaws.{calm_giving, calm_within, giving, release_calm, Within}

-- an effect stores bytes, if the buffer has bytes; and it makes bytes, of bytes and where the table has bytes: as many as the buffer holds, or, at its front, what
-- keeps to its limit
abbrev pub StoreFits : (buffer : List ℕ) → List Store → Type 0
StoreFits b [] = Unit {0}
StoreFits b (w ∷ ws) = (AllBytes b → AllBytes w.bytes) × StoreFits b ws

abbrev pub FillFits : (m : ℕ) (table buffer : List ℕ) → Fill → Type 0
FillFits m t b unfilled = Unit {0}
FillFits m t b (entire a n f) = ((memory : List ℕ) → length memory ≡ m → length (f (take n (drop a memory))) ≡ length b) × (AllBytes t → (bs : List ℕ) → AllBytes bs → AllBytes (f bs))
FillFits m t b (front a n f limit) = AllBytes t → (bs : List ℕ) → limit (f bs) ≡ true → AllBytes bs → AllBytes (f bs)

abbrev pub EffectFits : (m : ℕ) (table buffer : List ℕ) → Effect → Type 0
EffectFits m t b f = StoreFits b f.stores × FillFits m t b f.fill

pub record Fitting (m : ℕ) (t : List ℕ) (q : Request) (b : List ℕ) (g : Grant) : Type 0 where
  pub effect : EffectFits m t b g.effect
  pub encoding : g.encoding ≤ 3
  pub within : IsReset q ⊎ Within (size t) g.writes
  pub few : giving g.writes ≤ 2

-- by either of two, and by the second, where the first is not
pub either : {A B C : Type 0} → (A → C) → (B → C) → A ⊎ B → C
either f g (inl a) = f a
either f g (inr b) = g b

pub unless : {A B : Type 0} → A ⊎ B → (A → ⊥) → B
unless h n = either (λ a. absurd (n a)) (λ b. b) h

-- bytes that move by a way lie in memory
pub access-inside : (m : ℕ) (s : State) (t : List ℕ) (w : Way) (k u : ℕ) (φ : Shift) (b : List ℕ) → Passed (checks m s t (access w k u φ) b) → (named_entry t k).base + (named k).offset + length b ≤ m
access-inside m s t w k u φ b h =
    let e : Entry = named_entry t k in
    let full : Present e = present e (search) (search) in
    let formed : ill_formed m e ≡ false = line_formed_lem m t (number_of k) (search) in
    let bound : (named k).offset + length b ≤ e.length = leb-true ((named k).offset + length b) e.length (search) in
    omega (arith, range m e full formed)

-- a range inside memory has its length
range-long : (m a n : ℕ) → a + n ≤ m → (memory : List ℕ) → length memory ≡ m → length (take n (drop a memory)) ≡ n
range-long m a n h memory l = simp (length-take, length-drop) (omega arith)

-- the part of an entry in the table
part-long : (t : List ℕ) (n : ℕ) → n < size t → length (take 32 (drop (32 * n) t)) ≡ 32
unfolding size
part-long t n h = simp (length-take, length-drop) (omega arith)

-- what is placed in a segment are bytes
placed_fits : (a : ℕ) (b : List ℕ) (ps : List Piece) → AllData ps → StoreFits b (placed a ps)
placed_fits a b [] h = tt
placed_fits a b (p ∷ ps) h = (λ i. h.0, placed_fits a b ps h.1)

pieces-bytes : (b : List ℕ) → AllData (pieces_of b)
unfolding pieces_of
pieces-bytes b = by (said b) (said-bytes b)
  where
    by : (s : Said) → SaidBytes s → AllData (pieces_in s)
    by (refused n) h = tt
    by (loads ps) h = h

-- a text is bytes
text-bytes : (bs : List ℕ) → text_short (written bs) ≡ true → AllBytes bs → AllBytes (written bs)
text-bytes bs l h = written-bytes bs (omega (arith, leb-true (length (written bs)) most_text l, written-long bs)) h

-- an access, whose segment lies in memory
transfer_fits_lem : (m : ℕ) (w : Access) (e : Entry) (o : ℕ) (t b : List ℕ) → e.base + e.length ≤ m → Passed (asks w o b e).bounds → EffectFits m t b (effect_by w e o b)
transfer_fits_lem m (moving reading) e o t b h p = (tt, (range-long m (e.base + o) (length b) (omega (arith, leb-true (o + length b) e.length p.0)), λ i bs j. j))
transfer_fits_lem m (moving writing) e o t b h p = ((λ i. i, tt), tt)
transfer_fits_lem m (moving fetching) e o t b h p = (tt, (range-long m (e.base + o) (length b) (omega (arith, leb-true (o + length b) e.length p.0)), λ i bs j. j))
transfer_fits_lem m loading e o t b h p = (placed_fits _ b (pieces_of b) (pieces-bytes b), tt)
transfer_fits_lem m dumping e o t b h p = (tt, λ i bs. text-bytes bs)

access_fits : (m : ℕ) (s : State) (t : List ℕ) (w : Access) (k u : ℕ) (φ : Shift) (b : List ℕ) → Passed (checks m s t (accessing w k u φ) b) → EffectFits m t b (effect_by w (named_entry t k) (named k).offset b)
access_fits m s t w k u φ b h =
    let p = access-passed m s t w k u φ b h in
    let e : Entry = named_entry t k in
    transfer_fits_lem m w e (named k).offset t b (range m e (present e (search) (search)) (line_formed_lem m t (number_of k) (search))).1 p.bounds

-- what each look shows
look_fits : (m : ℕ) (s : State) (t : List ℕ) (v : Look) (b : List ℕ) → Passed (checks m s t (look v) b) → FillFits m t b (fill_with (shown m t v))
look_fits m s t v b h = elim v [ ]

pub granted_fits : (m : ℕ) (s : State) (t : List ℕ) (q : Request) (b : List ℕ) → Passed (checks m s t q b) → Fitting m t q b (grant m t q b)
granted_fits m s t (reset k0 k1 ν) b h = record { effect = (tt, tt); encoding = omega arith; within = inl resets; few = omega arith }
granted_fits m s t (accessing w k u φ) b h = record { effect = access_fits m s t w k u φ b h; encoding = omega arith; within = inr tt; few = omega arith }
granted_fits m s t (create k u l x p c) b h = record {
  effect = (tt, tt);
  encoding = omega (arith, leb-true c 3 (search));
  within = inr (by_cond (λ w. Within (size t) (give (part_of (named_entry t k) l x p) ∷ w ∷ [])) (eqb l (named_entry t k).length) (λ e. tt) (λ e. (ltb-true _ _ (search), tt)));
  few = by_cond (λ w. giving (give (part_of (named_entry t k) l x p) ∷ w ∷ []) ≤ 2) (eqb l (named_entry t k).length) (λ e. omega arith) (λ e. omega arith);
}
granted_fits m s t (merge j k u c) b h = record { effect = (tt, tt); encoding = omega (arith, leb-true c 3 (search)); within = inr (ltb-true (number_of j) (size t) (search), tt); few = omega arith }
granted_fits m s t (derive k o l p c) b h = record { effect = (tt, tt); encoding = omega (arith, leb-true c 3 (search)); within = inr tt; few = omega arith }
granted_fits m s t (execute_only k c) b h = record { effect = (tt, tt); encoding = omega (arith, leb-true c 3 (search)); within = inr tt; few = omega arith }
granted_fits m s t (clone k) b h = record { effect = (tt, tt); encoding = omega arith; within = inr tt; few = omega arith }
granted_fits m s t (release k) b h = record { effect = (tt, tt); encoding = omega arith; within = inr (calm_within (size t) (grant_release m t (number_of k)).writes (release_calm m t (number_of k))); few = omega (arith, calm_giving (grant_release m t (number_of k)).writes (release_calm m t (number_of k))) }
granted_fits m s t (lock k u) b h = record { effect = (tt, tt); encoding = omega arith; within = inr tt; few = omega arith }
granted_fits m s t (unlock k u) b h = record { effect = (tt, tt); encoding = omega arith; within = inr tt; few = omega arith }
granted_fits m s t (page_out k u f c) b h =
    let e : Entry = named_entry t k in
    let inside = range m e (present e (search) (search)) (line_formed_lem m t (number_of k) (search)) in
    record {
      effect = ((λ i. search (bytes-zeros), tt), (λ memory l. range-long m e.base e.length inside.1 memory l ∙ sym (eqb-true (length b) e.length (search)), λ i bs j. j));
      encoding = omega (arith, leb-true c 3 (search));
      within = inr (ltb-true (number_of k) (size t) (search), tt);
      few = omega arith;
    }
granted_fits m s t (page_in j k u c) b h = record { effect = ((λ i. i, tt), tt); encoding = omega (arith, leb-true c 3 (search)); within = inr (ltb-true (number_of j) (size t) (search), tt); few = omega arith }
granted_fits m s t (look v) b h = record { effect = (tt, look_fits m s t v b h); encoding = omega arith; within = inr tt; few = omega arith }
granted_fits m s t (revoke k c) b h = record { effect = ((λ i. search (bytes-zeros), tt), tt); encoding = omega (arith, leb-true c 3 (search)); within = inr (ltb-true (number_of k) (size t) (search), tt); few = omega arith }
