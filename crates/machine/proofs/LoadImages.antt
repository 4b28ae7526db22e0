-- Loads and dumps: what they leave, that they need what accesses need, and that a dump's text restores what was dumped.
-- Assumes nothing.
use mathlib.Core.Path.{◌≡◌, refl, sym, ap, subst, ◌∙◌}
use mathlib.Core.Logic.{◌≢◌, inl}
use mathlib.Core.Bool.{true, false, true≢false, not}
use mathlib.Core.List.{List, [], ◌∷◌, ◌++◌}
use Prim.Native.Nat.{ℕ, ◌+◌, ◌≤◌, ◌<◌}
use native.Mathlib.Omega.{arith}
use lib.Dec.{eqb, leb}
use lib.ListN.{drop, length, length-drop, length-take, take}
use lib.Seq.{drop_at, sets, sets-eq, take_at}
use borrow.Author.Tests.{eq-eqb, eqb-true, le-leb, leb-true, ne_eqb}
use Rattle.bits.specs.Bytes.{AllBytes}
use Rattle.bits.proofs.ByteLists.{bytes_drop, bytes_take}
use Rattle.hexfile.specs.Accounted as claim
use Rattle.hexfile.specs.Restored as text
use Rattle.hexfile.specs.Text.{apply, farthest, loads, Piece, said}
use Rattle.hexfile.specs.Written.{written, written_length}
use Rattle.hexfile.proofs.AccountedLaws.{accounted}
use Rattle.hexfile.proofs.WrittenLaws.{restored, written-long}
use Rattle.layout.specs.Form.{ill_formed}
use Rattle.layout.specs.declared.entry.Entry.{Entry}
use Rattle.tokens.specs.Permissions.{within}
use Rattle.tokens.specs.Token.{named}
use Rattle.machine.specs.Images.{most_text, pieces_of, spares}
use Rattle.machine.specs.Line.{is_paged}
use Rattle.machine.specs.LoadImages.{AsAccesses, dump_call, Dumps, load_call, Loads, MayDump, MayLoad, Restores, segment_of}
use Rattle.machine.specs.MachineSystem.{Accepted}
use Rattle.machine.specs.Operations.{Decision, effect_by, named_entry, number_of}
use Rattle.machine.specs.Requests.{Access, access, Call, dump, dumping, load, loading, moving, reading, right_for, Shift, writing}
use Rattle.machine.specs.Segments.{In}
use Rattle.machine.specs.Steps.{answer, Machine, step}
use Rattle.machine.specs.Stops.{asks, checks}
use Rattle.machine.specs.WholeDerive.{access_call, length_of}
use Rattle.machine.proofs.Basics.{present, range}
use Rattle.machine.proofs.Decided.{accepted, accepted_last, access-passed, AccessPassed, AllTrue, granted_by, Passed, passed-access}
use Rattle.machine.proofs.Effects.{memory-other}
use Rattle.machine.proofs.Fates.{Touches}
use Rattle.machine.proofs.Fuel.{line_formed_lem}
use Rattle.machine.proofs.PlaceLaws.{placed_touches, segment_after}

-- ---- what a text that is not refused says

text_read_lem : (b : List ℕ) → spares 12 b ≡ true → spares 13 b ≡ true → said b ≡ loads (pieces_of b)
unfolding spares pieces_of
text_read_lem b m w = by (accounted.others b)
  where
    by : claim.Outcome b → said b ≡ loads (pieces_of b)
    by (claim.spelt ps h) = let e : said b ≡ loads ps = accounted.reads b ps h in rw e
    by (claim.malformed e) = let z : spares 12 b ≡ false = rw e in absurd (true≢false (sym m ∙ z))
    by (claim.wrong e) = let z : spares 13 b ≡ false = rw e in absurd (true≢false (sym w ∙ z))

-- ---- what a granted request has

-- the named entry lies in memory, and has a byte
segment_in : (m : ℕ) (t : List ℕ) (k : ℕ) → not (eqb (named_entry t k).kind 0) ≡ true → not (is_paged (named_entry t k)) ≡ true → ill_formed m (named_entry t k) ≡ false
    → (0 < (named_entry t k).length) × ((named_entry t k).base + (named_entry t k).length ≤ m)
segment_in m t k full here formed = range m (named_entry t k) (present (named_entry t k) full here) formed

pub loads_so : Loads
unfolding Loads step answer
loads_so σ k u φ b ok =
    let m : ℕ = length σ.memory in
    let e : Entry = named_entry σ.table k in
    let both = accepted σ (load_call k u φ b) ok in
    let all : Passed (checks m σ.state σ.table (load k u φ) b) = both.0 in
    let done = both.1 in
    let ends : farthest (pieces_of b) ≤ e.length = leb-true (farthest (pieces_of b)) e.length (search) in
    let there = segment_in m σ.table k (search) (search) (line_formed_lem m σ.table (number_of k) (search)) in
    record {
      pieces = pieces_of b;
      says = text_read_lem b (search) (search);
      inside = ends;
      segment = rw done (segment_after e.base e.length (pieces_of b) σ.memory there.1 ends);
      outside = λ x out. rw done (memory-other (effect_by loading e (named k).offset b) σ.memory x (λ i. out (touched x i ends)));
      state = ap (λ (d : Decision). d.state) done;
      table = ap (λ (d : Decision). d.table) done;
      buffer = rw done;
    }
  where
    touched : (x : ℕ) → Touches (effect_by loading (named_entry σ.table k) (named k).offset b) x → farthest (pieces_of b) ≤ (named_entry σ.table k).length → In (named_entry σ.table k) x
    touched x (mathlib.Core.Logic.inr x3) ends = elim x3 [ ]
    touched x (inl h) ends = omega (arith, placed_touches (named_entry σ.table k).base (pieces_of b) x h)

-- a text at the front of a buffer
front-laid : (b ws : List ℕ) (n : ℕ) → length ws ≡ n → n ≤ length b → (take n (sets b 0 ws) ≡ ws) × (drop n (sets b 0 ws) ≡ drop n b)
front-laid b ws n l h =
    let end : 0 + length ws ≡ n = omega (arith, l) in
    let laid : sets b 0 ws ≡ ws ++ drop n b = sets-eq ws b 0 (omega arith) ∙ rw end in
    (rw laid (take_at ws (drop n b) n l), rw laid (drop_at ws (drop n b) n l))

pub dumps_so : Dumps
unfolding Dumps step answer
dumps_so σ k u φ b ok =
    let done = (accepted σ (dump_call k u φ b) ok).1 in
    let w : List ℕ = written (segment_of σ k) in
    let fits = (accepted_last σ (dump_call k u φ b) ok).0 in
    let laid = front-laid b w (length w) refl (leb-true (length w) (length b) fits.1.0) in
    record { told = rw done; text = rw done laid.0; others = rw done laid.1; machine = rw done }

-- ---- loads and dumps need what accesses need

-- one byte, at the front of the segment
first_byte : (m : ℕ) (t : List ℕ) (k : ℕ) → eqb (named k).offset 0 ≡ true → not (eqb (named_entry t k).kind 0) ≡ true → not (is_paged (named_entry t k)) ≡ true → ill_formed m (named_entry t k) ≡ false
    → leb ((named k).offset + 1) (named_entry t k).length ≡ true
first_byte m t k zero full here formed =
    let there = segment_in m t k full here formed in
    let none = eqb-true (named k).offset 0 zero in
    le-leb ((named k).offset + 1) (named_entry t k).length (omega (arith, there.0, none))

-- a text that is read spares both refusals
spared : (r : ℕ) (b : List ℕ) (ps : List Piece) → r ≢ 0 → said b ≡ loads ps → spares r b ≡ true
unfolding spares
spared r b ps h e = rw (e, ne_eqb 0 r (λ z. h (sym z)))

pieces_are : (b : List ℕ) (ps : List Piece) → said b ≡ loads ps → pieces_of b ≡ ps
unfolding pieces_of
pieces_are b ps e = rw e

module _ (σ : Machine) (k u : ℕ) (φ : Shift) (b : List ℕ) where
  abbrev m : ℕ
  m = length σ.memory

  abbrev t : List ℕ
  t = σ.table

  abbrev o : ℕ
  o = (named k).offset

  -- an access that passes, and another by the same token in the same shift: what differs by the kind
  other_way : (v w : Access) (b c : List ℕ) → AccessPassed m σ.state t v k u φ b → right_for v ≡ right_for w
      → AllTrue (asks w o c (named_entry t k)).request → Passed (asks w o c (named_entry t k)).after → Passed (asks w o c (named_entry t k)).bounds → AccessPassed m σ.state t w k u φ c
  other_way v w b c p same asked after bounds = record {
    sizes = p.sizes;
    settings = p.settings;
    task = p.task;
    asked = asked;
    shift = p.shift;
    after = after;
    sound = p.sound;
    tokens = p.tokens;
    opened = p.opened;
    right = subst (λ (r : ℕ). within r (named_entry t k).permissions ≡ true) same p.right;
    bounds = bounds;
    nonces = p.nonces;
  }

  may_load : Accepted σ (load_call k u φ b) → MayLoad σ k u φ b
  may_load ok =
      let p = access-passed m σ.state t loading k u φ b (accepted σ (load_call k u φ b) ok).0 in
      let one = first_byte m t k p.asked.0 (search) (search) (line_formed_lem m t (number_of k) (search)) in
      record {
        access = granted_by σ (access_call (moving writing) k u φ (0 ∷ [])) (passed-access m σ.state t (moving writing) k u φ (0 ∷ []) (other_way loading (moving writing) b (0 ∷ []) p refl (refl, (refl, tt)) tt (one, tt))) tt;
        offset = eqb-true o 0 p.asked.0;
        short = leb-true (length b) 65536 p.asked.1.0;
        pieces = pieces_of b;
        says = text_read_lem b p.after.0 p.after.1.0;
        inside = leb-true (farthest (pieces_of b)) (length_of σ k) p.bounds.0;
      }

  loaded_by : MayLoad σ k u φ b → Accepted σ (load_call k u φ b)
  loaded_by h =
      let p = access-passed m σ.state t (moving writing) k u φ (0 ∷ []) (accepted σ (access_call (moving writing) k u φ (0 ∷ [])) h.access).0 in
      let offset = eq-eqb o 0 h.offset in
      let long = le-leb (length b) most_text h.short in
      let twelve = spared 12 b h.pieces (λ e. omega (arith, e)) h.says in
      let thirteen = spared 13 b h.pieces (λ e. omega (arith, e)) h.says in
      let ends : leb (farthest (pieces_of b)) (length_of σ k) ≡ true = rw (pieces_are b h.pieces h.says) (le-leb (farthest h.pieces) (length_of σ k) h.inside) in
      granted_by σ (load_call k u φ b) (passed-access m σ.state t loading k u φ b (other_way (moving writing) loading (0 ∷ []) b p refl (offset, (long, tt)) (twelve, (thirteen, tt)) (ends, tt))) tt

  -- the length of a segment's text
  text-long : AccessPassed m σ.state t dumping k u φ b → length (written (segment_of σ k)) ≡ written_length (length_of σ k)
  text-long p =
      let there = segment_in m t k (search) (search) (line_formed_lem m t (number_of k) (search)) in
      let part : length (segment_of σ k) ≡ length_of σ k = simp (length-take, length-drop) (omega (arith, there.1)) in
      written-long (segment_of σ k) ∙ ap written_length part

  may_dump : Accepted σ (dump_call k u φ b) → MayDump σ k u φ b
  may_dump ok =
      let p = access-passed m σ.state t dumping k u φ b (accepted σ (dump_call k u φ b) ok).0 in
      let one = first_byte m t k p.asked.0 (search) (search) (line_formed_lem m t (number_of k) (search)) in
      let w : List ℕ = written (segment_of σ k) in
      let fits = (accepted_last σ (dump_call k u φ b) ok).0 in
      let long = text-long p in
      record {
        access = granted_by σ (access_call (moving reading) k u φ (0 ∷ [])) (passed-access m σ.state t (moving reading) k u φ (0 ∷ []) (other_way dumping (moving reading) b (0 ∷ []) p refl (refl, (refl, tt)) tt (one, tt))) tt;
        offset = eqb-true o 0 p.asked.0;
        short = omega (arith, long, leb-true (length w) most_text fits.0);
        room = omega (arith, long, leb-true (length w) (length b) fits.1.0);
      }

  dumped_by : MayDump σ k u φ b → Accepted σ (dump_call k u φ b)
  dumped_by h =
      let r = access-passed m σ.state t (moving reading) k u φ (0 ∷ []) (accepted σ (access_call (moving reading) k u φ (0 ∷ [])) h.access).0 in
      let p = other_way (moving reading) dumping (0 ∷ []) b r refl (eq-eqb o 0 h.offset, tt) tt tt in
      let w : List ℕ = written (segment_of σ k) in
      let long = text-long p in
      granted_by σ (dump_call k u φ b) (passed-access m σ.state t dumping k u φ b p) (le-leb (length w) most_text (omega (arith, long, h.short)), (le-leb (length w) (length b) (omega (arith, long, h.room)), tt))

pub as_accesses : AsAccesses
as_accesses = record { loads = may_load; load = loaded_by; dumps = may_dump; dump = dumped_by }

-- ---- what was dumped is restored

module _ (τ : Machine) (j v : ℕ) (ψ : Shift) (bs : List ℕ) (bytes : AllBytes bs) (short : written_length (length bs) ≤ most_text) (none : (named j).offset ≡ 0) (equal : length_of τ j ≡ length bs)
    (ok : Accepted τ (access_call (moving writing) j v ψ (0 ∷ []))) where
  abbrev q : Call
  q = load_call j v ψ (written bs)

  back : text.Restores bs
  back = restored bs bytes (omega (arith, short))

  granted : Accepted τ q
  granted = loaded_by τ j v ψ (written bs) (record { access = ok; offset = none; short = omega (arith, written-long bs, short); pieces = back.pieces; says = back.says; inside = omega (arith, back.fits, equal) })

  pub text-restored : Accepted τ q × (segment_of (step τ q) j ≡ bs)
  unfolding Loads
  text-restored =
      let did = loads_so τ j v ψ (written bs) granted in
      let same : loads did.pieces ≡ loads back.pieces = sym did.says ∙ back.says in
      let pieces : did.pieces ≡ back.pieces = cc in
      let a : Passed (checks (length τ.memory) τ.state τ.table (access writing j v ψ) (0 ∷ [])) = (accepted τ (access_call (moving writing) j v ψ (0 ∷ [])) ok).0 in
      let there = segment_in (length τ.memory) τ.table j (search) (search) (line_formed_lem (length τ.memory) τ.table (number_of j) (search)) in
      let part : length (segment_of τ j) ≡ length_of τ j = simp (length-take, length-drop) (omega (arith, there.1)) in
      (granted, did.segment ∙ ap (λ (ps : List Piece). apply ps (segment_of τ j)) pieces ∙ back.restores (segment_of τ j) (part ∙ equal))

pub restores : Restores
unfolding Restores Dumps
restores σ k u φ b bytes ok τ j v ψ none equal opened =
    let m : ℕ = length σ.memory in
    let e : Entry = named_entry σ.table k in
    let all : Passed (checks m σ.state σ.table (dump k u φ) b) = (accepted σ (dump_call k u φ b) ok).0 in
    let there = segment_in m σ.table k (search) (search) (line_formed_lem m σ.table (number_of k) (search)) in
    let part : length (segment_of σ k) ≡ e.length = simp (length-take, length-drop) (omega (arith, there.1)) in
    let short : written_length e.length ≤ most_text = (may_dump σ k u φ b ok).short in
    let own : AllBytes (segment_of σ k) = bytes_take e.length (drop e.base σ.memory) (bytes_drop e.base σ.memory bytes) in
    rw (dumps_so σ k u φ b ok).text (text-restored τ j v ψ (segment_of σ k) own (rw part short) none (equal ∙ sym part) opened)
