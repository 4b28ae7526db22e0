-- What paging out and in write, on whatever machine.
-- Assumes nothing.
use mathlib.Core.Path.{◌≡◌, refl, sym, ap, ◌∙◌}
use mathlib.Core.Logic.{◌≢◌, inl, inr}
use mathlib.Core.Bool.{false}
use mathlib.Core.List.{List}
use Prim.Native.Nat.{ℕ, ◌+◌, ◌-◌, ◌≤◌, ◌<◌, ◌^◌}
use native.Mathlib.Omega.{arith}
use lib.Dec.{eqb}
use lib.ListN.{length, length-replicate}
use borrow.Author.Tests.{ne_eqb}
use Rattle.layout.specs.Entry.{direct_fields, direct_widths, freed, paged_fields, paged_widths, Storable}
use Rattle.layout.specs.Form.{ill_formed}
use Rattle.bits.specs.Fields.{Fit}
use Rattle.layout.specs.declared.entry.Entry.{Entry}
use Rattle.machine.specs.Issuing.{issue, last_held, new_number, other_nonce}
use Rattle.machine.specs.Operations.{fresh, grant_page_in, grant_page_out, in_of, out_of}
use Rattle.machine.specs.Parts.{at, most_memory, moved, put, size, spent, State}
use Rattle.machine.specs.Searches.{FirstFree}
use Rattle.machine.specs.Segments.{In}
use Rattle.machine.specs.Writes.{vacated}
use Rattle.machine.proofs.Basics.{direct-present, put_all, range}
use Rattle.machine.proofs.Fates.{Touches}
use Rattle.machine.proofs.Fuel.{number_first, number_same, other-least}
use Rattle.machine.proofs.TableLaws.{at_other, at_same, at_storable, in_table, size-put, vacated_same}
use Rattle.machine.proofs.Written.{direct-fit, Good, issue-direct, issue-storable, paged-fit, paged-storable}

-- ---- out: entry n becomes one that is paged out, and then a new number gets its segment

module _ (s : State) (t : List ℕ) (n f : ℕ) where
  abbrev pub nonce_out : ℕ
  nonce_out = other_nonce s t n (out_of (at t n) f)

  abbrev pub entry_out : Entry
  entry_out = issue s n (out_of (at t n) f nonce_out)

  abbrev pub state_out : State
  state_out = moved s s.last (nonce_out + 1) s.total

  abbrev pub number_new : ℕ
  number_new = new_number state_out (put t n entry_out)

  abbrev pub nonce_new : ℕ
  nonce_new = other_nonce state_out (put t n entry_out) number_new (fresh (at t n))

  abbrev pub entry_new : Entry
  entry_new = issue s number_new (fresh (at t n) nonce_new)

  pub record Outward (m : ℕ) : Type 0 where
    pub up : s.next ≤ nonce_out
    pub second : nonce_out + 1 ≤ nonce_new
    pub whole : (0 < (at t n).length) × ((at t n).base + (at t n).length ≤ m)
    pub inside : n < size t
    pub storable : Storable entry_out
    pub new_good : Good m entry_new
    pub new_some : number_new ≢ 0
    pub new_inside : number_new < size t
    pub free : (at t number_new).kind ≡ 0
    pub away : n ≢ number_new
    -- the new number's entry is as it was when it is issued
    pub there : at (put t n entry_out) number_new ≡ at t number_new
    pub left : at (put (put t n entry_out) number_new entry_new) n ≡ entry_out
    pub left_new : at (put (put t n entry_out) number_new entry_new) number_new ≡ entry_new

  pub out_writes : (m : ℕ) → m ≤ most_memory → (at t n).kind ≡ 1 → ill_formed m (at t n) ≡ false → new_number s t ≢ 0 → f < 2 ^ 64 → nonce_new + 1 ≤ spent → Outward m
  out_writes m small d formed some hf hn =
      let up : s.next ≤ nonce_out = other-least s t n (out_of (at t n) f) in
      let second : nonce_out + 1 ≤ nonce_new = other-least state_out (put t n entry_out) number_new (fresh (at t n)) in
      let whole = range m (at t n) (direct-present (at t n) d) formed in
      let fit : Fit direct_widths (direct_fields (at t n)) = direct-fit (at t n) d (at_storable m t n (omega arith) formed) in
      let inside : n < size t = in_table t n (omega arith) in
      let storable : Storable entry_out = paged-storable s n (omega arith) (omega arith) (omega arith) (omega arith) (omega arith) in
      let new_good : Good m entry_new = issue-direct m s number_new small whole.0 whole.1 (omega arith) (omega arith) (omega arith) refl in
      -- a new number is found as before: no entry has become free, and none is free no more
      let as_before : number_new ≡ new_number s t =
      number_same s state_out t (put t n entry_out) refl (size-put t n entry_out) (put_all (λ i e. eqb e.kind 0 ≡ eqb (at t i).kind 0) t n entry_out storable inside (sym (ne_eqb (at t n).kind 0 (omega arith))) (λ i j. refl)) in
      let first : FirstFree t s.last (size t - 1) (new_number s t) = number_first s t some in
      let free : (at t number_new).kind ≡ 0 = rw as_before first.free in
      let new_inside : number_new < size t = rw as_before first.inside in
      let away : n ≢ number_new = λ e. omega (arith, ap (λ (i : ℕ). (at t i).kind) e) in
      record {
        up = up;
        second = second;
        whole = whole;
        inside = inside;
        storable = storable;
        new_good = new_good;
        new_some = rw as_before some;
        new_inside = new_inside;
        free = free;
        away = away;
        there = at_other t n number_new entry_out (λ e. away (sym e));
        left = at_other (put t n entry_out) number_new n entry_new away ∙ at_same t n entry_out storable inside;
        left_new = at_same (put t n entry_out) number_new entry_new new_good.storable (omega (arith, size-put t n entry_out));
      }

-- what its effect touches
pub out-touched : (t : List ℕ) (n f c x : ℕ) → Touches (grant_page_out t n f c).effect x → In (at t n) x
out-touched t n f c x (inl (inr x3)) = elim x3 [ ]
out-touched t n f c x (inl (inl h)) = (h.0, omega (arith, simp (length-replicate) at h.1))
out-touched t n f c x (inr h) = h

-- ---- in: entry n becomes direct in the segment of the donor k, which is freed

module _ (s : State) (t : List ℕ) (n k : ℕ) where
  abbrev pub nonce_in : ℕ
  nonce_in = other_nonce s t n (in_of (at t n) (at t k))

  abbrev pub entry_in : Entry
  entry_in = issue s n (in_of (at t n) (at t k) nonce_in)

  pub record Inward (m : ℕ) : Type 0 where
    pub up : s.next ≤ nonce_in
    pub whole : (0 < (at t k).length) × ((at t k).base + (at t k).length ≤ m)
    pub inside : n < size t
    pub donor-inside : k < size t
    pub storable : Storable entry_in
    pub away : n ≢ k
    -- the donor is as it was when it is freed
    pub there : at (put t n entry_in) k ≡ at t k
    pub left : at (vacated (put t n entry_in) k) n ≡ entry_in
    pub left_donor : at (vacated (put t n entry_in) k) k ≡ freed (last_held (put t n entry_in) k)

  pub in_writes : (m : ℕ) → m ≤ most_memory → (at t n).kind ≡ 3 → ill_formed m (at t n) ≡ false → (at t k).kind ≡ 1 → ill_formed m (at t k) ≡ false → (at t n).length ≡ (at t k).length → nonce_in + 1 ≤ spent → Inward m
  in_writes m small p formed d donor-formed equal hn =
      let whole = range m (at t k) (direct-present (at t k) d) donor-formed in
      let fit : Fit paged_widths (paged_fields (at t n)) = paged-fit (at t n) p (at_storable m t n (omega arith) formed) in
      let donor-fit : Fit direct_widths (direct_fields (at t k)) = direct-fit (at t k) d (at_storable m t k (omega arith) donor-formed) in
      let inside : n < size t = in_table t n (omega arith) in
      let donor-inside : k < size t = in_table t k (omega arith) in
      let storable : Storable entry_in = issue-storable m s n small (omega arith) (omega arith) (omega arith) (omega arith) in
      let away : n ≢ k = λ e. omega (arith, ap (λ (i : ℕ). (at t i).kind) e) in
      record {
        up = other-least s t n (in_of (at t n) (at t k));
        whole = whole;
        inside = inside;
        donor-inside = donor-inside;
        storable = storable;
        away = away;
        there = at_other t n k entry_in (λ e. away (sym e));
        left = at_other (put t n entry_in) k n _ away ∙ at_same t n entry_in storable inside;
        left_donor = vacated_same (put t n entry_in) k (omega (arith, size-put t n entry_in));
      }

pub in_touched : (t : List ℕ) (n k c : ℕ) (b : List ℕ) → length b ≡ (at t k).length → (x : ℕ) → Touches (grant_page_in t n k c b).effect x → In (at t k) x
in_touched t n k c b l x (inl (inr x3)) = elim x3 [ ]
in_touched t n k c b l x (inr x3) = elim x3 [ ]
in_touched t n k c b l x (inl (inl h)) = omega arith
