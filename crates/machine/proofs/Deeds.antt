-- What each granted request but a reset does, as a Deed.
-- Assumes nothing.
use mathlib.Core.Path.{◌≡◌, refl, sym, ap, subst, ◌∙◌}
use mathlib.Core.Logic.{◌≢◌, ◌⊎◌, inl, inr}
use mathlib.Core.List.Memᴰ
use mathlib.Core.List.{List, [], ◌∷◌}
use mathlib.Core.Bool.{Bool, true, false, false≢true, not, ◌&&◌, cond}
use Prim.Native.Nat.{ℕ, zero, suc, ◌+◌, ◌-◌, ◌≤◌, ◌<◌, ◌^◌}
use native.Mathlib.Omega.{arith}
use native.Mathlib.Decide.{dec_lt, ℕ_discrete}
use lib.Bits.{and_le_l}
use lib.Dec.{leb, ltb, eqb}
use lib.ListN.{length, length-replicate}
use borrow.Author.Tests.{eqb-false, eqb-true, leb-true, ltb-false, ltb-true, ne_eqb, not-true}
use Rattle.hexfile.specs.Text.{farthest}
use Rattle.layout.specs.Entry.{direct_fields, direct_widths, recounted, Storable}
use Rattle.bits.specs.Fields.{Fit}
use Rattle.tokens.specs.Permissions.{within, X}
use Rattle.tokens.specs.Token.{named}
use Rattle.layout.specs.declared.entry.Entry.{Entry}
use Rattle.machine.specs.FreeTotal.{vacant}
use Rattle.machine.specs.FromReset.{Has, Inside, owned}
use Rattle.machine.specs.Images.{pieces_of}
use Rattle.machine.specs.Issuing.{issue, last_held, new_number, other_nonce}
use Rattle.machine.specs.Line.{is_locked, Line, line_of, linked, locked_from, owner, owner_of, parent_number}
use Rattle.machine.specs.MachineSystem.{IsReset, resets, Revokes, revokes}
use Rattle.machine.specs.Operations.{carried, child_of, climb, Effect, effect_by, exactly, fill_with, fresh, grant, grant_create, grant_derive, grant_lock, grant_merge, grant_page_in, grant_page_out, grant_release, grant_revoke, in_of, issuing, Known, merged_of, named_entry, nothing, number_of, out_of, part_of, Reply, rest_of, shown, up_to}
use Rattle.machine.specs.Parts.{at, moved, put, size, spent, State}
use Rattle.machine.specs.Requests.{Access, accessing, clone, create, derive, dumping, execute_only, fetching, loading, lock, look, merge, moving, page_in, page_out, reading, release, Request, reset, revoke, Shift, task_of, unlock, writing}
use Rattle.machine.specs.Segments.{above, In, itself, Owns}
use Rattle.machine.specs.Stops.{asks, checks}
use Rattle.machine.specs.Writes.{Book, give, Name, name_of, one_less, opened, vacate, vacated, Write, write, written}
use Rattle.machine.proofs.Basics.{direct-present, neqb_true, owner-direct, parent, present, Present, put_all, put2_all, range}
use Rattle.machine.proofs.Choices.{by_cond}
use Rattle.machine.proofs.Decided.{access-passed, Passed, rest-passed}
use Rattle.machine.proofs.Fates.{Anew, core, Deed, Fate, gone, Inv, issued, kept, Names, none, one, Shut, Source, spares, Touches, two}
use Rattle.machine.proofs.Fuel.{Live, number_first, other_first, other-least, walk-owner, walk-owns}
use Rattle.machine.proofs.PageWrites.{entry_in, entry_new, entry_out, in_touched, in_writes, Inward, nonce_in, nonce_new, number_new, out-touched, out_writes, Outward, state_out}
use Rattle.machine.proofs.PlaceLaws.{placed_touches}
use Rattle.machine.proofs.Sums.{owned-direct, owned-other, sum_put2, sum_same}
use Rattle.machine.proofs.TableLaws.{at_other, at_same, freed-storable, held_small, in_table, size-put}
use Rattle.machine.proofs.Tallies.{Tally, tally_free, tally_give, tally_keep, tally_same, tally_then}
use Rattle.machine.proofs.WriteLaws.{Calm, calm_still, release_calm}
use Rattle.machine.proofs.Written.{direct-fit, direct_good, fitting, free_good, Good, issue-direct, issue-indirect, paged_good, parent-named, recount_good, relock_good}

-- nobody's bytes go to another owner
abbrev stay : ℕ → ℕ → ℕ
stay k x = k

-- two entries of one type over one segment
record Over (e' e : Entry) : Type 0 where
  kind : e'.kind ≡ e.kind
  base : e'.base ≡ e.base
  length : e'.length ≡ e.length

-- e is direct and has byte x
abbrev Holds : Entry → ℕ → Type 0
Holds e x = (e.kind ≡ 1) × In e x

-- a byte of an entry is a byte of its owner
owner-range : (m : ℕ) (s : State) (t : List ℕ) → Inv m s t → (x : ℕ) {n k : ℕ} → Owns t n k → In (at t n) x → In (at t k) x
owner-range m s t inv x (itself k) h = h
owner-range m s t inv x (above {n = n} l o) h =
    let i : Inside (at t n) (parent t n) = inv.inside n l in
    owner-range m s t inv x o (omega arith)

-- the owner of a line that is open to u is not locked for another task than u
owner_open : (t : List ℕ) (l : Line) (u : ℕ) → l ≡ owner (owner_of l) → not (locked_from t u l) ≡ true → Shut u (at t (owner_of l)) → ⊥
owner_open t l u e o h =
    let k : ℕ = owner_of l in
    false≢true (rw (h.locked, ne_eqb (at t k).holder u h.other) at (subst (λ (x : Line). not (locked_from t u x) ≡ true) e o))

-- what one store touches, whatever its bytes, and a transfer
once-stored : {P : Type 0} → (P ⊎ ⊥) ⊎ ⊥ → P
once-stored {P = P} (inl (inr x'')) = elim x'' [ ]
once-stored {P = P} (inr x'') = elim x'' [ ]
once-stored (inl (inl h)) = h

-- an access touches bytes of the segment alone
touched : (w : Access) (e : Entry) (o : ℕ) (b : List ℕ) → Passed (asks w o b e).bounds → (x : ℕ) → Touches (effect_by w e o b) x → In e x
touched (moving reading) e o b p x (inl h) = elim h [ ]
touched (moving fetching) e o b p x (inl h) = elim h [ ]
touched loading e o b p x (inr h) = elim h [ ]
touched dumping e o b p x (inl h) = elim h [ ]
touched (moving reading) e o b p x (inr h) = omega (arith, leb-true (o + length b) e.length p.0)
touched (moving writing) e o b p x h = omega (arith, once-stored h, leb-true (o + length b) e.length p.0)
touched (moving fetching) e o b p x (inr h) = omega (arith, leb-true (o + length b) e.length p.0)
touched loading e o b p x (inl h) = omega (arith, placed_touches e.base (pieces_of b) x h, leb-true (farthest (pieces_of b)) e.length p.0)
touched dumping e o b p x (inr h) = h

module _ (m : ℕ) (s : State) (t : List ℕ) (inv : Inv m s t) where
  unmoved : (q : Request) (μ ν : ℕ) (ks : List Name) (n : ℕ) → Fate t q μ ν ks stay n (at t n)
  unmoved q μ ν ks n = kept refl (λ x h. refl) (λ h. (refl, refl))

  owns : (n : ℕ) → Present (at t n) → Live (line_of m t n) → Owns t n (owner_of (line_of m t n))
  owns n k v = walk-owns (suc (at t n).nonce) m t n k v

  ends : (n : ℕ) → Present (at t n) → Live (line_of m t n) → line_of m t n ≡ owner (owner_of (line_of m t n))
  ends n k v = walk-owner (suc (at t n).nonce) m t n k v

  -- no entry is written
  pub deed_none : (q : Request) {s' : State} {r : Reply} {f : Effect} → s.next ≤ s'.next → s'.total ≡ s.total
      → ((n x : ℕ) → Shut (task_of q) (at t n) → (Revokes q n → ⊥) → Touches f x → In (at t n) x → ⊥)
      → Deed m s t q (record { state = s'; table = t; reply = r; issued = []; effect = f })
  deed_none q {s'} up same sp =
      record { up = up; least = s.next; above = omega arith; moves = stay; fate = unmoved q s.next s'.next []; names = none; carried = λ n x h. h; spared = sp; good = inv.good; long = refl; sum = refl; tally = tally_same t t refl same }

  -- a byte of an entry whose line is open to u is no byte of an entry that is locked for another task
  owner-shut : (k u : ℕ) → Present (named_entry t k) → Live (line_of m t (number_of k)) → not (locked_from t u (line_of m t (number_of k))) ≡ true
      → (x : ℕ) → In (named_entry t k) x → (i : ℕ) → Shut u (at t i) → In (at t i) x → ⊥
  owner-shut k u full live op x here i sh ins =
      let l : Line = line_of m t (number_of k) in
      let o : Owns t (number_of k) (owner_of l) = owns (number_of k) full live in
      let e : owner_of l ≡ i = inv.tiled (owner_of l) i x (record { direct = owner-direct o; inside = owner-range m s t inv x o here }) (record { direct = sh.direct; inside = ins }) in
      owner_open t l u (ends (number_of k) full live) op (rw e sh)

  deed_access : (w : Access) (k u : ℕ) (φ : Shift) (b : List ℕ) → Passed (checks m s t (accessing w k u φ) b) → Deed m s t (accessing w k u φ) (carried s t (grant m t (accessing w k u φ) b))
  deed_access w k u φ b h =
      let p = access-passed m s t w k u φ b h in
      deed_none (accessing w k u φ) (omega arith) refl
      (λ i x sh nr tc ins. owner-shut k u (present (named_entry t k) (search) (search)) (search, search) (search) x (touched w (named_entry t k) (named k).offset b p.bounds x tc) i sh ins)

  has : {n x : ℕ} → Has t n x → Holds (at t n) x
  has h = (h.direct, h.inside)

  -- ---- one entry is written, over the segment that it had

  deed_put : (q : Request) {n : ℕ} {e : Entry} {s' : State} {r : Reply} {ks : List Name} {f : Effect} → s.next ≤ s'.next → s'.total ≡ s.total → Good m e → (at t n).kind ≢ 0 → Over e (at t n)
      → Fate t q s.next s'.next ks stay n e → Names t (put t n e) ks
      → ((i x : ℕ) → Shut (task_of q) (at t i) → (Revokes q i → ⊥) → Touches f x → In (at t i) x → ⊥)
      → Deed m s t q (record { state = s'; table = put t n e; reply = r; issued = ks; effect = f })
  deed_put q {n} {e} {s'} {r} {ks} {f} up same good full o fate names sp =
      record {
        up = up;
        least = s.next;
        above = omega arith;
        names = names;
        moves = stay;
        fate = each (λ i y. Fate t q s.next s'.next ks stay i y) fate (λ i j. unmoved q s.next s'.next ks i);
        carried = λ i x h.
            let c : Holds (at (put t n e) i) x = each (λ k y. Has t k x → Holds y x) (λ k. (o.kind ∙ k.direct, omega arith)) (λ k j. has) i h in
            record { direct = c.0; inside = c.1 };
        spared = sp;
        good = each (λ i y. Good m y) good (λ i j. inv.good i);
        long = size-put t n e;
        sum = sum_same (λ n e. owned e) t (put t n e) (size-put t n e) (each (λ i y. owned y ≡ owned (at t i)) (rw (o.kind, o.length)) (λ i j. refl));
        tally = tally_same t (put t n e) (sum_same vacant t (put t n e) (size-put t n e) (each (λ i y. vacant i y ≡ vacant i (at t i)) (rw o.kind) (λ i j. refl))) same;
      }
    where
      each : (P : ℕ → Entry → Type 0) → P n e → ((i : ℕ) → i ≢ n → P i (at t i)) → (i : ℕ) → P i (at (put t n e) i)
      each P = put_all P t n e good.storable (in_table t n full)

  -- ---- two entries are written, first p and then n

  -- a byte that owner k has now is in a under p, or in b under n
  data Lands (p n : ℕ) (a b : Entry) (k x : ℕ) : Type 0 where
    first : p ≡ k → Holds a x → Lands p n a b k x
    second : n ≡ k → Holds b x → Lands p n a b k x

  deed_put2 : (q : Request) {p n : ℕ} {a b : Entry} {s' : State} {r : Reply} {ks : List Name} {f : Effect} (μ : ℕ) (g : ℕ → ℕ → ℕ) → s.next ≤ μ → s.next ≤ s'.next → Good m a → Good m b → p < size t → n < size t → p ≢ n
      → owned a + owned b ≡ owned (at t p) + owned (at t n)
      → Tally t s.total (put (put t p a) n b) s'.total
      → Fate t q μ s'.next ks g n b → Fate t q μ s'.next ks g p a → Names t (put (put t p a) n b) ks → ((i : ℕ) → i ≢ n → i ≢ p → (x : ℕ) → i ≡ g i x)
      → ((x : ℕ) → Has t n x → Lands p n a b (g n x) x) → ((x : ℕ) → Has t p x → Lands p n a b (g p x) x)
      → ((i x : ℕ) → Shut (task_of q) (at t i) → Touches f x → In (at t i) x → ⊥)
      → Deed m s t q (record { state = s'; table = put (put t p a) n b; reply = r; issued = ks; effect = f })
  deed_put2 q {p} {n} {a} {b} {s'} {r} {ks} {f} μ g low up ga gb hp hn d sum count nb pa names others cn cp sp =
      record {
        up = up;
        least = μ;
        above = low;
        names = names;
        moves = g;
        fate = each (λ i y. Fate t q μ s'.next ks g i y) nb pa (λ i j k. kept refl (λ x h. others i j k x) (λ h. (refl, refl)));
        carried = λ i x h. moved_to i x h (ℕ_discrete i n) (ℕ_discrete i p);
        spared = λ i x sh nr tc ins. sp i x sh tc ins;
        good = each (λ i y. Good m y) gb ga (λ i j k. inv.good i);
        long = size-put (put t p a) n b ∙ size-put t p a;
        sum = omega (arith, sum_put2 (λ n e. owned e) t p n a b ga.storable gb.storable hp hn d, sum);
        tally = count;
      }
    where
      each : (P : ℕ → Entry → Type 0) → P n b → P p a → ((i : ℕ) → i ≢ n → i ≢ p → P i (at t i)) → (i : ℕ) → P i (at (put (put t p a) n b) i)
      each P = put2_all P t p n a b ga.storable gb.storable hp hn

      landed : (k x : ℕ) → Lands p n a b k x → Has (put (put t p a) n b) k x
      landed k x (first e h) =
          let c : Holds (at (put (put t p a) n b) p) x = each (λ i y. i ≡ p → Holds y x) (λ i. absurd (d (sym i))) (λ i. h) (λ i j l m. absurd (l m)) p refl in
          rw (← e) (record { direct = c.0; inside = c.1 })
      landed k x (second e h) =
          let c : Holds (at (put (put t p a) n b) n) x = each (λ i y. i ≡ n → Holds y x) (λ i. h) (λ i. absurd (d i)) (λ i j l m. absurd (j m)) n refl in
          rw (← e) (record { direct = c.0; inside = c.1 })

      moved_to : (i x : ℕ) → Has t i x → Dec (i ≡ n) → Dec (i ≡ p) → Has (put (put t p a) n b) (g i x) x
      moved_to i x h (yes e) f = rw e (landed (g n x) x (cn x (rw e at h)))
      moved_to i x h (no e) (yes f) = rw f (landed (g p x) x (cp x (rw f at h)))
      moved_to i x h (no e) (no f) =
          let c : Holds (at (put (put t p a) n b) i) x = rw (at_other (put t p a) n i b e, at_other t p i a f) (has h) in
          rw (← others i e f x) (record { direct = c.0; inside = c.1 })

  -- what is issued is there, with another tag than its entry had
  anew : {n : ℕ} {e : Entry} → Good m e → e.kind ≢ 0 → n < size t → e.tag ≢ (at t n).tag → Anew t (put t n e) (name_of n e)
  anew {n} {e} g k h o =
      let there : at (put t n e) n ≡ e = at_same t n e g.storable h in
      record { full = rw there k; has = ap (λ (x : Entry). x.tag) there; other = o }

  anew_first : {p n : ℕ} {a : Entry} (b : Entry) → Good m a → a.kind ≢ 0 → p < size t → p ≢ n → a.tag ≢ (at t p).tag → Anew t (put (put t p a) n b) (name_of p a)
  anew_first {p} {n} {a} b g k h d o =
      let there : at (put (put t p a) n b) p ≡ a = at_other (put t p a) n p b d ∙ at_same t p a g.storable h in
      record { full = rw there k; has = ap (λ (x : Entry). x.tag) there; other = o }

  anew-second : (p : ℕ) {n : ℕ} (a : Entry) {b : Entry} → Good m b → b.kind ≢ 0 → n < size t → b.tag ≢ (at t n).tag → Anew t (put (put t p a) n b) (name_of n b)
  anew-second p {n} a {b} g k h o =
      let there : at (put (put t p a) n b) n ≡ b = at_same (put t p a) n b g.storable (rw size-put h) in
      record { full = rw there k; has = ap (λ (x : Entry). x.tag) there; other = o }

  -- the tag that an issue gives is another than the one that its entry last held
  new_tag : (n : ℕ) (e : ℕ → Entry) → other_nonce s t n e < spent → (issue s n (e (other_nonce s t n e))).tag ≢ (at t n).tag
  new_tag n e h = (other_first s t n e h).other

  apart : {n p : ℕ} → (at t n).kind ≢ 0 → (at t p).kind ≡ 0 → p ≢ n
  apart k z e = k (rw (← e) z)

  -- the new number is given, and an entry that was there is there still
  given : new_number s t ≢ 0 → {e : Entry} → Storable e → e.kind ≢ 0 → Tally t s.total (put t (new_number s t) e) (one_less s.total)
  given f {e} st k = tally_give t (new_number s t) e s.total st k f (number_first s t f).inside (number_first s t f).free

  beside : new_number s t ≢ 0 → (e : Entry) (n : ℕ) → (at t n).kind ≢ 0 → (at (put t (new_number s t) e) n).kind ≢ 0
  beside f e n k = rw (at_other t (new_number s t) n e (λ i. apart k (number_first s t f).free (sym i))) k

  -- derive and execute-only: a child in the segment of n
  deed_derive : (q : Request) (n o l p c : ℕ) → Present (at t n) → new_number s t ≢ 0 → 0 < l → o + l ≤ (at t n).length → p < 8 → within p (at t n).permissions ≡ true → (at t n).count < 65535 → other_nonce s t (new_number s t) (child_of n (at t n) o l p) + 1 ≤ spent
      → Deed m s t q (carried s t (grant_derive t n o l p c))
  deed_derive q n o l p c stands f pos b hp hr hc hn =
      let k : (at t n).kind ≢ 0 = stands.full in
      let child : ℕ → Entry = child_of n (at t n) o l p in
      let ν : ℕ = other_nonce s t (new_number s t) child in
      let least = other-least s t (new_number s t) child in
      let in_n : n < size t = in_table t n k in
      let most : size t ≤ 1024 = inv.most in
      let low : n < 1024 = omega arith in
      let whole = range m (at t n) stands (inv.good n).formed in
      let named_n : parent_number (child_of n (at t n) o l p ν) ≡ n = parent-named m n (at t n) (inv.good n) low in
      let child_good : Good m (issue s (new_number s t) (child_of n (at t n) o l p ν)) = issue-indirect m s (new_number s t) n inv.small (inv.good n) low pos (omega arith) hp (omega arith) in
      let parent_good : Good m (recounted (at t n) ((at t n).count + 1)) = recount_good m (inv.good n) stands (omega arith) (λ i. omega arith) in
      deed_put2 q ν stay
      least
      (omega (arith, least))
      child_good
      parent_good
      (number_first s t f).inside in_n (apart k (number_first s t f).free)
      (omega (arith, owned-other (at t (new_number s t)) (omega (arith, (number_first s t f).free))))
      (tally_then (given f child_good.storable (omega arith)) (tally_keep _ n _ _ parent_good.storable k (beside f _ n k)))
      (kept refl (λ x h. refl) (λ h. (refl, refl)))
      (issued (omega arith) (omega arith) (Memᴰ.head refl)
      (λ z. (refl, rw named_n (record { low = omega arith; high = omega arith; rights = hr })))
      (λ z. absurd (omega arith))
      (λ h. absurd (omega (arith, h.direct, (number_first s t f).free))))
      (one (anew_first _ child_good (omega arith) (number_first s t f).inside (apart k (number_first s t f).free) (new_tag (new_number s t) child (omega arith))))
      (λ i j v x. refl)
      (λ x h. second refl (has h))
      (λ x h. absurd (omega (arith, h.direct, (number_first s t f).free)))
      (λ i x sh tc ins. spares x tc)

  -- create: the bytes of n before y go to p
  abbrev split : (n p y : ℕ) → ℕ → ℕ → ℕ
  split n p y k x = cond (eqb k n) (cond (ltb x y) p k) k

  split-front : (n p y x : ℕ) → x < y → p ≡ split n p y n x
  split-front n p y x h =
      by_cond (λ r. p ≡ r) (eqb n n)
      (λ i. by_cond (λ r. p ≡ r) (ltb x y) (λ j. refl) (λ j. absurd (omega (arith, ltb-false x y j))))
      (λ i. absurd (eqb-false n n i refl))

  split_back : (n p y x : ℕ) → y ≤ x → n ≡ split n p y n x
  split_back n p y x h =
      by_cond (λ r. n ≡ r) (eqb n n)
      (λ i. by_cond (λ r. n ≡ r) (ltb x y) (λ j. absurd (omega (arith, ltb-true x y j))) (λ j. refl))
      (λ i. refl)

  split-other : (n p y k x : ℕ) → k ≢ n → k ≡ split n p y k x
  split-other n p y k x h =
      by_cond (λ r. k ≡ r) (eqb k n) (λ i. absurd (h (eqb-true k n i))) (λ i. refl)

  deed_create : (q : Request) (n l u p c : ℕ) → (at t n).kind ≡ 1 → (at t n).locked ≡ false → 0 < l → l ≤ (at t n).length → new_number s t ≢ 0
      → u < 2 ^ 64 → p < 8 → (carried s t (grant_create t n l u p c)).state.next ≤ spent → Deed m s t q (carried s t (grant_create t n l u p c))
  deed_create q n l u p c k z pos b f hu hp hn =
      by_cond (λ w. let d = carried s t (issuing c (give (part_of (at t n) l u p) ∷ w ∷ [])) in d.state.next ≤ spent → Deed m s t q d) (eqb l (at t n).length)
      (λ e v.
      let same : l ≡ (at t n).length = eqb-true l (at t n).length e in
      let good : Good m a = a_good (omega arith) in
      deed_put2 q s.next (split n new y) (omega arith) (omega (arith, least₁))
      good (free_good m (held_small (put t new a) n)) inside in_n away
      (omega (arith, owned-direct (at t n) k, owned-other (at t new) (omega (arith, (number_first s t f).free))))
      (tally_then (given f good.storable (omega arith)) (tally_free (put t new a) n (last_held (put t new a) n) _ (freed-storable (put t new a) n) (beside f a n (omega arith))))
      (gone refl (ap (λ (x : Entry). x.tag) there) unlocked)
      (issued (omega (arith, least₁)) (omega arith) (Memᴰ.head refl) (λ h. absurd (omega arith)) (λ h x i. part x i) (λ h. absurd (vacant h)))
      (one (anew_first _ good (omega arith) inside away (new_tag new (part_of (at t n) l u p) (omega arith))))
      (λ i j v x. split-other n new y i x j)
      (λ x h. first (split-front n new y x (omega (arith, h.inside))) (refl, omega (arith, h.inside)))
      (λ x h. absurd (omega (arith, h.direct, (number_first s t f).free)))
      (λ i x sh tc ins. spares x tc))
      (λ e v.
      let less : l ≢ (at t n).length = eqb-false l (at t n).length e in
      let good : Good m a = a_good (omega (arith, least₂)) in
      let rest_good : Good m r = issue-direct m s n inv.small (omega arith) (omega (arith, whole)) (omega (arith, fit)) (omega (arith, fit)) (omega arith) ((inv.good n).lockable k) in
      let other : r.tag ≢ (at t n).tag = subst (λ (x : Entry). r.tag ≢ x.tag) there (other_first s₁ (put t new a) n rest (omega arith)).other in
      deed_put2 q s.next (split n new y) (omega arith) (omega (arith, least₁, least₂))
      good
      rest_good
      inside in_n away
      (omega (arith, owned-direct (at t n) k, owned-other (at t new) (omega (arith, (number_first s t f).free))))
      (tally_then (given f good.storable (omega arith)) (tally_keep _ n _ _ rest_good.storable (omega arith) (beside f a n (omega arith))))
      (issued (omega (arith, least₁, least₂)) (omega arith) (Memᴰ.tail (Memᴰ.head refl)) (λ h. absurd (omega arith))
      (λ h x i. record { from = n; has = record { direct = k; inside = omega arith }; to = split_back n new y x i.0 })
      (λ h. absurd (unlocked h)))
      (issued (omega (arith, least₁)) (omega (arith, least₂)) (Memᴰ.head refl) (λ h. absurd (omega arith)) (λ h x i. part x i) (λ h. absurd (vacant h)))
      (two (anew_first _ good (omega arith) inside away (new_tag new (part_of (at t n) l u p) (omega (arith, least₂)))) (anew-second new a rest_good (omega arith) in_n other) away)
      (λ i j v x. split-other n new y i x j)
      (λ x h. lands x h (dec_lt x y))
      (λ x h. absurd (omega (arith, h.direct, (number_first s t f).free)))
      (λ i x sh tc ins. spares x tc))
      hn
    where
      new : ℕ
      new = new_number s t

      y : ℕ
      y = (at t n).base + l

      -- the part, with its nonce, and the state after it; the rest, with its nonce
      ν₁ : ℕ
      ν₁ = other_nonce s t new (part_of (at t n) l u p)

      a : Entry
      a = issue s new (part_of (at t n) l u p ν₁)

      s₁ : State
      s₁ = moved s new (ν₁ + 1) (one_less s.total)

      rest : ℕ → Entry
      rest ν = rest_of (at t n) l ν

      ν₂ : ℕ
      ν₂ = other_nonce s₁ (put t new a) n rest

      r : Entry
      r = issue s n (rest ν₂)

      least₁ : s.next ≤ ν₁
      least₁ = other-least s t new (part_of (at t n) l u p)

      least₂ : ν₁ + 1 ≤ ν₂
      least₂ = other-least s₁ (put t new a) n rest

      whole : (0 < (at t n).length) × ((at t n).base + (at t n).length ≤ m)
      whole = range m (at t n) (direct-present (at t n) k) (inv.good n).formed

      fit : Fit direct_widths (direct_fields (at t n))
      fit = direct-fit (at t n) k (inv.good n).storable

      in_n : n < size t
      in_n = in_table t n (omega arith)

      inside : new < size t
      inside = (number_first s t f).inside

      away : new ≢ n
      away = apart (omega arith) (number_first s t f).free

      -- the part is another entry, so that this one is still there when it is issued
      there : at (put t new a) n ≡ at t n
      there = at_other t new n a (λ e. away (sym e))

      unlocked : Shut (task_of q) (at t n) → ⊥
      unlocked h = let one : ◌≡◌ {A = ℕ} 0 1 = cc h.locked in omega arith

      vacant : Shut (task_of q) (at t new) → ⊥
      vacant h = omega (arith, h.direct, (number_first s t f).free)

      a_good : ν₁ < spent → Good m a
      a_good h = issue-direct m s new inv.small (omega arith) (omega (arith, whole)) hu hp h ((inv.good n).lockable k)

      part : (x : ℕ) → In a x → Source t (split n new y) new x
      part x i = record { from = n; has = record { direct = k; inside = omega arith }; to = split-front n new y x i.1 }

      lands : (x : ℕ) → Has t n x → Dec (x < y) → Lands new n a r (split n new y n x) x
      lands x h (yes i) = first (split-front n new y x i) (refl, omega (arith, h.inside))
      lands x h (no i) = second (split_back n new y x (omega arith)) (refl, omega (arith, h.inside))

  -- an entry that is not locked is not locked for another task
  not_shut : {e : Entry} {u : ℕ} → Shut u e → e.locked ≡ false → ⊥
  not_shut h e = let one : ◌≡◌ {A = ℕ} 0 1 = cc h.locked in omega arith

  -- merge: the bytes of k go to n
  abbrev fuse : (n k : ℕ) → ℕ → ℕ → ℕ
  fuse n k i x = cond (eqb i k) n i

  fuse_first : (n k x : ℕ) → n ≡ fuse n k n x
  fuse_first n k x = by_cond (λ r. n ≡ r) (eqb n k) (λ i. refl) (λ i. refl)

  fuse_second : (n k x : ℕ) → n ≡ fuse n k k x
  fuse_second n k x = by_cond (λ r. n ≡ r) (eqb k k) (λ i. refl) (λ i. absurd (eqb-false k k i refl))

  fuse_other : (n k i x : ℕ) → i ≢ k → i ≡ fuse n k i x
  fuse_other n k i x h = by_cond (λ r. i ≡ r) (eqb i k) (λ j. absurd (h (eqb-true i k j))) (λ j. refl)

  deed_merge : (q : Request) (n k c : ℕ) → (at t n).kind ≡ 1 → (at t k).kind ≡ 1 → (at t n).locked ≡ false → (at t k).locked ≡ false
      → (at t k).base ≡ (at t n).base + (at t n).length → other_nonce s t n (merged_of (at t n) (at t k)) + 1 ≤ spent → Deed m s t q (carried s t (grant_merge t n k c))
  deed_merge q n k c d d' z z' b hn =
      let whole = range m (at t n) (direct-present (at t n) d) (inv.good n).formed in
      let whole' = range m (at t k) (direct-present (at t k) d') (inv.good k).formed in
      let fit : Fit direct_widths (direct_fields (at t n)) = direct-fit (at t n) d (inv.good n).storable in
      let good : Good m a = issue-direct m s n inv.small (omega arith) (omega arith) (omega arith) (omega (arith, and_le_l (at t n).permissions (at t k).permissions)) (omega arith) ((inv.good n).lockable d) in
      let away : n ≢ k = λ e. let same : (at t n).base ≡ (at t k).base = ap (λ (x : ℕ). (at t x).base) e in omega arith in
      let there : at (put t n a) k ≡ at t k = at_other t n k a (λ e. away (sym e)) in
      let least = other-least s t n (merged_of (at t n) (at t k)) in
      let full : (at (put t n a) k).kind ≢ 0 = rw there (omega arith) in
      deed_put2 q s.next (fuse n k) (omega arith) (omega (arith, least))
      good
      (free_good m (held_small (put t n a) k))
      (in_table t n (omega arith)) (in_table t k (omega arith))
      away
      (omega (arith, owned-direct (at t n) d, owned-direct (at t k) d'))
      (tally_then (tally_keep t n a s.total good.storable (omega arith) (omega arith)) (tally_free (put t n a) k (last_held (put t n a) k) _ (freed-storable (put t n a) k) full))
      (gone refl (ap (λ (x : Entry). x.tag) there) (λ h. not_shut h z'))
      (issued (omega (arith, least)) (omega arith) (Memᴰ.head refl) (λ h. absurd (omega arith)) (λ h x i. from x i (dec_lt x (at t k).base)) (λ h. absurd (not_shut h z)))
      (one (anew_first _ good (omega arith) (in_table t n (omega arith)) away (new_tag n (merged_of (at t n) (at t k)) (omega arith))))
      (λ i j v x. fuse_other n k i x j)
      (λ x h. first (fuse_second n k x) (refl, omega (arith, h.inside)))
      (λ x h. first (fuse_first n k x) (refl, omega (arith, h.inside)))
      (λ i x sh tc ins. spares x tc)
    where
      a : Entry
      a = issue s n (merged_of (at t n) (at t k) (other_nonce s t n (merged_of (at t n) (at t k))))

      from : (x : ℕ) → In a x → Dec (x < (at t k).base) → Source t (fuse n k) n x
      from x i (yes h) = record { from = n; has = record { direct = d; inside = omega arith }; to = fuse_first n k x }
      from x i (no h) = record { from = k; has = record { direct = d'; inside = omega arith }; to = fuse_second n k x }

  -- ---- paging

  -- the bytes of a direct entry that is not locked are none of one that is
  not_touched : (n : ℕ) → (at t n).kind ≡ 1 → (at t n).locked ≡ false → (u i x : ℕ) → Shut u (at t i) → In (at t n) x → In (at t i) x → ⊥
  not_touched n d z u i x sh here ins =
      not_shut (subst (λ (j : ℕ). Shut u (at t j)) (sym (inv.tiled n i x (record { direct = d; inside = here }) (record { direct = sh.direct; inside = ins }))) sh) z

  -- out: the bytes of n go to the new number
  deed_out : (q : Request) (n f c : ℕ) → (at t n).kind ≡ 1 → (at t n).locked ≡ false → new_number s t ≢ 0 → f < 2 ^ 64
      → nonce_new s t n f + 1 ≤ spent → Deed m s t q (carried s t (grant_page_out t n f c))
  deed_out q n f c d z some hf hn =
      let w : Outward s t n f m = out_writes s t n f m inv.small d (inv.good n).formed some hf hn in
      let good : Good m a = paged_good m w.whole.0 w.storable ((inv.good n).lockable d) in
      let other : b.tag ≢ (at t new).tag = subst (λ (x : Entry). b.tag ≢ x.tag) w.there (other_first (state_out s t n f) (put t n a) new (fresh (at t n)) (omega arith)).other in
      deed_put2 q s.next (fuse new n) (omega arith) (omega arith)
      good w.new_good w.inside w.new_inside w.away
      (omega (arith, owned-direct (at t n) d, owned-other (at t new) (omega arith)))
      (tally_then (tally_keep t n a s.total w.storable (omega arith) (omega arith)) (tally_give (put t n a) new b s.total w.new_good.storable (omega arith) w.new_some (omega (arith, size-put t n a)) (ap (λ (x : Entry). x.kind) w.there ∙ w.free)))
      (issued (omega arith) (omega arith) (Memᴰ.tail (Memᴰ.head refl)) (λ h. absurd (omega arith))
      (λ h x i. record { from = n; has = record { direct = d; inside = omega arith }; to = fuse_second new n x })
      (λ h. absurd (omega (arith, h.direct))))
      (issued (omega arith) (omega arith) (Memᴰ.head refl) (λ h. absurd (omega arith)) (λ h. absurd (omega arith)) (λ h. absurd (not_shut h z)))
      (two (anew_first b good (omega arith) w.inside w.away (new_tag n (out_of (at t n) f) (omega arith))) (anew-second n a w.new_good (omega arith) w.new_inside other) w.away)
      (λ i j v x. fuse_other new n i x v)
      (λ x h. absurd (omega (arith, h.direct)))
      (λ x h. second (fuse_second new n x) (refl, omega (arith, h.inside)))
      (λ i x sh tc ins. not_touched n d z (task_of q) i x sh (out-touched t n f c x tc) ins)
    where
      a : Entry
      a = entry_out s t n f

      new : ℕ
      new = number_new s t n f

      b : Entry
      b = entry_new s t n f

  -- in: the bytes of the donor k go to n
  deed_in : (q : Request) (n k c : ℕ) (bs : List ℕ) → (at t n).kind ≡ 3 → (at t k).kind ≡ 1 → (at t k).locked ≡ false → length bs ≡ (at t n).length → (at t n).length ≡ (at t k).length
      → nonce_in s t n k + 1 ≤ spent → Deed m s t q (carried s t (grant_page_in t n k c bs))
  deed_in q n k c bs p d z long equal hn =
      let w : Inward s t n k m = in_writes s t n k m inv.small p (inv.good n).formed d (inv.good k).formed equal hn in
      let good : Good m a = direct_good m (omega arith) (omega arith) w.storable ((inv.good n).paged_lockable p) in
      let full : (at (put t n a) k).kind ≢ 0 = rw w.there (omega arith) in
      deed_put2 q s.next (fuse n k) (omega arith) (omega arith)
      good
      (free_good m (held_small (put t n a) k))
      w.inside w.donor-inside w.away
      (omega (arith, owned-other (at t n) (omega arith), owned-direct (at t k) d))
      (tally_then (tally_keep t n a s.total good.storable (omega arith) (omega arith)) (tally_free (put t n a) k (last_held (put t n a) k) _ (freed-storable (put t n a) k) full))
      (gone refl (ap (λ (x : Entry). x.tag) w.there) (λ h. not_shut h z))
      (issued (omega arith) (omega arith) (Memᴰ.head refl) (λ h. absurd (omega arith))
      (λ h x i. record { from = k; has = record { direct = d; inside = omega arith }; to = fuse_second n k x })
      (λ h. absurd (omega (arith, h.direct))))
      (one (anew_first _ good (omega arith) w.inside w.away (new_tag n (in_of (at t n) (at t k)) (omega arith))))
      (λ i j v x. fuse_other n k i x j)
      (λ x h. first (fuse_second n k x) (refl, omega (arith, h.inside)))
      (λ x h. absurd (omega (arith, h.direct)))
      (λ i x sh tc ins. not_touched k d z (task_of q) i x sh (in_touched t n k c bs (long ∙ equal) x tc) ins)
    where
      a : Entry
      a = entry_in s t n k

  -- ---- drop

  -- what it does to an entry
  data Fades (e e' : Entry) : Type 0 where
    stays : core e' ≡ core e → e'.locked ≡ e.locked → e'.holder ≡ e.holder → Fades e e'
    fallen : e'.kind ≡ 0 → e'.tag ≡ e.tag → e.kind ≢ 1 → Fades e e'

  same : (e : Entry) → Fades e e
  same e = stays refl refl refl

  fades_fades : {d e f : Entry} → Fades d e → Fades e f → Fades d f
  fades_fades (stays i j h) (stays k l g) = stays (k ∙ i) (l ∙ j) (g ∙ h)
  fades_fades (stays i j h) (fallen k g l) = fallen k (g ∙ ap (λ (x : Entry). x.tag) i) (subst (λ (x : Entry). x.kind ≢ 1) i l)
  fades_fades (fallen i h j) (stays k l g) = fallen (ap (λ (x : Entry). x.kind) k ∙ i) (ap (λ (x : Entry). x.tag) k ∙ h) j
  fades_fades (fallen i h j) (fallen k g l) = fallen k (g ∙ h) j

  -- tables of which every entry of the second is a faded one of the first, and good; and the total beside each
  record Fading (u : List ℕ) (k : ℕ) (u' : List ℕ) (k' : ℕ) : Type 0 where
    each : (n : ℕ) → Fades (at u n) (at u' n)
    good : (n : ℕ) → Good m (at u' n)
    long : size u' ≡ size u
    tally : Tally u k u' k'

  unfaded : (u : List ℕ) (k : ℕ) → ((n : ℕ) → Good m (at u n)) → Fading u k u k
  unfaded u k gs = record { each = λ n. same (at u n); good = gs; long = refl; tally = tally_same u u refl refl }

  put_fades : (u : List ℕ) (k : ℕ) → ((n : ℕ) → Good m (at u n)) → (n : ℕ) {e : Entry} {k' : ℕ} → (at u n).kind ≢ 0 → Fades (at u n) e → Good m e → Tally u k (put u n e) k' → Fading u k (put u n e) k'
  put_fades u k gs n {e} full h g c =
      let i : n < size u = in_table u n full in
      record {
        each = put_all (λ k y. Fades (at u k) y) u n e g.storable i h (λ k j. same (at u k));
        good = put_all (λ k y. Good m y) u n e g.storable i g (λ k j. gs k);
        long = size-put u n e;
        tally = c;
      }

  climb_fades : (f : ℕ) (s : State) (u : List ℕ) (n : ℕ) → ((k : ℕ) → Good m (at u k)) → let b = written 0 (opened s u) (climb f u n) in Fading u s.total b.table b.state.total
  unfolding climb
  climb_fades zero s u n gs = unfaded u s.total gs
  climb_fades (suc f) s u n gs =
      by_cond Left (leb 2 (at u n).count)
      (λ i. recounts ((at u n).count - 1) (stands (omega (arith, leb-true 2 (at u n).count i))) (omega (arith, fitting m (at u n) (gs n))) (λ k. omega (arith, leb-true 2 (at u n).count i)))
      (λ i. by_cond Left (eqb (at u n).count 0) (λ z. unfaded u s.total gs)
      (λ z. by_cond Left (eqb (at u n).kind 1)
      (λ j. recounts 0 (direct-present (at u n) (eqb-true (at u n).kind 1 j)) (omega arith) (λ k. absurd (omega (arith, eqb-true (at u n).kind 1 j))))
      (λ j.
      let there = (stands (eqb-false (at u n).count 0 z)).full in
      let once = put_fades u s.total gs n there (fallen refl refl (eqb-false (at u n).kind 1 j)) (free_good m (held_small u n)) (tally_free u n (last_held u n) s.total (freed-storable u n) there) in
      by_cond (λ ws. Left (vacate n ∷ ws)) (linked u (at u n))
      (λ v.
      let more = climb_fades f (write 0 (opened s u) (vacate n)).state (vacated u n) (parent_number (at u n)) once.good in
      record { each = λ k. fades_fades (once.each k) (more.each k); good = more.good; long = more.long ∙ once.long; tally = tally_then once.tally more.tally })
      (λ v. once))))
    where
      Left : List Write → Type 0
      Left ws = let b = written 0 (opened s u) ws in Fading u s.total b.table b.state.total

      stands : (at u n).count ≢ 0 → Present (at u n)
      stands = (fitting m (at u n) (gs n)).counted

      recounts : (c : ℕ) → Present (at u n) → c < 65536 → ((at u n).kind ≡ 2 → 1 ≤ c) → Fading u s.total (put u n (recounted (at u n) c)) s.total
      recounts c there small some =
          let g = recount_good m (gs n) there small some in
          put_fades u s.total gs n there.full (stays refl refl refl) g (tally_keep u n _ s.total g.storable there.full there.full)

  -- writes that issue nothing, after which the table has faded
  deed_fading : (q : Request) (ws : List Write) (k : ℕ) → Calm ws → (let b = written 0 (opened s t) ws in Fading t s.total b.table b.state.total) → Deed m s t q (carried s t (record { writes = ws; encoding = 0; dropped = k; effect = nothing }))
  deed_fading q ws k c f =
      record {
        up = omega (arith, ap (λ (x : State). x.next) (calm_still 0 (opened s t) ws c).state);
        least = s.next;
        above = omega arith;
        names = rw (calm_still 0 (opened s t) ws c).issued none;
        moves = stay;
        fate = λ n. go n (f.each n);
        carried = λ n x h. bytes n x h (f.each n);
        spared = λ n x sh nr tc ins. spares x tc;
        good = f.good;
        long = f.long;
        sum = sum_same (λ n e. owned e) t t' f.long (λ n. sums n (f.each n));
        tally = f.tally;
      }
    where
      b' : Book
      b' = written 0 (opened s t) ws

      t' : List ℕ
      t' = b'.table

      sums : (n : ℕ) → Fades (at t n) (at t' n) → owned (at t' n) ≡ owned (at t n)
      sums n (stays i j h) = ap (λ (x : Entry). owned x) i
      sums n (fallen i h j) = owned-other (at t' n) (omega arith) ∙ sym (owned-other (at t n) j)

      bytes : (n x : ℕ) → Has t n x → Fades (at t n) (at t' n) → Has t' n x
      bytes n x h (stays i j k) = record { direct = ap (λ (y : Entry). y.kind) i ∙ h.direct; inside = subst (λ (y : Entry). In y x) (sym i) h.inside }
      bytes n x h (fallen i g j) = absurd (j h.direct)

      go : (n : ℕ) → Fades (at t n) (at t' n) → Fate t q s.next b'.state.next b'.issued stay n (at t' n)
      go n (stays i j k) = kept i (λ x h. refl) (λ h. (j, k))
      go n (fallen i g j) = gone i g (λ h. j h.direct)

  deed_release : (k : ℕ) (b : List ℕ) → Deed m s t (release k) (carried s t (grant m t (release k) b))
  deed_release k b =
      let n : ℕ = number_of k in
      deed_fading (release k) (grant_release m t n).writes (grant_release m t n).dropped (release_calm m t n)
      (by_cond (λ ws. let b = written 0 (opened s t) ws in Fading t s.total b.table b.state.total) (eqb (at t n).count 1 && is_locked t (line_of m t n))
      (λ i. unfaded t s.total inv.good)
      (λ i. climb_fades (suc (at t n).nonce) s t n inv.good))

  -- ---- revoke and locks

  pub revoked_good : (n : ℕ) → (at t n).kind ≡ 1 → let ν = other_nonce s t n (fresh (at t n)) in ν < spent → Good m (issue s n (fresh (at t n) ν))
  revoked_good n d hn =
      let whole = range m (at t n) (direct-present (at t n) d) (inv.good n).formed in
      issue-direct m s n inv.small whole.0 whole.1 (omega arith) (omega arith) (omega arith) refl

  deed_revoke : (k c : ℕ) → (at t (number_of k)).kind ≡ 1 → other_nonce s t (number_of k) (fresh (named_entry t k)) < spent → Deed m s t (revoke k c) (carried s t (grant_revoke t (number_of k) c))
  deed_revoke k c d hn =
      let n : ℕ = number_of k in
      let up = other-least s t n (fresh (at t n)) in
      deed_put (revoke k c) (omega arith) refl
      (revoked_good n d hn)
      (omega arith)
      (record { kind = sym d; base = refl; length = refl })
      (issued (omega arith) (omega arith) (Memᴰ.head refl) (λ h. absurd (omega arith)) (λ h x i. record { from = n; has = record { direct = d; inside = i }; to = refl }) (λ h. revokes refl))
      (one (anew (revoked_good n d hn) (omega arith) (in_table t n (omega arith)) (new_tag n (fresh (at t n)) hn)))
      (λ i x sh nr tc ins.
      let there = once-stored tc in
      nr (revokes (inv.tiled n i x (record { direct = d; inside = (there.0, omega (arith, simp (length-replicate) at there.1)) }) (record { direct = sh.direct; inside = ins }))))

  -- lock and unlock write the lock at the owner of a line that is open to the task
  deed_lock : (q : Request) (n : ℕ) (locked : Bool) (h : ℕ) → Present (at t n) → Live (line_of m t n) → not (locked_from t (task_of q) (line_of m t n)) ≡ true
      → h < 2 ^ 55 → (locked && eqb h 0) ≡ false → (not locked && not (eqb h 0)) ≡ false → Deed m s t q (carried s t (grant_lock t (owner_of (line_of m t n)) locked h))
  deed_lock q n locked h k v o hh a b =
      let l : Line = line_of m t n in
      let d : (at t (owner_of l)).kind ≡ 1 = owner-direct (owns n k v) in
      deed_put q (omega arith) refl
      (relock_good m (inv.good (owner_of l)) d hh a b)
      (omega arith)
      (record { kind = refl; base = refl; length = refl })
      (kept refl (λ x h. refl) (λ i. absurd (owner_open t l (task_of q) (ends n k v) o i)))
      none
      (λ i x sh nr tc ins. spares x tc)

  -- ---- every granted request but a reset

  pub deed_granted : (q : Request) (b : List ℕ) → (IsReset q → ⊥) → Passed (checks m s t q b) → Deed m s t q (carried s t (grant m t q b))
  deed_granted (reset k0 k1 ν) b nr h = absurd (nr resets)
  deed_granted (accessing w k u φ) b nr h = deed_access w k u φ b h
  deed_granted (create k u l x p c) b nr h =
      let e : Entry = named_entry t k in
      deed_create (create k u l x p c) (number_of k) l x p c
      (eqb-true e.kind 1 (search))
      (not-true _ (search))
      (omega (arith, neqb_true l 0 (search)))
      (leb-true l e.length (search))
      (neqb_true (new_number s t) 0 (search))
      (ltb-true x (2 ^ 64) (search))
      (omega (arith, leb-true p 7 (search)))
      (leb-true _ _ (search))
  deed_granted (merge j k u c) b nr h =
      let d : Entry = named_entry t j in
      let e : Entry = named_entry t k in
      deed_merge (merge j k u c) (number_of j) (number_of k) c
      (eqb-true d.kind 1 (search))
      (eqb-true e.kind 1 (search))
      (not-true _ (search))
      (not-true _ (search))
      (eqb-true e.base (d.base + d.length) (search))
      (leb-true _ spent (search))
  deed_granted (derive k o l p c) b nr h =
      let e : Entry = named_entry t k in
      deed_derive (derive k o l p c) (number_of k) o l p c
      (present e (search) (search))
      (neqb_true (new_number s t) 0 (search))
      (omega (arith, neqb_true l 0 (search)))
      (let ends = (rest-passed m s t (derive k o l p c) b h).1.0 in omega (arith, leb-true))
      (omega (arith, leb-true p 7 (search)))
      (search)
      (ltb-true e.count 65535 (search))
      (leb-true _ spent (search))
  deed_granted (execute_only k c) b nr h =
      let e : Entry = named_entry t k in
      let full : Present e = present e (search) (search) in
      deed_derive (execute_only k c) (number_of k) 0 e.length X c
      full
      (neqb_true (new_number s t) 0 (search))
      (range m e full (inv.good (number_of k)).formed).0
      (omega arith)
      (omega arith)
      (search)
      (ltb-true e.count 65535 (search))
      (leb-true _ spent (search))
  deed_granted (clone k) b nr h =
      let e : Entry = named_entry t k in
      let full : Present e = present e (search) (search) in
      deed_put (clone k) (omega arith) refl
      (recount_good m (inv.good (number_of k)) full (omega (arith, ltb-true e.count 65535 (search))) (λ i. omega arith))
      full.full (record { kind = refl; base = refl; length = refl }) (kept refl (λ x h. refl) (λ h. (refl, refl))) none (λ i x sh nr tc ins. spares x tc)
  deed_granted (release k) b nr h = deed_release k b
  deed_granted (lock k u) b nr h =
      deed_lock (lock k u) (number_of k) true u (present (named_entry t k) (search) (search)) (search, search) (search) (ltb-true u (2 ^ 55) (search)) (not-true _ (search)) refl
  deed_granted (unlock k u) b nr h = deed_lock (unlock k u) (number_of k) false 0 (present (named_entry t k) (search) (search)) (search, search) (search) (omega arith) refl refl
  deed_granted (page_out k u f c) b nr h =
      let e : Entry = named_entry t k in
      deed_out (page_out k u f c) (number_of k) f c
      (eqb-true e.kind 1 (search))
      (not-true _ (search))
      (neqb_true (new_number s t) 0 (search))
      (ltb-true f (2 ^ 64) (search))
      (leb-true _ spent (search))
  deed_granted (look v) b nr h = deed_none (look v) (omega arith) refl (λ i x sh nr tc ins. by (shown m t v) x tc)
    where
      -- what is known is not looked for in memory
      by : (o : Known) (x : ℕ) → Touches (record { stores = []; fill = fill_with o }) x → ⊥
      by (exactly bs) x (inl h) = elim h [ ]
      by (up_to bs) x (inl h) = elim h [ ]
      by (exactly bs) x (inr h) = omega arith
      by (up_to bs) x (inr h) = omega arith
  deed_granted (page_in j k u c) b nr h =
      let e : Entry = named_entry t j in
      let d : Entry = named_entry t k in
      deed_in (page_in j k u c) (number_of j) (number_of k) c b
      (eqb-true e.kind 3 (search))
      (eqb-true d.kind 1 (search))
      (not-true _ (search))
      (eqb-true (length b) e.length (search))
      (eqb-true e.length d.length (search))
      (leb-true _ spent (search))
  deed_granted (revoke k c) b nr h =
      deed_revoke k c (eqb-true (named_entry t k).kind 1 (search)) (omega (arith, leb-true (other_nonce s t (number_of k) (fresh (named_entry t k)) + 1) spent (search)))
