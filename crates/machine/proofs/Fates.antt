-- What a request does to each entry, and what follows from that alone: what holds from reset on, old entries, new tokens, locks.
-- Assumes nothing.
use mathlib.Core.Path.{◌≡◌, refl, sym, ap, subst, ◌∙◌}
use mathlib.Core.Logic.{◌≢◌, ◌⊎◌, inl, inr}
use mathlib.Core.Bool.{true, false}
use mathlib.Core.List.{List, [], ◌∷◌, Memᴰ}
use Prim.Native.Nat.{ℕ, ◌+◌, ◌≤◌, ◌<◌}
use native.Mathlib.Omega.{arith}
use lib.ListN.{length}
use Rattle.layout.specs.declared.entry.Entry.{Entry}
use Rattle.tokens.specs.Permissions.{within}
use Rattle.machine.specs.FromReset.{Has, Inside, Owned, owned_in_all}
use Rattle.machine.specs.Line.{links, parent_number}
use Rattle.machine.specs.MachineSystem.{Revokes}
use Rattle.machine.specs.Operations.{Decision, Effect, entire, Fill, front, nothing, Store, unfilled}
use Rattle.machine.specs.Parts.{at, most_entries, most_memory, size, State}
use Rattle.machine.specs.Requests.{Request, task_of}
use Rattle.machine.specs.Segments.{In, Linked}
use Rattle.machine.specs.Writes.{Name, name_of}
use Rattle.machine.proofs.Basics.{Link, link, parent}
use Rattle.machine.proofs.Tallies.{Tally}
use Rattle.machine.proofs.Written.{Good}

-- the entry without its count and its lock: all that an issue fixes
abbrev pub core : Entry → Entry
core e = record {
  kind = e.kind;
  base = e.base;
  length = e.length;
  count = 0;
  holder = 0;
  user = e.user;
  parent = e.parent;
  page = e.page;
  zeros = e.zeros;
  permissions = e.permissions;
  locked = false;
  lockable = e.lockable;
  cow = e.cow;
  tag = e.tag;
  nonce = e.nonce;
}

-- e is direct and locked for another task than u
pub record Shut (u : ℕ) (e : Entry) : Type 0 where
  pub direct : e.kind ≡ 1
  pub locked : e.locked ≡ true
  pub other : e.holder ≢ u

-- the link of entry n holds in both of two tables in which it and its parent have the same cores
pub linked_same : (t t' : List ℕ) (n : ℕ) → core (at t' n) ≡ core (at t n) → core (parent t' n) ≡ core (at t (parent_number (at t' n))) → Linked t' n → Linked t n
linked_same t t' n e f l =
    record {
      indirect = subst (λ (x : Entry). x.kind ≡ 2) e l.indirect;
      holds =
          subst (λ (x : Entry). links (at t (parent_number x)) x ≡ true) e
          (subst (λ (x : Entry). links x (at t' n) ≡ true) f l.holds);
    }

-- and one entry lies inside another if one with the same core does
inside_same : (e p e' p' : Entry) → core e' ≡ core e → core p' ≡ core p → Inside e p → Inside e' p'
inside_same e p e' p' a b i =
    record {
      low = omega (arith, ap (λ (x : Entry). x.base) a, ap (λ (x : Entry). x.base) b);
      high = omega (arith, ap (λ (x : Entry). x.base) a, ap (λ (x : Entry). x.length) a, ap (λ (x : Entry). x.base) b, ap (λ (x : Entry). x.length) b);
      rights = subst (λ (x : Entry). within x.permissions p'.permissions ≡ true) (sym a) (subst (λ (x : Entry). within e.permissions x.permissions ≡ true) (sym b) i.rights);
    }

-- ---- what holds from reset on, where the memory has m bytes

pub record Inv (m : ℕ) (s : State) (t : List ℕ) : Type 0 where
  pub below : (n : ℕ) → (at t n).kind ≢ 0 → (at t n).nonce < s.next
  pub inside : (n : ℕ) → Linked t n → Inside (at t n) (parent t n)
  pub tiled : (n k x : ℕ) → Has t n x → Has t k x → n ≡ k
  pub covered : (x : ℕ) → x < m → Owned t x
  pub good : (n : ℕ) → Good m (at t n)
  pub small : m ≤ most_memory
  pub most : size t ≤ most_entries

-- the byte x of a direct entry came from the entry from, and old owner and byte together tell the new owner
pub record Source (t : List ℕ) (g : ℕ → ℕ → ℕ) (n x : ℕ) : Type 0 where
  pub from : ℕ
  pub has : Has t from x
  pub to : n ≡ g from x

-- What became of entry n, which now is e'. μ is a nonce that no nonce issued is below, ν the next one after the request, ks the tokens that it gives; g tells who
-- gets the bytes of an old owner.
pub data Fate (t : List ℕ) (q : Request) (μ ν : ℕ) (ks : List Name) (g : ℕ → ℕ → ℕ) (n : ℕ) (e' : Entry) : Type 0 where
  kept : core e' ≡ core (at t n) → ((x : ℕ) → Has t n x → n ≡ g n x)
      → (Shut (task_of q) (at t n) → (e'.locked ≡ (at t n).locked) × (e'.holder ≡ (at t n).holder))
      → Fate t q μ ν ks g n e'
  gone : e'.kind ≡ 0 → e'.tag ≡ (at t n).tag → (Shut (task_of q) (at t n) → ⊥) → Fate t q μ ν ks g n e'
  issued : μ ≤ e'.nonce → e'.nonce < ν → Memᴰ (name_of n e') ks
      → (e'.kind ≡ 2 → (e'.nonce ≡ μ) × Inside e' (at t (parent_number e')))
      → (e'.kind ≡ 1 → (x : ℕ) → In e' x → Source t g n x)
      → (Shut (task_of q) (at t n) → Revokes q n)
      → Fate t q μ ν ks g n e'

-- the token k was issued: its entry has its tag now, and held another
pub record Anew (t t' : List ℕ) (k : Name) : Type 0 where
  pub full : (at t' k.number).kind ≢ 0
  pub has : (at t' k.number).tag ≡ k.tag
  pub other : k.tag ≢ (at t k.number).tag

-- the tokens that a request gives: two at most, of different entries
pub data Names (t t' : List ℕ) : List Name → Type 0 where
  none : Names t t' []
  one : {k : Name} → Anew t t' k → Names t t' (k ∷ [])
  two : {j k : Name} → Anew t t' j → Anew t t' k → j.number ≢ k.number → Names t t' (j ∷ k ∷ [])

-- byte x is stored, or read
abbrev pub Stored : List Store → ℕ → Type 0
Stored [] x = ⊥
Stored (w ∷ ws) x = ((w.start ≤ x) × (x < w.start + length w.bytes)) ⊎ Stored ws x

abbrev pub Filled : Fill → ℕ → Type 0
Filled unfilled x = ⊥
Filled (entire a n f) x = (a ≤ x) × (x < a + n)
Filled (front a n f limit) x = (a ≤ x) × (x < a + n)

-- the effect reads or writes byte x
abbrev pub Touches : Effect → ℕ → Type 0
Touches f x = Stored f.stores x ⊎ Filled f.fill x

pub spares : (x : ℕ) → Touches nothing x → ⊥
spares x (inl h) = h
spares x (inr h) = h

-- what each request but a reset does, granted or not
pub record Deed (m : ℕ) (s : State) (t : List ℕ) (q : Request) (d : Decision) : Type 0 where
  pub up : s.next ≤ d.state.next
  pub least : ℕ
  pub above : s.next ≤ least
  pub moves : ℕ → ℕ → ℕ
  pub fate : (n : ℕ) → Fate t q least d.state.next d.issued moves n (at d.table n)
  pub names : Names t d.table d.issued
  pub carried : (n x : ℕ) → Has t n x → Has d.table (moves n x) x
  pub spared : (n x : ℕ) → Shut (task_of q) (at t n) → (Revokes q n → ⊥) → Touches d.effect x → In (at t n) x → ⊥
  pub good : (n : ℕ) → Good m (at d.table n)
  pub long : size d.table ≡ size t
  pub sum : owned_in_all d.table ≡ owned_in_all t
  pub tally : Tally t s.total d.table d.state.total

module _ (m : ℕ) (s : State) (t : List ℕ) (q : Request) (d : Decision) (inv : Inv m s t) (deed : Deed m s t q d) where
  abbrev t' : List ℕ
  t' = d.table

  abbrev F : ℕ → Type 0
  F n = Fate t q deed.least d.state.next d.issued deed.moves n (at t' n)

  inv_below : (n : ℕ) → (at t' n).kind ≢ 0 → (at t' n).nonce < d.state.next
  inv_below n k = go (deed.fate n)
    where
      go : F n → (at t' n).nonce < d.state.next
      go (kept e g h) = omega (arith, deed.up, ap (λ (x : Entry). x.nonce) e, inv.below n (subst (λ (x : Entry). x.kind ≢ 0) e k))
      go (gone z τ h) = absurd (k z)
      go (issued a b i j f h) = b

  source : (n x : ℕ) → Has t' n x → Source t deed.moves n x
  source n x h = go (deed.fate n)
    where
      go : F n → Source t deed.moves n x
      go (kept e g k) =
          let o : Has t n x = record { direct = subst (λ (y : Entry). y.kind ≡ 1) e h.direct; inside = subst (λ (y : Entry). In y x) e h.inside } in
          record { from = n; has = o; to = g x o }
      go (gone z τ k) = absurd (omega (arith, h.direct))
      go (issued a b i j f k) = f h.direct x h.inside

  inv_tiled : (n k x : ℕ) → Has t' n x → Has t' k x → n ≡ k
  inv_tiled n k x h i =
      let a : Source t deed.moves n x = source n x h in
      let b : Source t deed.moves k x = source k x i in
      let e : a.from ≡ b.from = inv.tiled a.from b.from x a.has b.has in
      a.to ∙ rw e (sym b.to)

  inv_covered : (x : ℕ) → x < m → Owned t' x
  inv_covered x h =
      let o : Owned t x = inv.covered x h in
      record { owner = deed.moves o.owner x; has = deed.carried o.owner x o.has }

  inv_inside : (n : ℕ) → Linked t' n → Inside (at t' n) (parent t' n)
  inv_inside n l = go (deed.fate n) (deed.fate (parent_number (at t' n)))
    where
      k : Link (at t' n) (parent t' n)
      k = link (at t' n) (parent t' n) l.holds

      go : F n → F (parent_number (at t' n)) → Inside (at t' n) (parent t' n)
      go (kept e g h) (kept f g' h') =
          inside_same (at t n) (parent t n) (at t' n) (parent t' n) e (f ∙ ap (λ (x : Entry). core (at t (parent_number x))) e)
          (inv.inside n (linked_same t t' n e f l))
      go (kept e g h) (gone z τ i) = absurd (k.present.full z)
      go (kept e g h) (issued a b i j f r) =
          absurd (omega (arith, k.older, deed.above, ap (λ (x : Entry). x.nonce) e, inv.below n (omega (arith, l.indirect, ap (λ (x : Entry). x.kind) e))))
      go (gone z τ i) f = absurd (omega (arith, l.indirect))
      go (issued a b i j f r) (kept e g h) =
          inside_same (at t' n) (at t (parent_number (at t' n))) (at t' n) (parent t' n) refl e (j l.indirect).1
      go (issued a b i j f r) (gone z τ h) = absurd (k.present.full z)
      go (issued a b i j f r) (issued a' b' i' j' f' r') = absurd (omega (arith, k.older, (j l.indirect).0))

  pub inv_step : Inv m d.state d.table
  inv_step =
      record {
        below = inv_below;
        inside = inv_inside;
        tiled = inv_tiled;
        covered = inv_covered;
        good = deed.good;
        small = inv.small;
        most = rw deed.long inv.most;
      }

  -- an entry whose nonce was there before is as it was
  pub old_core : (n : ℕ) → (at t' n).kind ≢ 0 → (at t' n).nonce < s.next → core (at t' n) ≡ core (at t n)
  old_core n k o = go (deed.fate n)
    where
      go : F n → core (at t' n) ≡ core (at t n)
      go (kept e g h) = e
      go (gone z τ h) = absurd (k z)
      go (issued a b i j f h) = absurd (omega (arith, deed.above))

  -- an entry whose nonce is new was given
  pub new_given : (n : ℕ) → (at t' n).kind ≢ 0 → s.next ≤ (at t' n).nonce → Memᴰ (name_of n (at t' n)) d.issued
  new_given n k o = go (deed.fate n)
    where
      go : F n → Memᴰ (name_of n (at t' n)) d.issued
      go (kept e g h) = absurd (omega (arith, ap (λ (x : Entry). x.nonce) e, inv.below n (subst (λ (x : Entry). x.kind ≢ 0) e k)))
      go (gone z τ h) = absurd (k z)
      go (issued a b i j f h) = i

  -- a segment that is locked for another task stays, unless it is revoked
  pub shut_stays : (n : ℕ) → Shut (task_of q) (at t n) → (Revokes q n → ⊥)
      → (core (at t' n) ≡ core (at t n)) × (((at t' n).locked ≡ (at t n).locked) × ((at t' n).holder ≡ (at t n).holder))
  shut_stays n l r = go (deed.fate n)
    where
      go : F n → (core (at t' n) ≡ core (at t n)) × (((at t' n).locked ≡ (at t n).locked) × ((at t' n).holder ≡ (at t n).holder))
      go (kept e g h) = (e, h l)
      go (gone z τ h) = absurd (h l)
      go (issued a b i j f h) = absurd (r (h l))
