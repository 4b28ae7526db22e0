-- The line of an entry: one law for each way out of a walk.
-- Assumes nothing.
use Rattle.std.proofs.Common.{◌≡◌, ℕ, ◌+◌, ◌*◌, ◌/◌, ◌<◌, ◌≤◌, Bool, true, false, cond, eqb, List, length, sym, refl, ap, ◌∙◌, arith, eq-eqb, ne_eqb}
use Rattle.layout.specs.Form.{ill_formed}
use Rattle.layout.specs.declared.entry.Entry.{Entry}
use Rattle.machine.specs.Line.{dead, ill, is_paged, Line, line_of, linked, links, owner, paged_out, parent_number, walk}
use Rattle.machine.specs.Parts.{at, size}
use Rattle.machine.proofs.Basics.{link}
use Rattle.machine.proofs.Fuel.{line_enough}
use Rattle.machine.proofs.TableLaws.{at_out, in_table}

-- ---- a link

pub linked_in : (t : List ℕ) (e : Entry) → linked t e ≡ true → parent_number e < size t
linked_in t e h = in_table t (parent_number e) (link e (at t (parent_number e)) h).present.full

pub linked-here : (t : List ℕ) (e : Entry) → linked t e ≡ true → is_paged (at t (parent_number e)) ≡ false
linked-here t e h = ne_eqb _ 3 (link e (at t (parent_number e)) h).present.here

pub linked-older : (t : List ℕ) (e : Entry) → linked t e ≡ true → (at t (parent_number e)).nonce < e.nonce
linked-older t e h = (link e (at t (parent_number e)) h).older

pub unlinked : (t : List ℕ) (e : Entry) → size t ≤ parent_number e → linked t e ≡ false
unlinked t e h = ap (λ (p : Entry). links p e) (at_out t (parent_number e) h)

-- ---- a walk

-- the same under a test that holds
under : {A : Type 0} (b : Bool) (x y z : A) → (b ≡ true → x ≡ y) → cond b x z ≡ cond b y z
under true x y z h = h refl
under false x y z h = refl

line_step : (m : ℕ) (t : List ℕ) (n : ℕ) → line_of m t n ≡ cond (ill_formed m (at t n)) (ill n) (cond (eqb (at t n).kind 1) (owner n) (cond (is_paged (at t n)) (paged_out n) (cond (linked t (at t n)) (line_of m t (parent_number (at t n))) (dead n))))
unfolding walk
line_step m t n =
    let e : Entry = at t n in
    let p : ℕ = parent_number e in
    ap (λ (l : Line). cond (ill_formed m e) (ill n) (cond (eqb e.kind 1) (owner n) (cond (is_paged e) (paged_out n) l)))
    (under (linked t e) (walk e.nonce m t p) (line_of m t p) (dead n) (λ l. line_enough e.nonce m t p (linked-older t e l)))

-- the ways out of a walk that has come from entry n to entry k
module _ (m : ℕ) (t : List ℕ) (n k : ℕ) (e : Entry) (b : Bool) (inv : line_of m t n ≡ line_of m t k) (is : e ≡ at t k) (form : b ≡ ill_formed m e) where
  pub walk-ill : b ≡ true → ill k ≡ line_of m t n
  walk-ill h = sym (inv ∙ line_step m t k ∙ rw (← is, ← form, h))

  pub walk-owner : b ≡ false → e.kind ≡ 1 → owner k ≡ line_of m t n
  walk-owner h d = sym (inv ∙ line_step m t k ∙ rw (← is, ← form, h, eq-eqb _ _ d))

  pub walk-dead : is_paged (at t k) ≡ false → (l : Bool) → l ≡ linked t e → b ≡ false → (e.kind ≡ 1 → ⊥) → l ≡ false → dead k ≡ line_of m t n
  walk-dead o l q h d z = sym (inv ∙ line_step m t k ∙ rw (o, ← is, ← form, h, ne_eqb _ _ d, ← q, z))

  pub walk_up : is_paged (at t k) ≡ false → (l : Bool) (p : ℕ) → l ≡ linked t e → p ≡ parent_number e → b ≡ false → (e.kind ≡ 1 → ⊥) → l ≡ true → line_of m t n ≡ line_of m t p
  walk_up o l p q r h d y = inv ∙ line_step m t k ∙ rw (o, ← is, ← form, h, ne_eqb _ _ d, ← q, y, ← r)

-- the parent p of entry k is in the table and older
module _ (t : List ℕ) (k p : ℕ) (e : Entry) (l : Bool) (is : e ≡ at t k) (q : l ≡ linked t e) (r : p ≡ parent_number e) (y : l ≡ true) where
  pub walk_less : (at t p).nonce < (at t k).nonce
  walk_less = rw (r, ← is) (linked-older t e (sym q ∙ y))

  pub walk_here : is_paged (at t p) ≡ false
  walk_here = rw r (linked-here t e (sym q ∙ y))

  pub walk_in : 32 * p + 32 ≤ length t
  unfolding size
  walk_in = let h : parent_number e < length t / 32 = linked_in t e (sym q ∙ y) in rw r (omega arith)

-- the line of a direct entry
module _ (m : ℕ) (t : List ℕ) (n : ℕ) (e : Entry) (b : Bool) (is : e ≡ at t n) (form : b ≡ ill_formed m e) where
  pub own_ill : b ≡ true → ill n ≡ line_of m t n
  own_ill = walk-ill m t n n e b refl is form

  pub own_owner : b ≡ false → e.kind ≡ 1 → owner n ≡ line_of m t n
  own_owner = walk-owner m t n n e b refl is form

-- the ways on and out of a walk
pub ruleset walks = (walk-ill, walk-owner, walk-dead, walk_in, walk_up, walk_here)
