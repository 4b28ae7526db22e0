-- Children: the ways out of places 9 and 10, and what is handed back.
-- Assumes nothing.
use mathlib.Core.Path.{◌≡◌, ap, ◌∙◌}
use mathlib.Core.Bool.{true, not}
use mathlib.Core.List.{List, [], ◌∷◌}
use Rattle.std.specs.Prelude.{Result, Ok, Err}
use Prim.Native.Nat.{ℕ, ◌+◌, ◌*◌, ◌/◌, ◌^◌, ◌≤◌, ◌<◌}
use native.Mathlib.Omega.{arith}
use lib.Dec.{eqb, leb, ltb}
use lib.ListN.{length}
use borrow.Author.Tests.{le-ltb, leb-true, lt-ltb, ltb-true}
use Rattle.checks.specs.declared.refusal.Refusal as code
use Rattle.checks.specs.declared.refusal.Refusal.TheVariants.{Nonces}
use Rattle.entering.specs.Nonces.{Finds}
use Rattle.entering.specs.declared.nonces.Found.{Found}
use Rattle.layout.specs.Entry.{dated, indirect, recounted}
use Rattle.layout.specs.declared.entry.Entry.{Entry}
use Rattle.machine.specs.Issuing.{new_number, other_nonce}
use Rattle.machine.specs.Operations.{book, granted, grant_derive, named_entry, number_of, token_of}
use Rattle.machine.specs.Parts.{at, put, size, spent, State}
use Rattle.machine.specs.Steps.{stop}
use Rattle.machine.specs.Stops.{at_standing}
use Rattle.machine.specs.Writes.{give, opened, write}
use Rattle.machine.proofs.TableLaws.{length-put}
use Rattle.table.specs.Left.{Left, left_as, left_by}
use Rattle.table.specs.States.{state_as}
use Rattle.table.specs.declared.state.StateWords.{StateWords}
use Rattle.rulings.specs.Allotments.{allot_verdict, Limits}
use Rattle.rulings.specs.Rulings.{giving_one, handed, Ruling}
use Rattle.rulings.specs.declared.reply.Granted.{Granted}
use Rattle.rulings.proofs.AllotLaws.{new_in}
use Rattle.rulings.proofs.RulingLaws.{left_ruled, spent-ruled}
use Rattle.references.specs.Children.{Bearing, bearing_on, child_verdict}

pub child-count : (s : State) (t : List ℕ) (e : Entry) → 65535 ≤ e.count → child_verdict s t e ≡ stop at_standing
unfolding child_verdict
child-count s t e h = rw (le-ltb e.count 65535 h)

pub child-allot : (s : State) (t : List ℕ) (e : Entry) → e.count < 65535 → child_verdict s t e ≡ allot_verdict s t
unfolding child_verdict allot_verdict
child-allot s t e h = rw (lt-ltb e.count 65535 h)

-- what passed checks say of a child
pub child_bears : (s : State) (t : List ℕ) (k o p c new : ℕ) → Limits s t
    → ltb (number_of k) (size t) ≡ true
    → ltb (named_entry t k).count 65535 ≡ true
    → not (eqb (new_number s t) 0) ≡ true
    → leb c 3 ≡ true
    → (at t (number_of k)).base + o < 2 ^ 32
    → p < 8
    → new ≡ new_number s t
    → Bearing s t (number_of k) new o p c
unfolding size
child_bears s t k o p c new set there few some encoded base permitted found =
    let n : number_of k < length t / 32 = ltb-true _ _ there in
    record {
      parent = omega arith;
      child = rw found (new_in s t set some).0;
      most = set.most;
      number = found;
      count = ltb-true _ _ few;
      base = base;
      permitted = permitted;
      encoded = leb-true c 3 encoded;
      nonce = set.left;
    }

-- the parent n is still there once the child is given
pub parent_in : (s : State) (t : List ℕ) (n c : ℕ) (child : ℕ → Entry) (a : Left) → a ≡ left_by (write c (opened s t) (give child)) → 32 * n + 32 ≤ length t → 32 * n + 32 ≤ length a.table
parent_in s t n c child a gave h = omega (arith, ap (λ (y : Left). length y.table) gave ∙ length-put _ _ _)

-- the child of entry n, which is e, under the new number
module _ (s : StateWords) (t : List ℕ) (n o l p c new : ℕ) (e child : Entry) (parent : ℕ) (there : e ≡ at t n) (up : parent ≡ token_of 1 n e) (is : child ≡ indirect (e.base + o) l parent p 0 0)
    (number : new ≡ new_number (state_as s) t) where
  next : (book (state_as s) t (grant_derive t n o l p c)).state.next ≡ other_nonce (state_as s) t new (dated child) + 1
  next = rw (is, up, there, number)

  -- no nonce is left for it
  pub child-spent : (why : code.Refusal) → other_nonce (state_as s) t new (dated child) ≡ spent → ◌≡◌ {A = Result Found code.Refusal} (Err why) (Err Nonces) → handed s t (Err why) ≡ bearing_on (state_as s) t n o l p c
  unfolding bearing_on
  child-spent why h is = let w : why ≡ Nonces = cc in rw w (spent-ruled s t (grant_derive t n o l p c) (omega (arith, next, h)))

  -- it is issued with the one that is found, then the parent has its new count
  pub child-grants : (f : Found) (i k : ℕ) (s' : StateWords) (t₁ t₂ : List ℕ) (r : Granted) → Finds (state_as s) t new child f
      → left_as s' t₁ (k ∷ []) ≡ left_by (write c (opened (state_as s) t) (give (dated child)))
      → i ≡ e.count
      → t₂ ≡ put t₁ n (recounted e (i + 1))
      → r ≡ giving_one k
      → handed s' t₂ (Ok r) ≡ bearing_on (state_as s) t n o l p c
  unfolding bearing_on
  child-grants f i k s' t₁ t₂ r found given counted raised done = left_ruled (state_as s) t (grant_derive t n o l p c) (omega (arith, next, found.nonce, found.left)) _ (rw (done, raised) (ap left given ∙ rw (is, up, counted, there)))
    where
      -- what is handed back, where the child is left so
      left : Left → Ruling
      left x = record { state = x.state; table = put x.table n (recounted e (i + 1)); reply = granted x.tokens 0 0 }
