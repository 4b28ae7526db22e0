-- The ledger: which tokens were given and issued again, and what their numbers held since. Each request writes one event. Demand 3 reads from it, and from
-- nothing else, "given before the revoke", "issued again" and paper 5's "held another tag between".
-- Assumes nothing.
use Rattle.std.specs.Prelude.{◌⊎◌, ℕ}
use mathlib.Core.List.{List, [], ◌∷◌, Memᴰ}
use Rattle.machine.specs.Segments.{HoldsOther}
use Rattle.machine.specs.Writes.{Name}

-- what a request leaves in it: the tokens that it issued, and the table that it left. A refused one issues none, and leaves the table as it was.
pub record Event : Type 0 where
  pub issued : List Name
  pub table : List ℕ

-- Events stand newest first. The token k was given by the event v, and the events `since` came after it.
pub data Gave (k : Name) (v : Event) : (since ledger : List Event) → Type 0 where
  last : {l : List Event} → Memᴰ k v.issued → Gave k v [] (v ∷ l)
  earlier : {w : Event} {since l : List Event} → Gave k v since l → Gave k v (w ∷ since) (w ∷ l)

-- its number held another tag: after v, or after one of the events since
abbrev pub HeldOther : Name → Event → (since : List Event) → Type 0
HeldOther k v [] = HoldsOther v.table k
HeldOther k v (w ∷ since) = HoldsOther w.table k ⊎ HeldOther k v since

-- 02, paper 5: "the number held another tag between the token's giving and its issuing again": an event since v issues k, and its number held another tag before
abbrev pub Returned : Name → Event → (since : List Event) → Type 0
Returned k v [] = ⊥
Returned k v (w ∷ since) = (Memᴰ k w.issued × HeldOther k v since) ⊎ Returned k v since
