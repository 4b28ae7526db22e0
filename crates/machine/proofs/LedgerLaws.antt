-- Laws of the ledger of a list, of any system: the request that gave a token, and what returned.
-- Assumes nothing.
use mathlib.Core.Path.{◌≡◌, refl, ap, subst}
use mathlib.Core.Logic.{◌⊎◌, inl, inr}
use mathlib.Core.List.Memᴰ
use mathlib.Core.List.{List, [], ◌∷◌, ◌++◌, Memᴰ}
use Rattle.machine.specs.Ledger.{earlier, Event, Gave, last, Returned}
use Rattle.machine.specs.System.{event, ledger, run, System}
use Rattle.machine.specs.Writes.{Name}

-- all that the events issued, the first first
abbrev pub issued_by : List Event → List Name
issued_by [] = []
issued_by (v ∷ l) = issued_by l ++ v.issued

-- a token that returned was issued again: the exception is no wider than 01's
pub issued_again : (k : Name) (v : Event) (since : List Event) → Returned k v since → Memᴰ k (issued_by since)
issued_again k v [] x' = elim x' [ ]
issued_again k v (w ∷ since) (inl r) = Memᴰ.append_right (issued_by since) r.0
issued_again k v (w ∷ since) (inr r) = Memᴰ.append_left w.issued (issued_again k v since r)

module _ (S : System) where
  pub run_append : (σ : S.Standing) (a b : List S.Request) → run S σ (a ++ b) ≡ run S (run S σ a) b
  run_append σ [] b = refl
  run_append σ (q ∷ a) b = run_append (S.step σ q) a b

  pub ledger_append : (l : List Event) (σ : S.Standing) (a b : List S.Request) → ledger S l σ (a ++ b) ≡ ledger S (ledger S l σ a) (run S σ a) b
  ledger_append l σ [] b = refl
  ledger_append l σ (q ∷ a) b = ledger_append (event S σ q ∷ l) (S.step σ q) a b

  -- what has returned stays so
  pub returned_on : (k : Name) (v : Event) (l : List Event) (σ : S.Standing) (qs : List S.Request) → Returned k v l → Returned k v (ledger S l σ qs)
  returned_on k v l σ [] r = r
  returned_on k v l σ (q ∷ qs) r = returned_on k v (event S σ q ∷ l) (S.step σ q) qs (inr r)

  -- the request of a list that gave k, with what came before it and after it
  pub record Giving (k : Name) (v : Event) (since : List Event) (σ : S.Standing) (qs : List S.Request) : Type 0 where
    pub before : List S.Request
    pub giver : S.Request
    pub after : List S.Request
    pub list : before ++ (giver ∷ after) ≡ qs
    pub is : v ≡ event S (run S σ before) giver
    pub rest : since ≡ ledger S [] (S.step (run S σ before) giver) after
    pub given : Memᴰ k v.issued

  -- k was given in the ledger l, before the list
  record Before (k : Name) (v : Event) (since l : List Event) (σ : S.Standing) (qs : List S.Request) : Type 0 where
    then : List Event
    gave : Gave k v then l
    on : since ≡ ledger S then σ qs

  further : (k : Name) (v : Event) (since : List Event) (σ : S.Standing) (q : S.Request) (qs : List S.Request) → Giving k v since (S.step σ q) qs → Giving k v since σ (q ∷ qs)
  further k v since σ q qs g = record { before = q ∷ g.before; giver = g.giver; after = g.after; list = ap (λ (l : List S.Request). q ∷ l) g.list; is = g.is; rest = g.rest; given = g.given }

  giving_over : (k : Name) (v : Event) (since l : List Event) (σ : S.Standing) (qs : List S.Request) → Gave k v since (ledger S l σ qs) → Giving k v since σ qs ⊎ Before k v since l σ qs
  giving_over k v since l σ [] g = inr (record { then = since; gave = g; on = refl })
  giving_over k v since l σ (q ∷ qs) g = go (giving_over k v since (event S σ q ∷ l) (S.step σ q) qs g)
    where
      at : (then : List Event) (w : Event) → Gave k v then (w ∷ l) → w ≡ event S σ q → since ≡ ledger S then (S.step σ q) qs → Giving k v since σ (q ∷ qs) ⊎ Before k v since l σ (q ∷ qs)
      at _ _ (last m) is on = inl (record { before = []; giver = q; after = qs; list = refl; is = is; rest = on; given = m })
      at _ w (earlier {since = then} h) is on = inr (record { then = then; gave = h; on = subst (λ (x : Event). since ≡ ledger S (x ∷ then) (S.step σ q) qs) is on })

      go : Giving k v since (S.step σ q) qs ⊎ Before k v since (event S σ q ∷ l) (S.step σ q) qs → Giving k v since σ (q ∷ qs) ⊎ Before k v since l σ (q ∷ qs)
      go (inl h) = inl (further k v since σ q qs h)
      go (inr h) = at h.then (event S σ q) h.gave refl h.on

  none_gave : {k : Name} {v : Event} {since : List Event} → Gave k v since [] → ⊥
  none_gave = elim [ ]

  pub giving : (k : Name) (v : Event) (since : List Event) (σ : S.Standing) (qs : List S.Request) → Gave k v since (ledger S [] σ qs) → Giving k v since σ qs
  giving k v since σ qs g = go (giving_over k v since [] σ qs g)
    where
      go : Giving k v since σ qs ⊎ Before k v since [] σ qs → Giving k v since σ qs
      go (inl h) = h
      go (inr h) = absurd (none_gave h.gave)
