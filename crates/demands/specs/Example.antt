-- A small list of calls that demand 3 is held against: 8 bytes of memory, a table of two entries, key 0.
-- Assumes nothing.
use Rattle.std.specs.Prelude.{◌≡◌, List, [], ◌∷◌, ◌++◌, map, ℕ, replicate}
use Rattle.bits.specs.Bytes.{AllBytes}
use Rattle.machine.specs.Demand3.{FirstRevoke, Reset}
use Rattle.machine.specs.Ledger.{Event, Gave, Returned}
use Rattle.machine.specs.Parts.{at}
use Rattle.machine.specs.Segments.{LockedFor, Under}
use Rattle.machine.specs.System.{event, ledger, Never}
use Rattle.machine.specs.Writes.{Name}
use Rattle.demands.specs.Demands.{after, Brought, Bytes, call, next, of_calls, Standing}
use Rattle.interface.specs.Exported.{no_leases, with_leases, word_bytes}

-- ---- the premises of demand 3, in one place

-- the first list, the entry that it leaves locked, and for which task
pub record First : Type 0 where
  pub reset : Brought
  pub follows : List Brought
  pub entry : ℕ
  pub task : ℕ

abbrev pub list_of : First → List Brought
list_of f = f.reset ∷ f.follows

-- further calls qs and the revoke r; the token k that the event v gave, with the events since, and that did not return
pub record Premises (κ : Standing) (f : First) (qs : List Brought) (r : Brought) (k : Name) (v : Event) (since : List Event) : Type 0 where
  pub bytes : AllBytes κ.state
  pub granted : Reset of_calls κ f.reset
  pub first_bytes : Bytes (list_of f)
  pub one_reset : Never of_calls (Reset of_calls) (next κ f.reset) f.follows
  pub locked : LockedFor (after κ (list_of f)).table f.entry f.task
  pub more_bytes : Bytes qs
  pub no_reset : Never of_calls of_calls.Resets (after κ (list_of f)) qs
  pub none_carries : Never of_calls (λ μ q. of_calls.Carries μ q f.task) (after κ (list_of f)) qs
  pub revoked : FirstRevoke of_calls (after κ (list_of f)) f.entry qs r
  pub revoke_bytes : Bytes (r ∷ [])
  pub given : Gave k v since (ledger of_calls [] κ (list_of f ++ qs))
  pub under : Under v.table (at (after κ (list_of f)).table f.entry) k
  pub once : Returned k v (ledger of_calls since (after κ (list_of f ++ qs)) (r ∷ [])) → ⊥

-- ---- the calls

unfoldable pub before : Standing
before = record { state = replicate 40 0; table = replicate 64 0; memory = replicate 8 9 }

-- the words of a request after its operation: token, second, task, length, user, permissions, encoding
abbrev asking : (operation : ℕ) → List ℕ → (buffer : List ℕ) → Brought
asking o ws b = record { request = word_bytes (o ∷ ws); buffer = b; answer = replicate 48 0; lent = no_leases }

-- reset with the first nonce 1; bytes 2 to 4 of the root derived for reading; the root locked for 7
abbrev pub resets1 : Brought
resets1 = asking 0 (0 ∷ 0 ∷ 1 ∷ 0 ∷ 0 ∷ 0 ∷ 0 ∷ []) []

abbrev pub derives : Brought
derives = asking 6 (0 ∷ 2 ∷ 0 ∷ 3 ∷ 0 ∷ 4 ∷ 0 ∷ []) []

abbrev pub locks7 : Brought
locks7 = asking 10 (0 ∷ 0 ∷ 7 ∷ 0 ∷ 0 ∷ 0 ∷ 0 ∷ []) []

-- a request of two bytes, and an answer that is too short
abbrev pub broken : Brought
broken = record { request = 1 ∷ 2 ∷ []; buffer = []; answer = 3 ∷ []; lent = no_leases }

-- a byte of the root read by 8 at minute 5, with a lease of the root for the minutes 1 to 8; the root revoked
abbrev pub reads8 : Brought
reads8 = record { request = word_bytes (1 ∷ 0 ∷ 5 ∷ 8 ∷ 0 ∷ 0 ∷ 0 ∷ 0 ∷ []); buffer = 0 ∷ []; answer = replicate 48 0; lent = with_leases (0 ∷ 0 ∷ 0 ∷ 0 ∷ 1 ∷ 0 ∷ 9 ∷ 0 ∷ []) }

abbrev pub revokes : Brought
revokes = asking 12 (0 ∷ 0 ∷ 0 ∷ 0 ∷ 0 ∷ 0 ∷ 0 ∷ []) []

-- a call with leases, over what the reset left
abbrev lending : (operation : ℕ) → List ℕ → (buffer table : List ℕ) → Brought
lending o ws b ls = record { request = word_bytes (o ∷ ws); buffer = b; answer = replicate 48 0; lent = with_leases ls }

-- Leases of a wrong size are 1 with any request; unsound ones stop no clone; a read by task 20 with a lease of the root for the minutes 1 to 8 is granted
-- at minute 5, closed at 9, and at minute 10,080 it is 1; and `northbridge_serve` does not look at the minute.
unfoldable pub Lending : Type 0
Lending =
    let lease : List ℕ = 0 ∷ 0 ∷ 0 ∷ 0 ∷ 1 ∷ 0 ∷ 9 ∷ 0 ∷ [] in
    map (λ (q : Brought). (call (next before resets1) q).result)
    (lending 8 (replicate 7 0) [] (replicate 7 0)
    ∷ lending 0 (replicate 7 1) [] (replicate 520 0)
    ∷ lending 8 (replicate 7 0) [] (replicate 8 0)
    ∷ lending 1 (0 ∷ 5 ∷ 20 ∷ 0 ∷ 0 ∷ 0 ∷ 0 ∷ []) (0 ∷ []) lease
    ∷ lending 1 (0 ∷ 9 ∷ 20 ∷ 0 ∷ 0 ∷ 0 ∷ 0 ∷ []) (0 ∷ []) lease
    ∷ lending 1 (0 ∷ 10080 ∷ 20 ∷ 0 ∷ 0 ∷ 0 ∷ 0 ∷ []) (0 ∷ []) []
    ∷ asking 1 (0 ∷ 10080 ∷ 20 ∷ 0 ∷ 0 ∷ 0 ∷ 0 ∷ []) (0 ∷ [])
    ∷ [])
    ≡ 1 ∷ 1 ∷ 0 ∷ 0 ∷ 15 ∷ 1 ∷ 0 ∷ []

-- without leases, at the week's last minute, it comes to the same by either function
abbrev pub last_minute : Brought
last_minute = lending 1 (0 ∷ 10079 ∷ 20 ∷ 0 ∷ 0 ∷ 0 ∷ 0 ∷ []) (0 ∷ []) []

abbrev pub plainly : Brought → Brought
plainly q = record { request = q.request; buffer = q.buffer; answer = q.answer; lent = no_leases }

abbrev pub ByEither : Type 0
ByEither = call (next before resets1) last_minute ≡ call (next before resets1) (plainly last_minute)

-- what the derive gives
abbrev pub child : Name
child = record { number = 1; tag = 63154 }

-- what the derive leaves in the ledger, and what follows it there
abbrev pub derived : Event
derived = event of_calls (next before resets1) derives

abbrev pub since_derived : List Brought → List Event
since_derived qs = ledger of_calls [] (after before (resets1 ∷ derives ∷ [])) qs

-- the root is left locked for 7
abbrev pub first : First
first = record { reset = resets1; follows = derives ∷ broken ∷ locks7 ∷ []; entry = 0; task = 7 }
