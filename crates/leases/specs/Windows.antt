-- What a reader expects of windows, told in other words than the definitions.
-- Assumes nothing.
use Rattle.std.specs.Prelude.{◌≡◌, ◌≢◌, ◌⊎◌, true, ℕ, ◌+◌, ◌*◌, ◌-◌, ◌%◌, ◌≤◌, ◌<◌, ltb, length}
use mathlib.Core.List.{List, Memᴰ}
use Rattle.leases.specs.Lease.{all_sound, covers, is_open, is_sound, lease_at, leases_of, week}
use Rattle.leases.specs.declared.lease.Lease.{Lease}

-- ---- a table

-- every eight bytes of it are a lease, however many there are
unfoldable pub Listed : Type 0
Listed = (t : List ℕ) (i : ℕ) → 8 * i + 8 ≤ length t → Memᴰ (lease_at t i) (leases_of t)

-- ---- one window

-- a window and its complement, with opening and closing exchanged
abbrev pub exchanged : Lease → Lease
exchanged l = record { number = l.number; tag = l.tag; opening = l.closing; closing = l.opening }

-- They share no minute, and together have every minute of the week.
pub record Complement : Type 0 where
  pub apart : (l : Lease) → is_sound l ≡ true → (i : ℕ) → covers l i ≡ true → covers (exchanged l) i ≡ true → ⊥
  pub together : (l : Lease) → is_sound l ≡ true → (i : ℕ) → i < week → (covers l i ≡ true) ⊎ (covers (exchanged l) i ≡ true)

-- how many minutes lie between o and i on a clock that goes round with the week
abbrev pub since : (o i : ℕ) → ℕ
since o i = (i + week - o) % week

-- A minute lies in a window if the clock, from the opening on, comes to it before it comes to the closing.
unfoldable pub Round : Type 0
Round = (l : Lease) → is_sound l ≡ true → (i : ℕ) → i < week → covers l i ≡ ltb (since l.opening i) (since l.opening l.closing)

-- ---- several leases

-- the lease names the token of number n and tag g
pub record For (n g : ℕ) (l : Lease) : Type 0 where
  pub number : l.number ≡ n
  pub tag : l.tag ≡ g

-- no lease names it, and one that names it is open
abbrev pub Without : List Lease → (n g : ℕ) → Type 0
Without ls n g = (l : Lease) → Memᴰ l ls → For n g l → ⊥

pub record Admits (ls : List Lease) (n g i : ℕ) : Type 0 where
  pub lease : Lease
  pub among : Memᴰ lease ls
  pub names : For n g lease
  pub opens : covers lease i ≡ true

-- "A token without a lease is always open; with several, any open one suffices": and no other is open.
pub record Opens (ls : List Lease) (n g i : ℕ) : Type 0 where
  pub without : Without ls n g → is_open ls n g i ≡ true
  pub any : Admits ls n g i → is_open ls n g i ≡ true
  pub only : is_open ls n g i ≡ true → Without ls n g ⊎ Admits ls n g i

-- a lease's minutes differ and lie in the week
pub record Sound (l : Lease) : Type 0 where
  pub differ : l.opening ≢ l.closing
  pub opening : l.opening < week
  pub closing : l.closing < week

-- the leases are sound if each of them is, whichever token it is for
pub record AllSound (ls : List Lease) : Type 0 where
  pub each : all_sound ls ≡ true → (l : Lease) → Memᴰ l ls → Sound l
  pub all : ((l : Lease) → Memᴰ l ls → Sound l) → all_sound ls ≡ true
