-- Leases (02, paper 4): the minutes of the week in which a token is open.
-- Assumes nothing.
use Rattle.std.specs.Prelude.{Bool, true, false, not, ◌&&◌, ◌||◌, cond, List, [], ◌∷◌, ◌++◌, ℕ, zero, suc, ◌+◌, ◌*◌, ◌/◌, ◌%◌, eqb, leb, ltb, get_or, length}
use Rattle.leases.specs.declared.lease.Window.{Window}
use Rattle.leases.specs.declared.lease.Window.TheVariants.{Closed, Open, Unsound}
use Rattle.leases.specs.declared.lease.Lease.{Lease}

-- "minute of the week (0 to 10,079, Monday 00:00 is 0)": a minute beyond the week is this or more
abbrev pub week : ℕ
week = 10080

-- "Up to 64 leases [..] in a lent table of whole leases, at most 512 bytes": a lease has 8 bytes
abbrev pub lease_size : ℕ
lease_size = 8

abbrev pub whole : List ℕ → Bool
whole t = eqb (length t % lease_size) 0

abbrev pub few : List ℕ → Bool
few t = leb (length t) 512

abbrev pub fit : List ℕ → Bool
fit t = whole t && few t

-- ---- a table of leases

-- "16 bits each, low byte first": the number at place i of so many
abbrev pub sixteen : List ℕ → ℕ → ℕ
sixteen t i = get_or t (2 * i) 0 + 256 * get_or t (2 * i + 1) 0

-- "each a number, a tag, an opening and a closing minute of the week": lease i
unfoldable pub lease_at : List ℕ → ℕ → Lease
lease_at t i = record { number = sixteen t (4 * i); tag = sixteen t (4 * i + 1); opening = sixteen t (4 * i + 2); closing = sixteen t (4 * i + 3) }

-- the first n leases, and all of them
unfoldable pub first_leases : ℕ → List ℕ → List Lease
first_leases zero t = []
first_leases (suc n) t = first_leases n t ++ (lease_at t n ∷ [])

unfoldable pub leases_of : List ℕ → List Lease
leases_of t = first_leases (length t / lease_size) t

-- all of them are so, and some one is
abbrev pub every : (Lease → Bool) → List Lease → Bool
every p [] = true
every p (l ∷ ls) = p l && every p ls

abbrev pub some : (Lease → Bool) → List Lease → Bool
some p [] = false
some p (l ∷ ls) = p l || some p ls

-- ---- windows

-- "a lease whose minutes are equal or either is beyond the week" is not sound
abbrev pub is_sound : Lease → Bool
is_sound l = not (eqb l.opening l.closing) && ltb l.opening week && ltb l.closing week

unfoldable pub all_sound : List Lease → Bool
all_sound ls = every is_sound ls

-- "Opening is included, closing is not; an opening later than its closing runs over the week's end."
unfoldable pub covers : Lease → (minute : ℕ) → Bool
covers l i = cond (ltb l.closing l.opening) (leb l.opening i || ltb i l.closing) (leb l.opening i && ltb i l.closing)

-- a lease is for the token of its number and its tag, and for no other
abbrev pub is_for : (number tag : ℕ) → Lease → Bool
is_for n g l = eqb l.number n && eqb l.tag g

abbrev pub admits : (number tag minute : ℕ) → Lease → Bool
admits n g i l = is_for n g l && covers l i

-- "A token without a lease is always open; with several, any open one suffices."
unfoldable pub is_open : List Lease → (number tag minute : ℕ) → Bool
is_open ls n g i = not (some (is_for n g) ls) || some (admits n g i) ls

-- what the leases come to for a token at a minute
unfoldable pub judged : List Lease → (number tag minute : ℕ) → Window
judged ls n g i = cond (all_sound ls) (cond (is_open ls n g i) Open Closed) Unsound
