-- What every list of writes leaves, said once over the kinds of write.
-- Assumes nothing.
use mathlib.Core.Path.{◌≡◌, refl, sym, ap, ap₂, ◌∙◌}
use mathlib.Core.Bool.{◌&&◌}
use mathlib.Core.List.{List, [], ◌∷◌, ◌++◌}
use Prim.Native.Nat.{ℕ, zero, suc, ◌+◌, ◌-◌, ◌^◌, ◌≤◌, ◌<◌}
use native.Mathlib.Nat.{mod-lt}
use native.Mathlib.Omega.{arith}
use native.Mathlib.Decide.{ℕ_discrete}
use lib.Dec.{eqb, leb, ltb}
use lib.ListN.{length, length-append}
use lib.Pow.{pow_pos}
use borrow.Author.Tests.{ltb-true}
use Rattle.layout.specs.Tag.{tag_of}
use Rattle.layout.specs.declared.entry.Entry.{Entry}
use Rattle.tokens.specs.Token.{NamedFits}
use Rattle.tokens.specs.declared.token.Named.{Named}
use Rattle.tokens.proofs.TokenLaws.{read-packed, small_fits, token_lt}
use Rattle.machine.specs.Given.{AllWords, name_in, names_in}
use Rattle.machine.specs.Issuing.{issue, new_number, other_nonce}
use Rattle.machine.specs.Line.{is_locked, line_of, linked, parent_number}
use Rattle.machine.specs.Operations.{climb, grant_release}
use Rattle.machine.specs.Parts.{at, cleared, put, root, size, State, totalled}
use Rattle.machine.specs.Writes.{alter, begin, Book, entered, give, Name, name_of, one_less, one_more, reissue, token_for, vacate, vacated, Write, write, written}
use Rattle.machine.proofs.Choices.{by_cond}
use Rattle.machine.proofs.Fuel.{number_first, other-least}
use Rattle.machine.proofs.TableLaws.{size-cleared, size-put}

-- ---- the table

-- Entries are all that is written: what holds of a table, and of it with an entry put, and of it cleared, holds after the writes.
module _ (P : List ℕ → Type 0) (puts : (t : List ℕ) (n : ℕ) (e : Entry) → P t → P (put t n e)) (clears : (t : List ℕ) → P t → P (cleared t)) (c : ℕ) where
  table-written : (b : Book) (w : Write) → P b.table → P (write c b w).table
  table-written b (begin m k0 k1 ν) h = search (puts, clears)
  table-written b (give e) h = search (puts)
  table-written b (reissue n e) h = search (puts)
  table-written b (vacate n) h = search (puts)
  table-written b (alter n e) h = search (puts)

  pub table_after : (b : Book) (ws : List Write) → P b.table → P (written c b ws).table
  table_after b [] h = h
  table_after b (w ∷ ws) h = table_after (write c b w) ws (table-written b w h)

-- ---- the last number and the free total

-- a new number is inside, and 0 where there is none
number-inside : (s : State) (t : List ℕ) → 0 < size t → new_number s t < size t
number-inside s t h = go (ℕ_discrete (new_number s t) 0)
  where
    go : Dec (new_number s t ≡ 0) → new_number s t < size t
    go (yes z) = omega arith
    go (no z) = (number_first s t z).inside

-- one number more or less is free: the total stays below a bound that all numbers are below
less_inside : (k top : ℕ) → k < top → one_less k < top
less_inside k top h = omega arith

more_inside : (z n k top : ℕ) → z ≤ top → k < top → one_more (z - 1) n k < top
more_inside z n k top all h =
    by_cond (λ x. x < top) (eqb n 0) (λ i. h) (λ i. by_cond (λ x. x < top) (ltb k (z - 1)) (λ j. omega (arith, ltb-true k (z - 1) j)) (λ j. h))

-- a table of z entries, and a free total below a bound that all numbers are below
pub record Ranged (z top : ℕ) (b : Book) : Type 0 where
  pub sized : size b.table ≡ z
  pub total : b.state.total < top

-- and so the last number
pub record Numbered (z top : ℕ) (b : Book) : Type 0 where
  pub ranged : Ranged z top b
  pub last : b.state.last < top

module _ (c z top : ℕ) (some : 0 < z) (all : z ≤ top) where
  ranged_written : (b : Book) (w : Write) → Ranged z top b → Ranged z top (write c b w)
  ranged_written b (begin m k0 k1 ν) g = record { sized = size-put (cleared b.table) 0 (root m) ∙ size-cleared b.table ∙ g.sized; total = omega (arith, g.sized) }
  ranged_written b (give e) g = record { sized = size-put _ _ _ ∙ g.sized; total = less_inside _ top g.total }
  ranged_written b (reissue k e) g = record { sized = size-put _ _ _ ∙ g.sized; total = g.total }
  ranged_written b (vacate k) g = record { sized = size-put _ _ _ ∙ g.sized; total = more_inside (size b.table) k _ top (omega (arith, g.sized)) g.total }
  ranged_written b (alter k e) g = record { sized = size-put _ _ _ ∙ g.sized; total = g.total }

  pub ranged_after : (b : Book) (ws : List Write) → Ranged z top b → Ranged z top (written c b ws)
  ranged_after b [] g = g
  ranged_after b (w ∷ ws) g = ranged_after (write c b w) ws (ranged_written b w g)

  last_written : (b : Book) (w : Write) → Numbered z top b → (write c b w).state.last < top
  last_written b (begin m k0 k1 ν) g = omega arith
  last_written b (give e) g = omega (arith, g.ranged.sized, number-inside b.state b.table (omega (arith, g.ranged.sized)))
  last_written b (reissue k e) g = g.last
  last_written b (vacate k) g = g.last
  last_written b (alter k e) g = g.last

  pub numbered_after : (b : Book) (ws : List Write) → Numbered z top b → Numbered z top (written c b ws)
  numbered_after b [] g = g
  numbered_after b (w ∷ ws) g = numbered_after (write c b w) ws (record { ranged = ranged_written b w g.ranged; last = last_written b w g })

-- ---- nonces and tokens

-- no reset is among the writes, and what is issued anew has a number below z
abbrev pub Within : ℕ → List Write → Type 0
Within z [] = Unit {0}
Within z (begin m k0 k1 ν ∷ ws) = ⊥
Within z (give e ∷ ws) = Within z ws
Within z (reissue n e ∷ ws) = (n < z) × Within z ws
Within z (vacate n ∷ ws) = Within z ws
Within z (alter n e ∷ ws) = Within z ws

-- the next nonce never falls
pub next_up : (c z : ℕ) (b : Book) (ws : List Write) → Within z ws → b.state.next ≤ (written c b ws).state.next
next_up c z b [] h = omega arith
next_up c z b (begin m k0 k1 ν ∷ ws) h = absurd h
next_up c z b (give e ∷ ws) h = omega (arith, other-least b.state b.table (new_number b.state b.table) e, next_up c z (write c b (give e)) ws h)
next_up c z b (reissue n e ∷ ws) h = omega (arith, other-least b.state b.table n e, next_up c z (write c b (reissue n e)) ws h.1)
next_up c z b (vacate n ∷ ws) h = next_up c z (write c b (vacate n)) ws h
next_up c z b (alter n e ∷ ws) h = next_up c z (write c b (alter n e)) ws h

-- the key stays
abbrev pub SameKey : State → State → Type 0
SameKey s s' = (s'.key0 ≡ s.key0) × (s'.key1 ≡ s.key1)

pub key_kept : (c z : ℕ) (b : Book) (ws : List Write) → Within z ws → SameKey b.state (written c b ws).state
key_kept c z b [] h = (refl, refl)
key_kept c z b (begin m k0 k1 ν ∷ ws) h = absurd h
key_kept c z b (give e ∷ ws) h = key_kept c z (write c b (give e)) ws h
key_kept c z b (reissue n e ∷ ws) h = key_kept c z (write c b (reissue n e)) ws h.1
key_kept c z b (vacate n ∷ ws) h = key_kept c z (write c b (vacate n)) ws h
key_kept c z b (alter n e ∷ ws) h = key_kept c z (write c b (alter n e)) ws h

-- how many of the writes give a token, and so many does the answer gain
abbrev pub giving : List Write → ℕ
giving [] = 0
giving (begin m k0 k1 ν ∷ ws) = giving ws
giving (give e ∷ ws) = suc (giving ws)
giving (reissue n e ∷ ws) = suc (giving ws)
giving (vacate n ∷ ws) = giving ws
giving (alter n e ∷ ws) = giving ws

one_longer : (xs : List ℕ) (y n k : ℕ) → n ≡ length (xs ++ (y ∷ [])) + k → n ≡ length xs + suc k
one_longer xs y n k h = omega (arith, rw length-append at h)

pub given-tokens : (c : ℕ) (b : Book) (ws : List Write) → length (written c b ws).tokens ≡ length b.tokens + giving ws
given-tokens c b [] = omega arith
given-tokens c b (begin m k0 k1 ν ∷ ws) = given-tokens c (write c b (begin m k0 k1 ν)) ws
given-tokens c b (give e ∷ ws) = one_longer b.tokens _ _ _ (given-tokens c (write c b (give e)) ws)
given-tokens c b (reissue n e ∷ ws) = one_longer b.tokens _ _ _ (given-tokens c (write c b (reissue n e)) ws)
given-tokens c b (vacate n ∷ ws) = given-tokens c (write c b (vacate n)) ws
given-tokens c b (alter n e ∷ ws) = given-tokens c (write c b (alter n e)) ws

-- the token of what is issued under number n is a word, and names it
issued_fits : (s : State) (c n : ℕ) (e : Entry) → c ≤ 3 → n < 1024 → NamedFits c (record { tag = (issue s n e).tag; number = n; offset = 0 })
unfolding tag_of
issued_fits s c n e a b = small_fits c n (issue s n e).tag a b (mod-lt _ (pow_pos 16))

pub names : (s : State) (c n : ℕ) (e : Entry) → c ≤ 3 → n < 1024 → name_in (token_for c (name_of n (issue s n e))) ≡ name_of n (issue s n e)
names s c n e a b = ap (λ (x : Named). record { number = x.number; tag = x.tag }) (read-packed c _ (omega arith) (issued_fits s c n e a b))

words_append : (xs : List ℕ) (y : ℕ) → AllWords xs → y < 2 ^ 64 → AllWords (xs ++ (y ∷ []))
words_append [] y h k = (k, tt)
words_append (x ∷ xs) y h k = (h.0, words_append xs y h.1 k)

names_append : (xs : List ℕ) (y : ℕ) → names_in (xs ++ (y ∷ [])) ≡ names_in xs ++ (name_in y ∷ [])
names_append [] y = refl
names_append (x ∷ xs) y = ap (λ (ks : List Name). name_in x ∷ ks) (names_append xs y)

-- the tokens so far are words, and name what was issued so far, in a table of z entries
pub record Told (z : ℕ) (b : Book) : Type 0 where
  pub sized : size b.table ≡ z
  pub named : b.issued ≡ names_in b.tokens
  pub words : AllWords b.tokens

module _ (c z : ℕ) (encoded : c ≤ 3) (some : 0 < z) (most : z ≤ 1024) where
  one_more_lem : (b : Book) (last total n : ℕ) (e : ℕ → Entry) → n < z → Told z b → Told z (entered c b last total n e)
  one_more_lem b last total n e h g =
      let ν : ℕ = other_nonce b.state b.table n e in
      let k : ℕ = token_for c (name_of n (issue b.state n (e ν))) in
      record {
        sized = size-put _ _ _ ∙ g.sized;
        named = ap₂ (λ (ks : List Name) (k : Name). ks ++ (k ∷ [])) g.named (sym (names b.state c n (e ν) encoded (omega arith))) ∙ sym (names_append b.tokens k);
        words = words_append b.tokens k g.words (token_lt c _ (omega arith) (issued_fits b.state c n (e ν) encoded (omega arith)));
      }

  pub named_after : (b : Book) (ws : List Write) → Within z ws → Told z b → Told z (written c b ws)
  named_after b [] h g = g
  named_after b (begin m k0 k1 ν ∷ ws) h g = absurd h
  named_after b (give e ∷ ws) h g =
      named_after (write c b (give e)) ws h (one_more_lem b _ _ (new_number b.state b.table) e (omega (arith, number-inside b.state b.table (omega (arith, g.sized)), g.sized)) g)
  named_after b (reissue n e ∷ ws) h g = named_after (write c b (reissue n e)) ws h.1 (one_more_lem b _ _ n e h.0 g)
  named_after b (vacate n ∷ ws) h g = named_after (write c b (vacate n)) ws h (record { sized = size-put _ _ _ ∙ g.sized; named = g.named; words = g.words })
  named_after b (alter n e ∷ ws) h g = named_after (write c b (alter n e)) ws h (record { sized = size-put _ _ _ ∙ g.sized; named = g.named; words = g.words })

-- ---- writes that issue nothing

abbrev pub Calm : List Write → Type 0
Calm [] = Unit {0}
Calm (begin m k0 k1 ν ∷ ws) = ⊥
Calm (give e ∷ ws) = ⊥
Calm (reissue n e ∷ ws) = ⊥
Calm (vacate n ∷ ws) = Calm ws
Calm (alter n e ∷ ws) = Calm ws

pub calm_giving : (ws : List Write) → Calm ws → giving ws ≡ 0
calm_giving [] h = refl
calm_giving (begin m k0 k1 ν ∷ ws) h = absurd h
calm_giving (give e ∷ ws) h = absurd h
calm_giving (reissue n e ∷ ws) h = absurd h
calm_giving (vacate n ∷ ws) h = calm_giving ws h
calm_giving (alter n e ∷ ws) h = calm_giving ws h

pub calm_within : (z : ℕ) (ws : List Write) → Calm ws → Within z ws
calm_within z [] h = tt
calm_within z (begin m k0 k1 ν ∷ ws) h = absurd h
calm_within z (give e ∷ ws) h = absurd h
calm_within z (reissue n e ∷ ws) h = absurd h
calm_within z (vacate n ∷ ws) h = calm_within z ws h
calm_within z (alter n e ∷ ws) h = calm_within z ws h

-- they leave the state but for its free total, and give no token
pub record Still (b b' : Book) : Type 0 where
  pub state : b'.state ≡ totalled b.state b'.state.total
  pub issued : b'.issued ≡ b.issued
  pub tokens : b'.tokens ≡ b.tokens

pub calm_still : (c : ℕ) (b : Book) (ws : List Write) → Calm ws → Still b (written c b ws)
calm_still c b [] h = record { state = refl; issued = refl; tokens = refl }
calm_still c b (begin m k0 k1 ν ∷ ws) h = absurd h
calm_still c b (give e ∷ ws) h = absurd h
calm_still c b (reissue n e ∷ ws) h = absurd h
calm_still c b (vacate n ∷ ws) h = let k = calm_still c (write c b (vacate n)) ws h in record { state = k.state; issued = k.issued; tokens = k.tokens }
calm_still c b (alter n e ∷ ws) h = let k = calm_still c (write c b (alter n e)) ws h in record { state = k.state; issued = k.issued; tokens = k.tokens }

-- those of a climb are such, and so those of a drop
climb_calm : (f : ℕ) (t : List ℕ) (n : ℕ) → Calm (climb f t n)
unfolding climb
climb_calm zero t n = tt
climb_calm (suc f) t n =
    by_cond Calm (leb 2 (at t n).count) (λ c. tt)
    (λ c. by_cond Calm (eqb (at t n).count 0) (λ z. tt)
    (λ z. by_cond Calm (eqb (at t n).kind 1) (λ d. tt)
    (λ d. by_cond Calm (linked t (at t n)) (λ l. climb_calm f (vacated t n) (parent_number (at t n))) (λ l. tt))))

pub release_calm : (m : ℕ) (t : List ℕ) (n : ℕ) → Calm (grant_release m t n).writes
release_calm m t n = by_cond Calm (eqb (at t n).count 1 && is_locked t (line_of m t n)) (λ e. tt) (λ e. climb_calm (suc (at t n).nonce) t n)
