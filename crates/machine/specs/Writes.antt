-- What is written into state and table: the one place where entries are issued and freed (01, "Issuing").
-- Assumes nothing.
use Rattle.std.specs.Prelude.{cond, List, [], ◌∷◌, ◌++◌, ℕ, ◌+◌, ◌-◌, eqb, ltb}
use Rattle.layout.specs.Entry.{freed}
use Rattle.tokens.specs.Token.{token}
use Rattle.layout.specs.declared.entry.Entry.{Entry}
use Rattle.machine.specs.Issuing.{issue, last_held, new_number, other_nonce}
use Rattle.machine.specs.Parts.{begun, cleared, most_free, moved, put, root, State, totalled}

-- "'the same token' means these two": its number and tag
pub record Name : Type 0 where
  pub number : ℕ
  pub tag : ℕ

abbrev pub name_of : ℕ → Entry → Name
name_of n e = record { number = n; tag = e.tag }

-- the token of that name in an encoding, offset zero
abbrev pub token_for : (encoding : ℕ) → Name → ℕ
token_for c k = token c (record { tag = k.tag; number = k.number; offset = 0 })

-- One write. An entry that is issued is told by what it is under each nonce, with tag 0.
pub data Write : Type 0 where
  -- reset: the root over all of memory, of so many bytes, and zeros for all other entries
  begin : (memory key0 key1 first_nonce : ℕ) → Write
  -- an entry is issued under a new number
  give : (entry : ℕ → Entry) → Write
  -- an entry is issued anew under its number
  reissue : (number : ℕ) (entry : ℕ → Entry) → Write
  -- the entry of this number is freed: "A freed entry now keeps its tag, all else zero" (02, paper 5)
  vacate : (number : ℕ) → Write
  -- "Later changes of count or lock leave the tag."
  alter : (number : ℕ) (entry : Entry) → Write

-- State and table as the writes so far left them; what these issued, in order; and the tokens that the answer carries of it.
pub record Book : Type 0 where
  pub state : State
  pub table : List ℕ
  pub issued : List Name
  pub tokens : List ℕ

-- as a request finds state and table
abbrev pub opened : State → List ℕ → Book
opened s t = record { state = s; table = t; issued = []; tokens = [] }

-- The one way to issue with a nonce. "An issue uses the next nonce and raises it by one", but for those that it passes over: e under number n, where `last` is then the last
-- number given, `total` the free total, and c the encoding of its token.
abbrev pub entered : (encoding : ℕ) → Book → (last total n : ℕ) → (ℕ → Entry) → Book
entered c b last total n e =
    let ν = other_nonce b.state b.table n e in
    let new = issue b.state n (e ν) in
    record { state = moved b.state last (ν + 1) total; table = put b.table n new; issued = b.issued ++ (name_of n new ∷ []); tokens = b.tokens ++ (token_for c (name_of n new) ∷ []) }

-- the table with entry n freed
abbrev pub vacated : List ℕ → ℕ → List ℕ
vacated t n = put t n (freed (last_held t n))

-- 02, paper 3: the total is "corrected by every issue of a new number and every freeing", and "a wrong handed-over total stops at 0 and at that top". One
-- number less is free, where 0 - 1 is 0; and one more, number n, which does not count if it is 0.
abbrev pub one_less : (total : ℕ) → ℕ
one_less k = k - 1

abbrev pub one_more : (top n total : ℕ) → ℕ
one_more top n k = cond (eqb n 0) k (cond (ltb k top) (k + 1) k)

-- Reset's root is issued, and no answer carries its token: "A token is issued, and so given, when reset writes the root (number 0, tag 0)".
abbrev pub write : (encoding : ℕ) → Book → Write → Book
write c b (begin m k0 k1 ν) =
    record { state = begun b.table k0 k1 ν; table = put (cleared b.table) 0 (root m); issued = b.issued ++ (record { number = 0; tag = 0 } ∷ []); tokens = b.tokens }
write c b (give e) = let new = new_number b.state b.table in entered c b new (one_less b.state.total) new e
write c b (reissue n e) = entered c b b.state.last b.state.total n e
write c b (vacate n) = record { state = totalled b.state (one_more (most_free b.table) n b.state.total); table = vacated b.table n; issued = b.issued; tokens = b.tokens }
write c b (alter n e) = record { state = b.state; table = put b.table n e; issued = b.issued; tokens = b.tokens }

-- one after the other
abbrev pub written : (encoding : ℕ) → Book → List Write → Book
written c b [] = b
written c b (w ∷ ws) = written c (write c b w) ws
