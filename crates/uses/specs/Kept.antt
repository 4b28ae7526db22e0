-- The last token must not return (02, paper 5): a first nonce found by search, with the real tags, over two entries.
-- Assumes nothing.
use Rattle.std.specs.Prelude.{List, [], ◌∷◌, ℕ}
use Rattle.machine.specs.Requests.{Call, release}
use Rattle.recorded.specs.Session.{plain}
use Rattle.machine.specs.Writes.{Name, token_for}
use Rattle.uses.specs.Uses.{derives}

-- with it the derive gives the tag 61064, and the nonce after it would give the same entry that tag again
abbrev pub first_nonce : ℕ
first_nonce = 157000

abbrev pub given : Name
given = record { number = 1; tag = 61064 }

-- what is given instead, by the nonce after that
abbrev pub other : Name
other = record { number = 1; tag = 49777 }

-- the derive, its drop, and the same derive
abbrev pub drops_given : Call
drops_given = plain (release (token_for 0 given))

abbrev pub derives_again : List Call
derives_again = derives ∷ drops_given ∷ derives ∷ []
