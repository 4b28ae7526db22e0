-- The code's values in the interface's terms.
-- Assumes nothing.
use Rattle.std.specs.Prelude.{Option, Some, None, List, [], ◌∷◌, ℕ}
use Rattle.rulings.specs.Asked.{request_as}
use Rattle.rulings.specs.declared.request.Request.{Request}
use Rattle.interface.specs.Exported.{Asked, Exported, known, Lent, no_leases, unknown, with_leases}
use Rattle.interface.specs.declared.answer.AnswerWords.{AnswerWords}

-- what is asked, with the leases that are lent with it
abbrev pub asked_as : Option Request → (leases : List ℕ) → Asked
asked_as (Some q) ls = known (request_as q ls)
asked_as None ls = unknown

-- what a call lends beside, and the bytes of it
abbrev pub lent_as : Option (List ℕ) → Lent
lent_as None = no_leases
lent_as (Some ls) = with_leases ls

abbrev pub lent_bytes : Option (List ℕ) → List ℕ
lent_bytes None = []
lent_bytes (Some ls) = ls

abbrev pub words_as : AnswerWords → List ℕ
words_as r = r.refusal ∷ r.place ∷ r.first ∷ r.second ∷ r.dropped ∷ r.length ∷ []

-- what a call returned, with the slices as it left them
abbrev pub left : ℕ → (state table memory buffer answer : List ℕ) → Exported
left r s t m b a = record { result = r; state = s; table = t; memory = m; buffer = b; answer = a }
