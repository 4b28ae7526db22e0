-- "Checks run down this table": the refusals that each request can come to, in their order (01, "Where a request stops").
-- Assumes nothing.
use Rattle.std.specs.Prelude.{◌≡◌, ◌⊎◌, cond, ℕ, eqb}
use mathlib.Core.List.{List, [], ◌∷◌, ◌++◌, Memᴰ}
use Rattle.machine.specs.Operations.{grant}
use Rattle.machine.specs.Parts.{State}
use Rattle.machine.specs.Requests.{Access, accessing, Call, clone, create, derive, dumping, execute_only, loading, lock, Look, look, merge, moving, page_in, page_out, release, Request, reset, revoke, task_of, unlock}
use Rattle.machine.specs.Steps.{answer, Machine}
use Rattle.machine.specs.Stops.{Check, checks, lastly, refusal_number}

-- the refusals that each access is judged by
abbrev pub access_row : Access → List ℕ
access_row (moving w) = 1 ∷ 16 ∷ 2 ∷ 17 ∷ 3 ∷ 4 ∷ 5 ∷ 15 ∷ 7 ∷ 8 ∷ []
access_row loading = 1 ∷ 12 ∷ 13 ∷ 16 ∷ 2 ∷ 17 ∷ 3 ∷ 4 ∷ 5 ∷ 15 ∷ 7 ∷ 8 ∷ []
access_row dumping = 1 ∷ 16 ∷ 2 ∷ 17 ∷ 3 ∷ 4 ∷ 5 ∷ 15 ∷ 7 ∷ 14 ∷ []

-- and each look
abbrev pub look_row : Look → List ℕ
look_row v = elim v [ ]

-- the rows of 01's table, and the refusals of 02, by their numbers, that each request is judged by
abbrev pub row : Request → List ℕ
row (reset k0 k1 ν) = 1 ∷ []
row (accessing w k u φ) = access_row w
row (create k u l x p c) = 1 ∷ 2 ∷ 17 ∷ 3 ∷ 4 ∷ 5 ∷ 6 ∷ 7 ∷ 8 ∷ 9 ∷ 10 ∷ 11 ∷ []
row (merge j k u c) = 1 ∷ 2 ∷ 17 ∷ 3 ∷ 4 ∷ 5 ∷ 2 ∷ 17 ∷ 3 ∷ 4 ∷ 5 ∷ 6 ∷ 8 ∷ 9 ∷ 11 ∷ []
row (derive k o l p c) = 1 ∷ 2 ∷ 17 ∷ 3 ∷ 4 ∷ 7 ∷ 8 ∷ 9 ∷ 10 ∷ 11 ∷ []
row (execute_only k c) = 1 ∷ 2 ∷ 17 ∷ 3 ∷ 4 ∷ 7 ∷ 9 ∷ 10 ∷ 11 ∷ []
row (clone k) = 1 ∷ 2 ∷ 17 ∷ 3 ∷ 4 ∷ 9 ∷ []
row (release k) = 1 ∷ 2 ∷ 17 ∷ 3 ∷ 9 ∷ []
row (lock k u) = 1 ∷ 2 ∷ 17 ∷ 3 ∷ 4 ∷ 5 ∷ 7 ∷ []
row (unlock k u) = 1 ∷ 2 ∷ 17 ∷ 3 ∷ 4 ∷ 5 ∷ 9 ∷ []
row (revoke k c) = 1 ∷ 2 ∷ 17 ∷ 3 ∷ 4 ∷ 6 ∷ 11 ∷ []
row (page_out k u f c) = 1 ∷ 2 ∷ 17 ∷ 3 ∷ 4 ∷ 5 ∷ 6 ∷ 8 ∷ 9 ∷ 10 ∷ 11 ∷ []
row (page_in j k u c) = 1 ∷ 2 ∷ 3 ∷ 4 ∷ 5 ∷ 2 ∷ 3 ∷ 4 ∷ 5 ∷ 6 ∷ 8 ∷ 9 ∷ 11 ∷ []
row (look v) = look_row v

-- place 11 is judged for every request, after all others but 14, which is "last of all": a row with 11 at its end, or before 14
abbrev pub ended : List ℕ → List ℕ
ended [] = 11 ∷ []
ended (n ∷ ns) = cond (eqb n 11) (n ∷ ns) (cond (eqb n 14) (11 ∷ n ∷ ns) (n ∷ ended ns))

-- the refusals' numbers down a list of checks, one for several in a row that have the same; r is the number before them
abbrev pub numbers : (r : ℕ) → List Check → List ℕ
numbers r [] = []
numbers r (c ∷ cs) = cond (eqb (refusal_number c.refusal) r) (numbers r cs) (refusal_number c.refusal ∷ numbers (refusal_number c.refusal) cs)

-- the checks of a request, and after them those of what it makes, are those of its row, in this order
unfoldable pub Ordered : Type 0
Ordered = (m : ℕ) (s : State) (t : List ℕ) (q : Request) (memory b : List ℕ) → numbers 0 (checks m s t q b ++ lastly (grant m t q b).effect.fill memory b) ≡ ended (row q)

-- and every request is granted (0) or refused with a number of its row: one that issues nothing never comes to 11
unfoldable pub Among : Type 0
Among = (σ : Machine) (q : Call) → Memᴰ (answer σ q).reply.refusal (0 ∷ row q.request)

-- a request that is not judged for the lock carries no task
unfoldable pub Tasks : Type 0
Tasks = (q : Request) → (task_of q ≡ 0) ⊎ Memᴰ 5 (row q)
