-- Paging out and in (02, paper 6): a small list with the real tags, over 4 bytes of memory and 4 entries.
-- Assumes nothing.
use Rattle.std.specs.Prelude.{[], ◌∷◌, replicate}
use Rattle.machine.specs.Paging.{in_call, out_call}
use Rattle.machine.specs.Requests.{Call, create}
use Rattle.recorded.specs.Session.{plain}
use Rattle.machine.specs.Steps.{Machine}
use Rattle.machine.specs.Writes.{Name, token_for}

-- before reset
unfoldable pub four : Machine
four = record { state = record { key0 = 0; key1 = 0; last = 0; next = 0; total = 0 }; table = replicate 128 0; memory = 1 ∷ 2 ∷ 3 ∷ 4 ∷ [] }

-- the front half, for reading and writing, with user 5; its token, and that of the rest
abbrev pub creates : Call
creates = plain (create 0 0 2 5 6 0)

abbrev pub part : Name
part = record { number = 1; tag = 37439 }

abbrev pub rest : Name
rest = record { number = 0; tag = 2853 }

-- it goes out as page 77; its token, and that of the zeroed segment
abbrev pub goes_out : Call
goes_out = out_call (token_for 0 part) 0 77 0 (0 ∷ 0 ∷ [])

abbrev pub away : Name
away = record { number = 1; tag = 16559 }

abbrev pub blank : Name
blank = record { number = 2; tag = 28924 }

-- and comes in, where the rest is the donor; its token then
abbrev pub comes_in : Call
comes_in = in_call (token_for 0 away) (token_for 0 rest) 0 0 (1 ∷ 2 ∷ [])

abbrev pub back : Name
back = record { number = 1; tag = 1706 }
