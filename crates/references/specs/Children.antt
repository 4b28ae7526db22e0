-- Children: what derive and execute-only share.
-- Assumes nothing.
use Rattle.std.specs.Prelude.{◌≡◌, List, ℕ, ◌+◌, ◌*◌, ◌^◌, ◌≤◌, ◌<◌, length}
use Rattle.layout.specs.declared.entry.Entry.{Entry}
use Rattle.machine.specs.Issuing.{new_number}
use Rattle.machine.specs.Operations.{grant_derive}
use Rattle.machine.specs.Parts.{at, spent, State}
use Rattle.machine.specs.Requests.{derive, Request}
use Rattle.machine.specs.Steps.{Verdict, verdict}
use Rattle.machine.specs.Stops.{bearing}
use Rattle.rulings.specs.Rulings.{ended, ruled, Ruling}
use Rattle.rulings.specs.declared.request.Derive.{Derive}

-- a derive, where the word of its token is k: `derive_as q` is `derive_by q.token q`
abbrev pub derive_by : (token : ℕ) → Derive → Request
derive_by k q = derive k q.offset q.length q.permissions q.encoding

-- places 9 and 10, for the parent e
unfoldable pub child_verdict : State → List ℕ → Entry → Verdict
child_verdict s t e = verdict (bearing s t e)

-- what must hold for a child of entry n under the new number
pub record Bearing (s : State) (t : List ℕ) (n new offset permissions encoding : ℕ) : Type 0 where
  pub parent : 32 * n + 32 ≤ length t
  pub child : 32 * new + 32 ≤ length t
  pub most : length t ≤ 32768
  pub number : new ≡ new_number s t
  pub count : (at t n).count < 65535
  pub base : (at t n).base + offset < 2 ^ 32
  pub permitted : permissions < 8
  pub encoded : encoding ≤ 3
  pub nonce : s.next ≤ spent

-- what is handed back for it, by place 11
unfoldable pub bearing_on : State → List ℕ → ℕ → (offset length permissions encoding : ℕ) → Ruling
bearing_on s t n o l p c = ruled (ended s t (grant_derive t n o l p c))
