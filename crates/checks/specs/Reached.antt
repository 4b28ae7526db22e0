-- What the checks of a token come to.
-- Assumes nothing.
use Rattle.std.specs.Prelude.{◌≡◌, Bool, false, Result, Ok, Err, List, ℕ, ◌+◌, ◌*◌, ◌/◌, ◌≤◌, ◌<◌, length}
use Rattle.tokens.specs.declared.token.Named.{Named}
use Rattle.layout.specs.Form.{ill_formed}
use Rattle.machine.specs.Line.{Line, owner}
use Rattle.machine.specs.Parts.{at}
use Rattle.machine.specs.Steps.{pass, Verdict, verdict}
use Rattle.machine.specs.Stops.{formed, live, page_reachable, reachable}
use Rattle.checks.specs.Refusals.{stop_as}
use Rattle.checks.specs.declared.refusal.Refusal.{Refusal}

-- the verdicts on a token: of places 2 and 3, of places 2 to 4, and of places 2 to 5
unfoldable pub formed_verdict : ℕ → List ℕ → ℕ → Verdict
formed_verdict m t k = verdict (formed m t k)

unfoldable pub live_verdict : ℕ → List ℕ → ℕ → Verdict
live_verdict m t k = verdict (live m t k)

unfoldable pub reach_verdict : ℕ → List ℕ → (token task : ℕ) → Verdict
reach_verdict m t k u = verdict (reachable m t k u)

-- and of places 2 to 5 of a token that may name a paged entry
unfoldable pub page_verdict : ℕ → List ℕ → (token task : ℕ) → Verdict
page_verdict m t k u = verdict (page_reachable m t k u)

-- the checks of a token came to the verdict v, and its line in the table t to l
abbrev pub Reaches : List ℕ → Result ℕ Refusal → Verdict → Line → Type 0
Reaches t (Err why) v l = v ≡ stop_as why
Reaches t (Ok o) v l = (v ≡ pass) × ((l ≡ owner o) × (32 * o + 32 ≤ length t))

-- the checks came to the verdict v, and the line's lock is b
abbrev pub Forms : Result Bool Refusal → Verdict → Bool → Type 0
Forms (Err why) v b = v ≡ stop_as why
Forms (Ok l) v b = (v ≡ pass) × (l ≡ b)

-- a token that is read as n names a direct, well-formed entry
pub record Near (m : ℕ) (t : List ℕ) (n : Named) : Type 0 where
  pub inside : n.number < length t / 32
  pub direct : (at t n.number).kind ≡ 1
  pub tagged : (at t n.number).tag ≡ n.tag
  pub formed : ill_formed m (at t n.number) ≡ false
