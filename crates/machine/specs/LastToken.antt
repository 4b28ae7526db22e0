-- The last token must not return (02, paper 5): what the paper claims, on its own. What it changes in demand 3 stands there (`Ledger.Returned`).
-- Assumes nothing.
use Rattle.std.specs.Prelude.{◌≡◌, ◌≢◌, cond, List, [], ◌∷◌, ◌++◌, ℕ, eqb}
use Rattle.layout.specs.Entry.{freed}
use Rattle.machine.specs.MachineSystem.{Accepted, reset_call, Unreset}
use Rattle.machine.specs.Parts.{at}
use Rattle.machine.specs.Requests.{Call}
use Rattle.machine.specs.Steps.{decision, Machine, run, step}
use Rattle.machine.specs.Writes.{Name}

-- "A token is issued, and so given, when reset writes the root (number 0, tag 0) and when a granted answer carries it for an entry issued in that request" (01): the
-- tokens that a list of requests issues
abbrev pub issued_in : Machine → List Call → List Name
issued_in σ [] = []
issued_in σ (q ∷ qs) = (decision σ q).issued ++ issued_in (step σ q) qs

-- the tag that each number last held: `held` before, and then the tokens, issued one after the other
abbrev pub held_with : (held : ℕ → ℕ) → Name → ℕ → ℕ
held_with held k n = cond (eqb n k.number) k.tag (held n)

abbrev pub held_after : (held : ℕ → ℕ) → List Name → ℕ → ℕ
held_after held [] n = held n
held_after held (k ∷ ks) n = held_after (held_with held k) ks n

-- "Reset clears the kept tags, and an entry never used counts as having held tag 0."
abbrev pub unheld : ℕ → ℕ
unheld n = 0

-- of the tokens that are issued one after the other, each has another tag than its number last held
abbrev pub AllOther : (held : ℕ → ℕ) → List Name → Type 0
AllOther held [] = Unit {0}
AllOther held (k ∷ ks) = (k.tag ≢ held k.number) × AllOther (held_with held k) ks

-- "Every issue, also by create and merge, passes over nonces whose tag equals the one its entry last held": from reset on no issue gives a number the tag that
-- it last held, by whatever requests.
unfoldable pub NeverAgain : Type 0
NeverAgain =
    (σ : Machine) (k0 k1 ν : ℕ) (b : List ℕ) → Accepted σ (reset_call k0 k1 ν b) →
    let ρ = step σ (reset_call k0 k1 ν b) in
    (after : List Call) → Unreset ρ after → AllOther unheld (issued_in ρ after)

-- entry n has the tag g; free, it keeps it, "all else zero"
pub record Keeps (t : List ℕ) (n g : ℕ) : Type 0 where
  pub tag : (at t n).tag ≡ g
  pub bare : (at t n).kind ≡ 0 → at t n ≡ freed g

-- "A freed entry now keeps its tag, all else zero": from reset on each entry has the tag that its number last held, freed or not.
unfoldable pub Kept : Type 0
Kept =
    (σ : Machine) (k0 k1 ν : ℕ) (b : List ℕ) → Accepted σ (reset_call k0 k1 ν b) →
    let ρ = step σ (reset_call k0 k1 ν b) in
    (after : List Call) → Unreset ρ after → (n : ℕ) → Keeps (run ρ after).table n (held_after unheld (issued_in ρ after) n)
