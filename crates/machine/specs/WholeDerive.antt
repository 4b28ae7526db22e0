-- A buffer passed on whole (02, paper 1): what the paper claims, on its own.
-- Assumes nothing.
use Rattle.std.specs.Prelude.{◌≡◌, ◌≢◌, true, List, [], ◌∷◌, ℕ, ◌+◌, ◌≤◌, ◌<◌}
use Rattle.tokens.specs.Permissions.{within, X}
use Rattle.tokens.specs.Token.{named}
use Rattle.machine.specs.FromReset.{Sound}
use Rattle.machine.specs.Given.{name_in}
use Rattle.machine.specs.MachineSystem.{Accepted}
use Rattle.machine.specs.Operations.{named_entry}
use Rattle.machine.specs.Requests.{Access, accessing, Call, derive, execute_only, right_for, Shift}
use Rattle.machine.specs.ShiftWindows.{Within}
use Rattle.machine.specs.Steps.{answer, decision, Machine, step}

-- a derive through the token k: l bytes at the offset o, with the permissions p
abbrev pub derive_call : (token offset length permissions encoding : ℕ) (buffer : List ℕ) → Call
derive_call k o l p c b = record { request = derive k o l p c; buffer = b }

-- how many bytes that token names
abbrev pub length_of : Machine → (token : ℕ) → ℕ
length_of σ k = (named_entry σ.table k).length

-- "From now on length + offset may equal the segment's length": a part that ends where the segment ends, or before, is not refused for its bounds, and one
-- that passes the end is not granted.
unfoldable pub Bounds : Type 0
Bounds =
    (σ : Machine) (k o l p c : ℕ) (b : List ℕ) →
    (l + o ≤ length_of σ k → (answer σ (derive_call k o l p c b)).reply.refusal ≢ 8)
    × (length_of σ k < l + o → (answer σ (derive_call k o l p c b)).reply.refusal ≢ 0)

-- So who may pass on some part may pass on every part up to the end, the whole among them; but for 11, since which nonces are to be passed over differs from part
-- to part (02, paper 5).
unfoldable pub Parts : Type 0
Parts =
    (σ : Machine) (k o l p c : ℕ) (b : List ℕ) → Accepted σ (derive_call k o l p c b)
    → (o' l' : ℕ) → l' ≢ 0 → l' + o' ≤ length_of σ k → (answer σ (derive_call k o' l' p c b)).reply.refusal ≢ 11 → Accepted σ (derive_call k o' l' p c b)

-- "The printed condition also forbids any derive of a one-byte segment": now a derive of all of a segment, of one byte too, with X alone is decided as an
-- execute-only is.
unfoldable pub AsExecuteOnly : Type 0
AsExecuteOnly =
    (σ : Machine) (k c : ℕ) (b : List ℕ) → length_of σ k ≢ 0
    → decision σ (derive_call k 0 (length_of σ k) X c b) ≡ decision σ (record { request = execute_only k c; buffer = b })

-- an access, at an address: a token with an offset
abbrev pub access_call : Access → (address task : ℕ) → Shift → (buffer : List ℕ) → Call
access_call w x u φ b = record { request = accessing w x u φ; buffer = b }

-- "The weigher hands its complete buffer to a card": q passes on all that the token k names, with the permissions p. Its answer carries one token, and by
-- that the card has what k has, as far as p allows: each access that k opens before q, at any offset and of a kind that p has, its token opens after q, with
-- the same answer and the same memory left. x and y are the card's token and k, each in any encoding, with the same offset. A lease of k is none of the
-- card's token (02, paper 4): k is open in its own shift ψ, and the card's token in its own, φ, whether or not k would be.
pub record PassedOn (σ : Machine) (k p : ℕ) (q : Call) : Type 0 where
  pub token : ℕ
  pub carried : (answer σ q).reply.tokens ≡ token ∷ []
  pub opens :
      (w : Access) → within (right_for w) p ≡ true
      → (x y u : ℕ) (φ ψ : Shift) (b : List ℕ) → name_in x ≡ name_in token → name_in y ≡ name_in k → (named x).offset ≡ (named y).offset
      → Accepted σ (access_call w y u ψ b) → Within φ x
      → (answer (step σ q) (access_call w x u φ b) ≡ answer σ (access_call w y u ψ b))
      × ((step (step σ q) (access_call w x u φ b)).memory ≡ (step σ (access_call w y u ψ b)).memory)

-- so it is with every derive of the whole that is granted, on a machine that is in order, as every one is from reset on (`FromReset`)
unfoldable pub Whole : Type 0
Whole =
    (σ : Machine) → Sound σ → (k p c : ℕ) (b : List ℕ)
    → let q : Call = derive_call k 0 (length_of σ k) p c b in
    Accepted σ q → PassedOn σ k p q
