-- Paging out idle buffers (02, paper 6): what the paper claims, on its own.
-- Assumes nothing.
use Rattle.std.specs.Prelude.{◌≡◌, ◌≢◌, ◌⊎◌, false, true, List, [], ◌∷◌, ℕ, ◌^◌, ◌≤◌, ◌<◌, drop, get_or, length, replicate, take}
use Rattle.tokens.specs.Token.{named}
use Rattle.layout.specs.declared.entry.Entry.{Entry}
use Rattle.machine.specs.Demand3.{Closed}
use Rattle.machine.specs.FromReset.{Sound}
use Rattle.machine.specs.Given.{name_in}
use Rattle.machine.specs.Ledger.{Event, Gave, Returned}
use Rattle.machine.specs.MachineSystem.{Accepted, of_machine, reset_call, Unreset}
use Rattle.machine.specs.Operations.{named_entry, number_of, token_of}
use Rattle.machine.specs.Parts.{at}
use Rattle.machine.specs.Requests.{Call, page_in, page_out}
use Rattle.machine.specs.Segments.{In, LockedFor, Owns, Under}
use Rattle.machine.specs.Steps.{Answer, answer, Machine, run, step}
use Rattle.machine.specs.System.{ledger}
use Rattle.machine.specs.Writes.{Name, name_of}

-- paging out through the token k, by the task u, under the page-file number f; and paging in through the token j, with the donor k
abbrev pub out_call : (token task page encoding : ℕ) (buffer : List ℕ) → Call
out_call k u f c b = record { request = page_out k u f c; buffer = b }

abbrev pub in_call : (token donor task encoding : ℕ) (buffer : List ℕ) → Call
in_call j k u c b = record { request = page_in j k u c; buffer = b }

-- the bytes of the segment of entry n
abbrev pub bytes_of : Machine → ℕ → List ℕ
bytes_of σ n = take (at σ.table n).length (drop (at σ.table n).base σ.memory)

-- ---- out, and in

-- what an entry keeps when its segment goes out and comes in
pub record SameMarks (e d : Entry) : Type 0 where
  pub length : e.length ≡ d.length
  pub user : e.user ≡ d.user
  pub permissions : e.permissions ≡ d.permissions
  pub lockable : e.lockable ≡ d.lockable

-- an idle segment: direct, "unlocked at count 0"
pub record Idle (e : Entry) : Type 0 where
  pub direct : e.kind ≡ 1
  pub unlocked : e.locked ≡ false
  pub uncounted : e.count ≡ 0

-- "the bytes go to a caller's buffer of equal length [..], the entry becomes type 3 (type, page-file number 64 as requested, [..] the rest as direct, unlocked) and is
-- issued anew; the zeroed segment becomes a new direct entry with R, W, X, Lockable and user 0, issued second; both tokens are answered in that order": entry n of
-- σ has gone out under the page-file number f, with the answer r in encoding c, and τ is left. No other entry has
-- changed, and no other byte of memory.
pub record WentOut (σ : Machine) (n f c : ℕ) (r : Answer) (τ : Machine) : Type 0 where
  pub idle : Idle (at σ.table n)
  pub bytes : r.buffer ≡ bytes_of σ n
  pub paged : (at τ.table n).kind ≡ 3
  pub page : (at τ.table n).page ≡ f
  pub unlocked : (at τ.table n).locked ≡ false
  pub marks : SameMarks (at τ.table n) (at σ.table n)
  pub new : ℕ
  pub free : (at σ.table new).kind ≡ 0
  pub fresh : Idle (at τ.table new)
  pub base : (at τ.table new).base ≡ (at σ.table n).base
  pub length : (at τ.table new).length ≡ (at σ.table n).length
  pub rights : (at τ.table new).permissions ≡ 7
  pub lockable : (at τ.table new).lockable ≡ true
  pub user : (at τ.table new).user ≡ 0
  pub anew : σ.state.next ≤ (at τ.table n).nonce
  pub second : (at τ.table n).nonce < (at τ.table new).nonce
  pub tokens : r.reply.tokens ≡ token_of c n (at τ.table n) ∷ token_of c new (at τ.table new) ∷ []
  pub others : (i : ℕ) → i ≢ n → i ≢ new → at τ.table i ≡ at σ.table i
  pub zeroed : bytes_of τ new ≡ replicate (at σ.table n).length 0
  pub outside : (x : ℕ) → (In (at σ.table n) x → ⊥) → get_or τ.memory x 0 ≡ get_or σ.memory x 0

unfoldable pub Outs : Type 0
Outs =
    (σ : Machine) (k u f c : ℕ) (b : List ℕ) → let q : Call = out_call k u f c b in
    Accepted σ q → WentOut σ (number_of k) f c (answer σ q) (step σ q)

-- "the buffer's bytes land in the donor's segment, the paged entry becomes direct there, is issued anew, its token answered, and the donor is freed": entry n of
-- σ, which was paged out, has come in from the buffer b, in the segment of the donor k, with the answer r in encoding c.
pub record CameIn (σ : Machine) (n k c : ℕ) (b : List ℕ) (r : Answer) (τ : Machine) : Type 0 where
  pub paged : (at σ.table n).kind ≡ 3
  pub donor : Idle (at σ.table k)
  pub equal : (at σ.table n).length ≡ (at σ.table k).length
  pub idle : Idle (at τ.table n)
  pub base : (at τ.table n).base ≡ (at σ.table k).base
  pub marks : SameMarks (at τ.table n) (at σ.table n)
  pub bytes : bytes_of τ n ≡ b
  pub anew : σ.state.next ≤ (at τ.table n).nonce
  pub token : r.reply.tokens ≡ token_of c n (at τ.table n) ∷ []
  pub freed : (at τ.table k).kind ≡ 0
  pub others : (i : ℕ) → i ≢ n → i ≢ k → at τ.table i ≡ at σ.table i
  pub outside : (x : ℕ) → (In (at σ.table k) x → ⊥) → get_or τ.memory x 0 ≡ get_or σ.memory x 0

unfoldable pub Ins : Type 0
Ins =
    (σ : Machine) (j k u c : ℕ) (b : List ℕ) → let q : Call = in_call j k u c b in
    Accepted σ q → CameIn σ (number_of j) (number_of k) c b (answer σ q) (step σ q)

-- ---- what paging is for

-- Out, and then in with the bytes that came out: whatever lies between, if the entry is still as it went out, and whatever the donor, the segment has the same
-- bytes, length, user, permissions and Lockable, under the same number.
unfoldable pub Restored : Type 0
Restored =
    (σ : Machine) (k u f c : ℕ) (b : List ℕ) → let out : Call = out_call k u f c b in
    Accepted σ out → (ρ : Machine) → at ρ.table (number_of k) ≡ at (step σ out).table (number_of k)
    → (j d v e : ℕ) → number_of j ≡ number_of k → let inward : Call = in_call j d v e (answer σ out).buffer in
    Accepted ρ inward → let τ : Machine = step ρ inward in
    (bytes_of τ (number_of k) ≡ bytes_of σ (number_of k)) × SameMarks (at τ.table (number_of k)) (at σ.table (number_of k)) × Idle (at τ.table (number_of k))

-- And an "in" with an idle donor of that length is granted, whether or not a number is free; it can only come to 11. Its tokens name the entries and have no
-- offset, and task and encoding fit.
pub record Names (t : List ℕ) (k : ℕ) : Type 0 where
  pub name : name_in k ≡ name_of (number_of k) (named_entry t k)
  pub offset : (named k).offset ≡ 0

unfoldable pub Takes : Type 0
Takes =
    (σ : Machine) → Sound σ → (j k u c : ℕ) (b : List ℕ) → Names σ.table j → Names σ.table k → u < 2 ^ 55 → c ≤ 3
    → (named_entry σ.table j).kind ≡ 3 → Idle (named_entry σ.table k) → length b ≡ (named_entry σ.table j).length → length b ≡ (named_entry σ.table k).length
    → let q : Call = in_call j k u c b in
    Accepted σ q ⊎ ((answer σ q).reply.refusal ≡ 11)

-- ---- locks

-- "A locked buffer never goes out", and none is a donor: on whatever machine.
unfoldable pub Unlocked : Type 0
Unlocked =
    (σ : Machine) (k u f c : ℕ) (b : List ℕ) (j v d : ℕ)
    → (Accepted σ (out_call k u f c b) → (named_entry σ.table k).locked ≡ false) × (Accepted σ (in_call j k v d b) → (named_entry σ.table k).locked ≡ false)

-- So no byte that goes out, and none that is written over, is one of a locked segment.
unfoldable pub NoneLocked : Type 0
NoneLocked =
    (σ : Machine) → Sound σ → (k u f c : ℕ) (b : List ℕ) (j v d : ℕ) → Accepted σ (out_call k u f c b) ⊎ Accepted σ (in_call j k v d b)
    → (s t x : ℕ) → LockedFor σ.table s t → In (at σ.table s) x → In (named_entry σ.table k) x → ⊥

-- What the token of a paged entry is "for" (01): no segment, since the entry has no owner.
unfoldable pub ForNone : Type 0
ForNone = (t : List ℕ) (n m : ℕ) → (at t n).kind ≡ 3 → Owns t n m → ⊥

-- a request that pages: out, of entry n and its own segment; or in, of entry n, over the segment of the donor m
pub data Pages : Call → (n m : ℕ) → Type 0 where
  goes_out : {k u f c : ℕ} {b : List ℕ} → Pages (out_call k u f c b) (number_of k) (number_of k)
  comes_in : {j k u c : ℕ} {b : List ℕ} → Pages (in_call j k u c b) (number_of j) (number_of k)

-- the token κ, given when the table was t, is one of number n, or for the segment of e, or derived under it
pub data Of (t : List ℕ) (n : ℕ) (e : Entry) (κ : Name) : Type 0 where
  numbered : κ.number ≡ n → Of t n e κ
  under : Under t e κ → Of t n e κ

-- "issued anew", "freed": from reset on, once entry n has gone out or come in, no token given before for n, for the segment that went out or came in, or derived
-- under that, opens an access, whatever requests but a granted reset follow, unless it returns by paper 5's rule. The token κ was given by the event v; zs is what
-- follows.
unfoldable pub Closes : Type 0
Closes =
    (σ : Machine) (k0 k1 ν : ℕ) (b : List ℕ) → Accepted σ (reset_call k0 k1 ν b)
    → (after : List Call) → Unreset (step σ (reset_call k0 k1 ν b)) after → let h : List Call = reset_call k0 k1 ν b ∷ after in
    let σ₁ : Machine = run σ h in
    (r : Call) (n m : ℕ) → Pages r n m → Accepted σ₁ r → (zs : List Call) → Unreset (step σ₁ r) zs
    → (κ : Name) (v : Event) (since : List Event) → Gave κ v since (ledger of_machine [] σ h)
    → Of v.table n (at σ₁.table m) κ
    → (Returned κ v (ledger of_machine since σ₁ (r ∷ zs)) → ⊥)
    → Closed of_machine (run (step σ₁ r) zs) κ
