-- Paging used, with the real tags: the premises of paper 6's claims can be met.
-- Assumes nothing.
use mathlib.Core.Path.{◌≡◌, refl, ap}
use mathlib.Core.Logic.{◌⊎◌, inl, inr}
use mathlib.Core.Bool.{true}
use mathlib.Core.List.Memᴰ
use mathlib.Core.List.{List, [], ◌∷◌, Memᴰ}
use Prim.Native.Nat.{ℕ}
use native.Mathlib.Omega.{arith}
use Rattle.bits.specs.Bytes.{bytes, low_bytes, low_number, number}
use Rattle.bits.specs.SipHash.{absorb, add64, compress, finish, padded, rotl, siphash, sip_round, word}
use Rattle.layout.specs.Entry.{direct, direct_number, direct_of, entry_number, entry_of, free, freed, free_number, indirect_number, indirect_of, paged, paged_number, paged_of}
use Rattle.layout.specs.Form.{ill_formed}
use Rattle.layout.specs.declared.entry.Entry.{Entry}
use Rattle.layout.specs.Tag.{tag_of}
use Rattle.tokens.specs.Permissions.{within}
use Rattle.machine.specs.Demand3.{Closed}
use Rattle.machine.specs.FromReset.{FromReset}
use Rattle.machine.specs.Issuing.{pass_over, seek}
use Rattle.machine.specs.Ledger.{Event, last}
use Rattle.machine.specs.Line.{walk}
use Rattle.machine.specs.MachineSystem.{Accepted, IsReset, of_machine}
use Rattle.machine.specs.Operations.{Effect, fill_from, nothing, store}
use Rattle.machine.specs.Paging as pages
use Rattle.machine.specs.Paging.{bytes_of, Closes, Idle, Restored, SameMarks, Takes, under}
use Rattle.machine.specs.Parts.{at, cleared, put, root, size}
use Rattle.machine.specs.Segments.{itself}
use Rattle.machine.specs.Steps.{answer, decide, decision, Machine, run, step}
use Rattle.machine.specs.System.{event, ledger}
use Rattle.machine.specs.Writes.{Name, token_for}
use Rattle.machine.proofs.FromReset.{from_reset_lem}
use Rattle.machine.proofs.LedgerLaws.{issued_again}
use Rattle.machine.proofs.Paging.{closes, restored, takes}
use Rattle.uses.specs.Pages.{away, back, blank, comes_in, creates, four, goes_out, part, rest}
use Rattle.uses.specs.Uses.{reset1}
use Rattle.uses.proofs.Granted.{decides, Grants, grants, holding}

-- before the out, after it, and after the in
abbrev σ : Machine
σ = run four (reset1 1 ∷ creates ∷ [])

abbrev ρ : Machine
ρ = step σ goes_out

abbrev τ : Machine
τ = step ρ comes_in

-- the machines that the list passes through: the last of the four entries is free
abbrev three : (last next total : ℕ) → (a b c : Entry) → (memory : List ℕ) → Machine
three l ν k a b c m = holding l ν k (a ∷ b ∷ c ∷ free ∷ []) m

abbrev fresh : Machine
fresh = three 0 1 3 (root 4) free free (1 ∷ 2 ∷ 3 ∷ 4 ∷ [])

abbrev split : Machine
split = three 1 3 2 (direct 2 2 0 7 true rest.tag 2) (direct 0 2 5 6 true part.tag 1) free (1 ∷ 2 ∷ 3 ∷ 4 ∷ [])

abbrev out : Machine
out = three 2 5 1 (direct 2 2 0 7 true rest.tag 2) (paged 77 2 5 6 true away.tag 3) (direct 0 2 0 7 true blank.tag 4) (0 ∷ 0 ∷ 3 ∷ 4 ∷ [])

abbrev home : Machine
home = three 2 6 1 (freed rest.tag) (direct 2 2 5 6 true back.tag 5) (direct 0 2 0 7 true blank.tag 4) (0 ∷ 0 ∷ 1 ∷ 2 ∷ [])

-- the bytes go out, and zeros come in their place
abbrev taking : Effect
taking = record { stores = record { start = 0; bytes = 0 ∷ 0 ∷ [] } ∷ []; fill = fill_from 0 2 }

-- what is computed: the requests are granted, the bytes that go out, and the entries
record Computed : Type 0 where
  begins : Accepted four (reset1 1)
  begun : step four (reset1 1) ≡ fresh
  splits : decision fresh creates ≡ decides (part ∷ rest ∷ []) split nothing
  goes : decision split goes_out ≡ decides (away ∷ blank ∷ []) out taking
  comes : decision out comes_in ≡ decides (back ∷ []) home (store 2 (1 ∷ 2 ∷ []))
  before : at split.table 1 ≡ direct 0 2 5 6 true part.tag 1
  after : at out.table 1 ≡ paged 77 2 5 6 true away.tag 3
  donor : at out.table 0 ≡ direct 2 2 0 7 true rest.tag 2

computed : Computed
unfolding four bytes number low_bytes low_number direct_number direct_of entry_number entry_of free_number indirect_number indirect_of paged_number paged_of ill_formed within absorb add64 compress finish padded rotl siphash sip_round word tag_of pass_over seek walk at cleared put size decide step answer
computed = record { begins = refl; begun = refl; splits = refl; goes = refl; comes = refl; before = refl; after = refl; donor = refl }

splits : Grants fresh creates (part ∷ rest ∷ []) split
splits = grants nothing computed.splits refl

goes : Grants split goes_out (away ∷ blank ∷ []) out
goes = grants taking computed.goes refl

comes : Grants out comes_in (back ∷ []) home
comes = grants (store 2 (1 ∷ 2 ∷ [])) computed.comes refl

-- so it is after the create, and after the out
created : σ ≡ split
created = rw (computed.begun, splits.leaves)

gone : ρ ≡ out
gone = rw (created, goes.leaves)

outward : Accepted σ goes_out
outward = rw created goes.accepted

inward : Accepted ρ comes_in
inward = rw gone comes.accepted

bytes-out : (answer σ goes_out).buffer ≡ 1 ∷ 2 ∷ []
unfolding answer
bytes-out = rw (created, computed.goes)

no_creates : IsReset creates.request → ⊥
no_creates = elim [ ]

no_out : IsReset goes_out.request → ⊥
no_out = elim [ ]

no_in : IsReset comes_in.request → ⊥
no_in = elim [ ]

-- in another place the segment is what it was
pub came_back : (bytes_of τ 1 ≡ bytes_of σ 1) × SameMarks (at τ.table 1) (at σ.table 1) × Idle (at τ.table 1)
unfolding Restored
came_back = rw bytes-out at (restored σ (token_for 0 part) 0 77 0 (0 ∷ 0 ∷ []) outward ρ refl (token_for 0 away) (token_for 0 rest) 0 0 refl (rw bytes-out inward))

-- the rest is taken as the donor
pub taken : Accepted ρ comes_in ⊎ ((answer ρ comes_in).reply.refusal ≡ 11)
unfolding FromReset Takes
taken =
    let e : at ρ.table 1 ≡ paged 77 2 5 6 true away.tag 3 = rw gone computed.after in
    let d : at ρ.table 0 ≡ direct 2 2 0 7 true rest.tag 2 = rw gone computed.donor in
    takes ρ (from_reset_lem four 0 0 1 [] computed.begins (creates ∷ goes_out ∷ []) (λ g. no_creates g.0, (λ g. no_out g.0, tt))) (token_for 0 away) (token_for 0 rest) 0 0 (1 ∷ 2 ∷ [])
    (record { name = rw e; offset = refl }) (record { name = rw d; offset = refl }) (omega arith) (omega arith)
    (rw e) (rw d (record { direct = refl; unlocked = refl; uncounted = refl })) (rw e) (rw d)

-- the token that the create gave is closed by the out, also when the segment has come in
pub part-closed : Closed of_machine τ part
unfolding Closes
part-closed =
    let e : at σ.table 1 ≡ direct 0 2 5 6 true part.tag 1 = rw created computed.before in
    let given : Event = event of_machine (step four (reset1 1)) creates in
    closes four 0 0 1 [] computed.begins (creates ∷ []) (λ g. no_creates g.0, tt) goes_out 1 1 pages.goes_out outward (comes_in ∷ []) (λ g. no_in g.0, tt) part given [] (last (rw (computed.begun, splits.issued) (Memᴰ.head refl)))
    (under (record { owner = 1; owns = itself (rw e); byte = 0; theirs = rw e (omega arith); ours = rw e (omega arith) }))
    (λ h. other (rw (created, goes.issued, goes.leaves, comes.issued) at (issued_again part given (ledger of_machine [] σ (goes_out ∷ comes_in ∷ [])) h)))
  where
    third : (part ≡ back) ⊎ Memᴰ part [] → ⊥
    third (inl e) = omega (arith, ap (λ (x : Name). x.tag) e)
    third (inr m) = Memᴰ.not-nil m

    second : (part ≡ blank) ⊎ Memᴰ part (back ∷ []) → ⊥
    second (inl e) = omega (arith, ap (λ (x : Name). x.tag) e)
    second (inr m) = third (Memᴰ.cases_cons m)

    first : (part ≡ away) ⊎ Memᴰ part (blank ∷ back ∷ []) → ⊥
    first (inl e) = omega (arith, ap (λ (x : Name). x.tag) e)
    first (inr m) = second (Memᴰ.cases_cons m)

    other : Memᴰ part (away ∷ blank ∷ back ∷ []) → ⊥
    other m = first (Memᴰ.cases_cons m)
