-- The last token must not return, with the real tags: the premises of paper 5's claims can be met, where the rule before it gave a token again.
-- Assumes nothing.
use mathlib.Core.Path.{◌≡◌, refl}
use mathlib.Core.List.{[], ◌∷◌}
use Prim.Native.Nat.{◌+◌}
use lib.ListN.{replicate}
use Rattle.bits.specs.Bytes.{bytes, low_bytes, low_number, number}
use Rattle.bits.specs.SipHash.{absorb, add64, compress, finish, padded, rotl, siphash, sip_round, word}
use Rattle.layout.specs.Entry.{direct_number, direct_of, entry_number, entry_of, free, freed, free_number, indirect, indirect_number, indirect_of, recounted}
use Rattle.layout.specs.Form.{ill_formed}
use Rattle.layout.specs.Tag.{tag_of}
use Rattle.tokens.specs.Permissions.{within}
use Rattle.machine.specs.Issuing.{issue, pass_over, seek}
use Rattle.machine.specs.LastToken.{AllOther, held_after, issued_in, Keeps, Kept, NeverAgain, unheld}
use Rattle.machine.specs.Line.{walk}
use Rattle.machine.specs.MachineSystem.{Accepted, IsReset, Unreset}
use Rattle.machine.specs.Operations.{child_of, climb, nothing}
use Rattle.machine.specs.Parts.{at, cleared, put, root, size}
use Rattle.machine.specs.Steps.{answer, decide, decision, Machine, run, step}
use Rattle.machine.specs.Writes.{token_for}
use Rattle.machine.proofs.LastToken.{never_again, tags_kept}
use Rattle.uses.specs.Kept.{derives_again, drops_given, first_nonce, given, other}
use Rattle.uses.specs.Uses.{before, derives, reset1, root_name}
use Rattle.uses.proofs.Granted.{decides, Grants, grants, holding}

-- the machines that the list passes through: after the reset, the derive, the drop, and the derive again
abbrev fresh : Machine
fresh = holding 0 first_nonce 1 (root 8 ∷ free ∷ []) (replicate 8 9)

abbrev derived : Machine
derived = holding 1 (first_nonce + 1) 0 (recounted (root 8) 1 ∷ indirect 2 3 (token_for 1 root_name) 4 given.tag first_nonce ∷ []) (replicate 8 9)

abbrev dropped : Machine
dropped = holding 1 (first_nonce + 1) 1 (root 8 ∷ freed given.tag ∷ []) (replicate 8 9)

abbrev derived_again : Machine
derived_again = holding 1 (first_nonce + 3) 0 (recounted (root 8) 1 ∷ indirect 2 3 (token_for 1 root_name) 4 other.tag (first_nonce + 2) ∷ []) (replicate 8 9)

record Computed : Type 0 where
  begins : Accepted before (reset1 first_nonce)
  begun : step before (reset1 first_nonce) ≡ fresh
  would_be : (issue fresh.state 1 (child_of 0 (root 8) 2 3 4 (first_nonce + 1))).tag ≡ given.tag
  derives1 : decision fresh derives ≡ decides (given ∷ []) derived nothing
  drops : step derived drops_given ≡ dropped
  none_by_drop : (decision derived drops_given).issued ≡ []
  again : decision dropped derives ≡ decides (other ∷ []) derived_again nothing

computed : Computed
unfolding before bytes number low_bytes low_number direct_number direct_of entry_number entry_of free_number indirect_number indirect_of ill_formed within absorb add64 compress finish padded rotl siphash sip_round word tag_of pass_over seek walk climb at cleared put size decide step answer
computed = record { begins = refl; begun = refl; would_be = refl; derives1 = refl; drops = refl; none_by_drop = refl; again = refl }

first : Grants fresh derives (given ∷ []) derived
first = grants nothing computed.derives1 refl

second : Grants dropped derives (other ∷ []) derived_again
second = grants nothing computed.again refl

-- after the derive and the drop the next nonce would give the child its last tag again, and so the token that it had; the machine gives another, with the nonce
-- after it
pub given_again :
    let ρ : Machine = step before (reset1 first_nonce) in
    ((issue ρ.state 1 (child_of 0 (root 8) 2 3 4 (first_nonce + 1))).tag ≡ given.tag)
    × (issued_in ρ derives_again ≡ given ∷ other ∷ [])
    × ((run ρ derives_again).state.next ≡ first_nonce + 3)
given_again = rw computed.begun (computed.would_be, rw (first.issued, first.leaves, computed.none_by_drop, computed.drops, second.issued), rw (first.leaves, computed.drops, second.leaves))

no_derive : IsReset derives.request → ⊥
no_derive = elim [ ]

no_drop : IsReset drops_given.request → ⊥
no_drop = elim [ ]

none_reset : Unreset (step before (reset1 first_nonce)) derives_again
none_reset = (λ g. no_derive g.0, (λ g. no_drop g.0, (λ g. no_derive g.0, tt)))

-- no issue gave a number the tag that it last held, by the claim
pub other-given : AllOther unheld (issued_in (step before (reset1 first_nonce)) derives_again)
unfolding NeverAgain
other-given = never_again before 0 0 first_nonce [] computed.begins derives_again none_reset

last_given : held_after unheld (issued_in (step before (reset1 first_nonce)) (derives ∷ drops_given ∷ [])) 1 ≡ given.tag
last_given = rw (computed.begun, first.issued, first.leaves, computed.none_by_drop)

-- and the dropped entry kept its tag, all else zero
pub dropped_keeps : Keeps (run (step before (reset1 first_nonce)) (derives ∷ drops_given ∷ [])).table 1 given.tag
unfolding Kept
dropped_keeps = rw last_given at (tags_kept before 0 0 first_nonce [] computed.begins (derives ∷ drops_given ∷ []) (none_reset.0, (none_reset.1.0, tt)) 1)
