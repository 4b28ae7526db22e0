-- 01's examples agree with the definitions, as one table: four packed tokens, the root entry, and cases 3, 4, 6 and 8 of the session, case 6 as
-- 02, paper 1, has it.
-- Assumes nothing.
use mathlib.Core.Path.{◌≡◌, refl, ap, ap₂, subst}
use mathlib.Core.List.{[], ◌∷◌, map}
use lib.ListN.{length}
use Rattle.bits.specs.Bytes.{bytes, low_bytes, low_number, number}
use Rattle.layout.specs.Entry.{direct_number, direct_of, entry_number, entry_of, indirect_number, indirect_of}
use Rattle.layout.specs.Examples.{Agree}
use Rattle.layout.specs.Form.{ill_formed}
use Rattle.leases.specs.Lease.{all_sound, first_leases, is_open, leases_of}
use Rattle.tokens.specs.Permissions.{within}
use Rattle.bits.specs.SipHash.{absorb, add64, compress, finish, padded, rotl, siphash, sip_round, word}
use Rattle.layout.specs.Tag.{tag_of}
use Rattle.machine.specs.Issuing.{pass_over, seek}
use Rattle.machine.specs.Line.{walk}
use Rattle.machine.specs.Operations.{climb, Decision}
use Rattle.machine.specs.Parts.{at, cleared, put, size}
use Rattle.recorded.specs.Session.{decisions, examples, Followed, leaves}
use Rattle.machine.specs.Steps.{Answer, answer, answers, blind, decide, decision, run, step}
use Rattle.machine.proofs.LastOfAll.{last_of_all}
use Rattle.machine.proofs.Lent.{as_long_lem}

pub examples_agree : Agree examples
unfolding bytes number low_bytes low_number direct_number direct_of entry_number entry_of indirect_number indirect_of ill_formed all_sound first_leases is_open leases_of within absorb add64 compress finish padded rotl siphash sip_round word tag_of pass_over seek walk climb at cleared put size decide
examples_agree = refl

-- and what is decided on a list is what the machine's run of it comes to
pub followed : Followed
unfolding Followed step answer
followed σ [] n = (refl, refl)
followed σ (q ∷ qs) n =
    let same : decision σ q ≡ blind σ q = last_of_all.others σ q n.0 in
    let r =
    subst
    (λ (d : Decision). let ds = decisions (length σ.memory) d.state d.table qs in
    (map (λ (a : Answer). a.reply) (answers (step σ q) qs) ≡ map (λ (x : Decision). x.reply) ds) × ((run (step σ q) qs).table ≡ leaves d.table ds))
    same (rw (as_long_lem σ q).memory at (followed (step σ q) qs n.1)) in
    (ap₂ ◌∷◌ (ap (λ (d : Decision). d.reply) same) r.0, r.1)
