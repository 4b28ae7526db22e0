-- The machine serves the recorded sessions from reset on, and requests over long tables and buffers, as the second implementation did: by computation.
-- Assumes nothing.
use mathlib.Core.Path.{refl}
use mathlib.Core.List.{[]}
use Rattle.bits.specs.Bytes.{bytes, low_bytes, low_number, number}
use Rattle.bits.specs.SipHash.{absorb, add64, compress, finish, padded, rotl, siphash, sip_round, word}
use Rattle.hexfile.specs.Record.{byte, digit, malformed, verdict, wrong_sum}
use Rattle.hexfile.specs.Text.{lines, read, said}
use Rattle.hexfile.specs.Written.{capital, data_records, line_of, written}
use Rattle.layout.specs.Entry.{direct_number, direct_of, entry_number, entry_of, free_number, indirect_number, indirect_of, paged_number, paged_of}
use Rattle.layout.specs.Form.{ill_formed}
use Rattle.layout.specs.Tag.{tag_of}
use Rattle.leases.specs.Lease.{all_sound, covers, first_leases, is_open, lease_at, leases_of}
use Rattle.tokens.specs.Permissions.{within}
use Rattle.machine.specs.Images.{pieces_of, spares}
use Rattle.machine.specs.Issuing.{pass_over, seek}
use Rattle.machine.specs.Line.{walk}
use Rattle.machine.specs.Operations.{climb}
use Rattle.machine.specs.Parts.{at, cleared, put, size}
use Rattle.recorded.specs.Recorded.{Recorded}
use Rattle.recorded.specs.Recordings.{limits_above, sessions_above, sessions_kept}
use Rattle.machine.specs.Steps.{answer, decide, step}

pub sessions_above_agree : Recorded sessions_above limits_above
unfolding bytes number low_bytes low_number direct_number direct_of entry_number entry_of free_number indirect_number indirect_of paged_number paged_of ill_formed all_sound covers first_leases is_open lease_at leases_of within absorb add64 compress finish padded rotl siphash sip_round word tag_of pass_over seek walk climb at cleared put size decide step answer byte digit malformed verdict wrong_sum lines read said capital data_records line_of written pieces_of spares
sessions_above_agree = (refl, refl)

pub sessions_kept_agree : Recorded sessions_kept []
unfolding bytes number low_bytes low_number direct_number direct_of entry_number entry_of free_number indirect_number indirect_of paged_number paged_of ill_formed within absorb add64 compress finish padded rotl siphash sip_round word tag_of pass_over seek walk climb at cleared put size decide
sessions_kept_agree = (refl, refl)
