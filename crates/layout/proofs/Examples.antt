-- 01's packed examples agree with the definitions.
-- Assumes nothing.
use mathlib.Core.Path.{refl}
use Rattle.bits.specs.Bytes.{bytes}
use Rattle.layout.specs.Entry.{direct_number, entry_number}
use Rattle.layout.specs.Examples.{Agree, packed_examples}

pub packed_agree : Agree packed_examples
unfolding bytes entry_number direct_number
packed_agree = refl
