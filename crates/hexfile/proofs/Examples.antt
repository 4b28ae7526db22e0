-- The examples agree with the definitions.
-- Assumes nothing.
use mathlib.Core.Path.{refl}
use mathlib.Core.List.{[], ◌∷◌}
use native.Mathlib.Omega.{arith}
use Rattle.bits.specs.Bytes.{AllBytes}
use Rattle.hexfile.specs.Accounted.{data_record, end_record}
use Rattle.hexfile.specs.Examples.{Agree, Later, Seventeen, Spelt, small, texts}
use Rattle.hexfile.specs.Record.{byte, digit, malformed, verdict, wrong_sum}
use Rattle.hexfile.specs.Text.{lines, read, said}
use Rattle.hexfile.specs.Written.{capital, data_records, line_of, written}

pub texts_agree : Agree texts
unfolding said lines read verdict malformed wrong_sum byte digit capital line_of
texts_agree = refl

pub later : Later
unfolding said lines read verdict malformed wrong_sum byte digit capital line_of
later = (refl, refl)

pub seventeen-written : Seventeen
unfolding written data_records capital line_of
seventeen-written = refl

pub spelt : Spelt
unfolding byte digit
spelt =
    data_record (48 ∷ 51 ∷ 48 ∷ 48 ∷ 51 ∷ 48 ∷ 48 ∷ 48 ∷ 48 ∷ 50 ∷ 51 ∷ 51 ∷ 55 ∷ 65 ∷ 49 ∷ 69 ∷ []) (3 ∷ 0 ∷ 48 ∷ 0 ∷ 2 ∷ 51 ∷ 122 ∷ 30 ∷ []) small []
    refl (record { made = refl; bytes = all; size = refl; sums = refl }) refl (omega arith) refl
    (end_record (48 ∷ 48 ∷ 48 ∷ 48 ∷ 48 ∷ 48 ∷ 48 ∷ 49 ∷ 70 ∷ 102 ∷ []) (0 ∷ 0 ∷ 0 ∷ 1 ∷ 255 ∷ [])
    refl (record { made = refl; bytes = ends; size = refl; sums = refl }) refl refl refl refl)
  where
    all : AllBytes (3 ∷ 0 ∷ 48 ∷ 0 ∷ 2 ∷ 51 ∷ 122 ∷ 30 ∷ [])
    all = (omega arith, (omega arith, (omega arith, (omega arith, (omega arith, (omega arith, (omega arith, (omega arith, tt))))))))

    ends : AllBytes (0 ∷ 0 ∷ 0 ∷ 1 ∷ 255 ∷ [])
    ends = (omega arith, (omega arith, (omega arith, (omega arith, (omega arith, tt)))))
