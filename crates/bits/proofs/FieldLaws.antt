-- The laws of bit fields, for any list of widths.
-- Assumes nothing.
use mathlib.Core.Path.{◌≡◌, refl, sym, ◌∙◌, ap, ap₂}
use mathlib.Core.List.{List, [], ◌∷◌, ◌++◌}
use Prim.Native.Nat.{ℕ, suc, ◌+◌, ◌*◌, ◌/◌, ◌%◌, ◌^◌, ◌<◌}
use native.Mathlib.Nat.{mod-lt, mod-eq_of_lt, mul_assoc, add-mul, add_assoc, mul-add-div_right, mul-add-mod_self_right, div-div-eq-div-mul, add_comm}
use native.Mathlib.Omega.{arith}
use lib.Pow.{pow_pos, pow-add, high, mod-pow-add, split}
use lib.Arith.{digits_lt}
use lib.ListN.{length, take, drop, length-append, length-take, length-drop, take-append-drop}
use lib.Seq.{take_at, drop_at}
use Rattle.bits.specs.Fields.{bits, pack, unpack, Fit}

pub pack_lt : (ws vs : List ℕ) → Fit ws vs → pack ws vs < 2 ^ bits ws
pack_lt [] [] h = omega arith
pack_lt [] (v ∷ vs) h = absurd h
pack_lt (w ∷ ws) [] h = absurd h
pack_lt (w ∷ ws) (v ∷ vs) h = rw pow-add (digits_lt h.0 (pack_lt ws vs h.1))

-- what stands above the fields does not matter
pub unpack_add : (ws : List ℕ) (k n : ℕ) → unpack ws (k * 2 ^ bits ws + n) ≡ unpack ws n
unpack_add [] k n = refl
unpack_add (w ∷ ws) k n =
    rw (pow-add 2 w (bits ws), ← mul_assoc k (2 ^ w) (2 ^ bits ws))
    (ap₂ ◌∷◌ (rw (mul-add-div_right (pow_pos (bits ws)), mul-add-mod_self_right)) (unpack_add ws (k * 2 ^ w) n))

pub unpack-pack : (ws vs : List ℕ) → Fit ws vs → unpack ws (pack ws vs) ≡ vs
unpack-pack [] [] h = refl
unpack-pack [] (v ∷ vs) h = absurd h
unpack-pack (w ∷ ws) [] h = absurd h
unpack-pack (w ∷ ws) (v ∷ vs) h =
    ap₂ ◌∷◌ (ap (λ n. n % 2 ^ w) (high v (bits ws) (pack_lt ws vs h.1)) ∙ mod-eq_of_lt h.0)
    (unpack_add ws v (pack ws vs) ∙ unpack-pack ws vs h.1)

pub unpack-fit : (ws : List ℕ) (n : ℕ) → Fit ws (unpack ws n)
unpack-fit [] n = tt
unpack-fit (w ∷ ws) n = (mod-lt (n / 2 ^ bits ws) (pow_pos w), unpack-fit ws n)

pub pack-unpack : (ws : List ℕ) (n : ℕ) → pack ws (unpack ws n) ≡ n % 2 ^ bits ws
pack-unpack [] n = omega arith
pack-unpack (w ∷ ws) n = rw (pack-unpack ws n, mod-pow-add n w (bits ws))

-- a list of fields in two parts: the first part stands above the second
pub bits_append : (ws us : List ℕ) → bits (ws ++ us) ≡ bits ws + bits us
bits_append [] us = omega arith
bits_append (w ∷ ws) us = omega (arith, bits_append ws us)

pub unpack_append : (ws us : List ℕ) (n : ℕ) → unpack (ws ++ us) n ≡ unpack ws (n / 2 ^ bits us) ++ unpack us n
unpack_append [] us n = refl
unpack_append (w ∷ ws) us n = ap₂ ◌∷◌ (rw (bits_append ws us, div-div-eq-div-mul, ← pow-add 2 (bits us) (bits ws), add_comm (bits us) (bits ws))) (unpack_append ws us n)

pub pack_append : (ws us vs xs : List ℕ) → length ws ≡ length vs → pack (ws ++ us) (vs ++ xs) ≡ pack ws vs * 2 ^ bits us + pack us xs
pack_append [] us [] xs h = omega arith
pack_append [] us (v ∷ vs) xs h = absurd (omega arith)
pack_append (w ∷ ws) us [] xs h = absurd (omega arith)
pack_append (w ∷ ws) us (v ∷ vs) xs h =
    rw (pack_append ws us vs xs (omega arith), bits_append ws us, pow-add 2 (bits ws) (bits us), add-mul, add_assoc, mul_assoc)

-- only the bits of the fields matter
pub unpack_mod : (ws : List ℕ) (n : ℕ) → unpack ws (n % 2 ^ bits ws) ≡ unpack ws n
unpack_mod ws n = sym (unpack_add ws (n / 2 ^ bits ws) (n % 2 ^ bits ws)) ∙ ap (unpack ws) (split n (bits ws))

-- Fields that are made of smaller fields: the small widths in a row, the width of each group, the values of the groups from
-- those of the small fields, and back.
abbrev pub flat : List (List ℕ) → List ℕ
flat [] = []
flat (ws ∷ wss) = ws ++ flat wss

abbrev pub totals : List (List ℕ) → List ℕ
totals [] = []
totals (ws ∷ wss) = bits ws ∷ totals wss

abbrev pub groups : List (List ℕ) → List ℕ → List ℕ
groups [] vs = []
groups (ws ∷ wss) vs = pack ws (take (length ws) vs) ∷ groups wss (drop (length ws) vs)

abbrev pub cut : List (List ℕ) → List ℕ → List ℕ
cut [] vs = []
cut (ws ∷ wss) [] = []
cut (ws ∷ wss) (v ∷ vs) = unpack ws v ++ cut wss vs

bits-flat : (wss : List (List ℕ)) → bits (flat wss) ≡ bits (totals wss)
bits-flat [] = refl
bits-flat (ws ∷ wss) = omega (arith, bits_append ws (flat wss), bits-flat wss)

pub length-unpack : (ws : List ℕ) (n : ℕ) → length (unpack ws n) ≡ length ws
length-unpack [] n = refl
length-unpack (w ∷ ws) n = ap suc (length-unpack ws n)

-- the small fields of a number are its large fields, cut
pub unpack-cut : (wss : List (List ℕ)) (n : ℕ) → unpack (flat wss) n ≡ cut wss (unpack (totals wss) n)
unpack-cut [] n = refl
unpack-cut (ws ∷ wss) n =
    let top : unpack ws (n / 2 ^ bits (flat wss)) ≡ unpack ws (n / 2 ^ bits (totals wss) % 2 ^ bits ws) =
    rw bits-flat (sym (unpack_mod ws (n / 2 ^ bits (totals wss)))) in
    unpack_append ws (flat wss) n ∙ ap₂ ◌++◌ top (unpack-cut wss n)

-- the large fields of a number are its small fields, in groups
pub unpack-groups : (wss : List (List ℕ)) (n : ℕ) → unpack (totals wss) n ≡ groups wss (unpack (flat wss) n)
unpack-groups [] n = refl
unpack-groups (ws ∷ wss) n =
    let top = unpack ws (n / 2 ^ bits (flat wss)) in
    rw (
      unpack_append ws (flat wss) n,
      take_at top (unpack (flat wss) n) (length ws) (length-unpack ws _),
      drop_at top (unpack (flat wss) n) (length ws) (length-unpack ws _),
      pack-unpack ws,
      bits-flat wss,
      unpack-groups wss n,
    )

-- small fields pack to the same number as their groups do
pub pack-groups : (wss : List (List ℕ)) (vs : List ℕ) → length (flat wss) ≡ length vs → pack (totals wss) (groups wss vs) ≡ pack (flat wss) vs
pack-groups [] vs h = refl
pack-groups (ws ∷ wss) vs h =
    let sum : length ws + length (flat wss) ≡ length vs = sym (length-append ws (flat wss)) ∙ h in
    rw (pack-groups wss (drop (length ws) vs) (simp length-drop (omega arith)), ← bits-flat wss)
    (sym (pack_append ws (flat wss) (take (length ws) vs) (drop (length ws) vs) (simp length-take (omega arith)))
    ∙ ap (pack (ws ++ flat wss)) (take-append-drop (length ws) vs))

-- the same small fields in two groupings
pub regroup_pack : (wss uss : List (List ℕ)) (vs : List ℕ) → flat wss ≡ flat uss → length (flat wss) ≡ length vs
    → pack (totals wss) (groups wss vs) ≡ pack (totals uss) (groups uss vs)
regroup_pack wss uss vs e h =
    pack-groups wss vs h ∙ ap (λ l. pack l vs) e ∙ sym (pack-groups uss vs (ap length (sym e) ∙ h))

pub regroup_unpack : (wss uss : List (List ℕ)) (vs : List ℕ) → flat wss ≡ flat uss → Fit (totals wss) vs
    → unpack (totals uss) (pack (totals wss) vs) ≡ groups uss (cut wss vs)
regroup_unpack wss uss vs e h =
    let n = pack (totals wss) vs in
    unpack-groups uss n
    ∙ ap (groups uss) (ap (λ l. unpack l n) (sym e) ∙ unpack-cut wss n ∙ ap (cut wss) (unpack-pack (totals wss) vs h))
