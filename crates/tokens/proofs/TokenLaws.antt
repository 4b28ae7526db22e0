-- The round trips of tokens, at any widths, and so in each encoding: cited from the laws of fields.
-- Assumes nothing.
use mathlib.Core.Path.{◌≡◌, refl, sym, ◌∙◌, ap, ap₂}
use mathlib.Core.Bool.{true}
use mathlib.Core.List.{List, [], ◌∷◌, ◌++◌}
use Prim.Native.Nat.{ℕ, zero, suc, ◌+◌, ◌*◌, ◌/◌, ◌%◌, ◌^◌, ◌≤◌, ◌<◌}
use native.Mathlib.Nat.{add-zero, div-one, lt_of_lt_of_le, mod-eq_of_lt, mod-lt, one-mul}
use native.Mathlib.Omega.{arith}
use lib.ListN.{get_or, length}
use lib.Pow.{pow_mono, pow_pos, shl_exact}
use borrow.Author.Tests.{ltb-true}
use Rattle.bits.specs.Fields.{bits, pack, unpack, Fit}
use Rattle.tokens.specs.Token.{number_width, offset_width, token_widths, token_fields, token_in, named_in, NamedFits, token, named, named_as, encoding_of, fits_as}
use Rattle.tokens.specs.declared.token.Named.{Named}
use Rattle.bits.proofs.FieldLaws.{pack_append, pack_lt, pack-unpack, unpack-pack}
use Rattle.bits.proofs.TestLaws.{both}

-- the fields of a word are its top bits and what `named_in` reads
unpack-named : (w o t : ℕ) → unpack (token_widths w o) t ≡ token_fields (t / 2 ^ (16 + (w + o)) % 4) (named_in w o t)
unpack-named w o t = simp (add-zero, div-one)

name_of : List ℕ → Named
name_of l = record { tag = get_or l 1 0; number = get_or l 2 0; offset = get_or l 3 0 }

-- what was packed is read again, at any widths
pub named-token : (w o e : ℕ) (n : Named) → Fit (token_widths w o) (token_fields e n) → named_in w o (token_in w o e n) ≡ n
unfolding name_of
named-token w o e n h = ap name_of (sym (unpack-named w o (token_in w o e n)) ∙ unpack-pack (token_widths w o) (token_fields e n) h)

-- what is read packs to the same word, at any widths
pub token-named : (w o t : ℕ) → t < 2 ^ (2 + (16 + (w + o))) → token_in w o (t / 2 ^ (16 + (w + o)) % 4) (named_in w o t) ≡ t
token-named w o t h =
    let all : t % 2 ^ bits (token_widths w o) ≡ t = rw add-zero (mod-eq_of_lt h) in
    ap (pack (token_widths w o)) (sym (unpack-named w o t)) ∙ pack-unpack (token_widths w o) t ∙ all

-- each encoding: the number and the offset share 46 bits
widths_sum : (e : ℕ) → e < 4 → number_width e + offset_width e ≡ 46
widths_sum zero h = refl
widths_sum (suc zero) h = refl
widths_sum (suc (suc zero)) h = refl
widths_sum (suc (suc (suc zero))) h = refl
widths_sum (suc (suc (suc (suc e)))) h = absurd (omega arith)

pub named_of : (e : ℕ) (n : Named) → NamedFits e n → named_as e (token e n) ≡ n
named_of e n h = named-token (number_width e) (offset_width e) e n h

pub encoding_of_lem : (e : ℕ) (n : Named) → e < 4 → NamedFits e n → encoding_of (token e n) ≡ e
encoding_of_lem zero n l h = omega arith
encoding_of_lem (suc zero) n l h = omega arith
encoding_of_lem (suc (suc zero)) n l h = omega arith
encoding_of_lem (suc (suc (suc zero))) n l h = omega arith
encoding_of_lem (suc (suc (suc (suc e)))) n l h = absurd (omega arith)

-- a token that was packed names what it was packed from
pub read-packed : (e : ℕ) (n : Named) → e < 4 → NamedFits e n → named (token e n) ≡ n
read-packed e n l h = rw (encoding_of_lem e n l h) (named_of e n h)

-- every 64-bit word, read and packed again in its encoding, is the same word
pub packed-read : (t : ℕ) → t < 2 ^ 64 → token (encoding_of t) (named t) ≡ t
packed-read t h =
    let e : ℕ = encoding_of t in
    let l : e < 4 = omega arith in
    let top : t / 2 ^ (16 + (number_width e + offset_width e)) % 4 ≡ e = rw widths_sum (mod-eq_of_lt l) in
    ap (λ x. token_in (number_width e) (offset_width e) x (named t)) (sym top) ∙ token-named (number_width e) (offset_width e) t (rw widths_sum h)

-- a token that was packed is a word
pub token_lt : (e : ℕ) (n : Named) → e < 4 → NamedFits e n → token e n < 2 ^ 64
token_lt e n l h =
    let z : 2 + (16 + (number_width e + (offset_width e + 0))) ≡ 64 = omega (arith, widths_sum e l) in
    rw z at (pack_lt (token_widths (number_width e) (offset_width e)) (token_fields e n) h)

-- what is read of any word fits its fields
pub named_fits : (e t : ℕ) → e < 4 → NamedFits e (named_as e t)
named_fits e t h = (h, (mod-lt _ (pow_pos 16), (mod-lt _ (pow_pos (number_width e)), (mod-lt _ (pow_pos (offset_width e)), tt))))

-- the test is the condition
pub fits_holds : (e : ℕ) (n : Named) → fits_as e n ≡ true → (e < 4) × NamedFits e n
fits_holds e n h =
    let offset = both _ _ h in
    let number = both _ _ offset.0 in
    let tag = both _ _ number.0 in
    let l : e < 4 = ltb-true _ _ tag.0 in
    (l, (l, (ltb-true _ _ tag.1, (ltb-true _ _ number.1, (ltb-true _ _ offset.1, tt)))))

-- the fourth of four encodings
pub fourth : (e : ℕ) → e < 4 → (e ≡ 0 → ⊥) → (e ≡ 1 → ⊥) → (e ≡ 2 → ⊥) → e ≡ 3
fourth e h a b c = omega arith

-- a number below 1,024 and a tag fit every encoding
pub small_fits : (e n g : ℕ) → e ≤ 3 → n < 1024 → g < 65536 → NamedFits e (record { tag = g; number = n; offset = 0 })
small_fits zero n g a b c = omega arith
small_fits (suc zero) n g a b c = omega arith
small_fits (suc (suc zero)) n g a b c = omega arith
small_fits (suc (suc (suc zero))) n g a b c = omega arith
small_fits (suc (suc (suc (suc e)))) n g a b c = absurd (omega arith)

-- ---- shifts by a width, in a word of 64 bits

pub shifted_one : (w : ℕ) → w ≤ 46 → 1 * 2 ^ w % 2 ^ 64 ≡ 2 ^ w
shifted_one w h = shl_exact {a = 1} 1 w 64 (omega arith) (omega arith) ∙ one-mul (2 ^ w)

-- a field more below what is packed, which loses no bit
below : (ws vs : List ℕ) (w v x j : ℕ) → length ws ≡ length vs → x ≡ pack ws vs → x < 2 ^ j → j + w ≤ 64 → x * 2 ^ w % 2 ^ 64 + v ≡ pack (ws ++ (w ∷ [])) (vs ++ (v ∷ []))
below ws vs w v x j l is h fits =
    let z : w + 0 ≡ w = omega arith in
    let y : v * 2 ^ 0 + 0 ≡ v = omega arith in
    ap (λ (a : ℕ). a + v) (shl_exact j w 64 h fits ∙ ap₂ (λ (a b : ℕ). a * 2 ^ b) is (sym z)) ∙ ap (λ (a : ℕ). pack ws vs * 2 ^ (w + 0) + a) (sym y) ∙ sym (pack_append ws (w ∷ []) vs (v ∷ []) l)

-- a token is made from the top, a field at a time
module _ (w o e : ℕ) (n : Named) (sum : w + o ≡ 46) (fit : Fit (token_widths w o) (token_fields e n)) where
  abbrev top : ℕ
  top = e * 65536 % 2 ^ 64 + n.tag

  abbrev upper : ℕ
  upper = top * 2 ^ w % 2 ^ 64 + n.number

  abbrev whole : ℕ
  whole = upper * 2 ^ o % 2 ^ 64 + n.offset

  top_is : top ≡ pack (2 ∷ 16 ∷ []) (e ∷ n.tag ∷ [])
  top_is = let z : e * 65536 % 2 ^ 64 ≡ e * 65536 = mod-eq_of_lt (omega (arith, fit.0)) in rw z (omega arith)

  upper_is : upper ≡ pack (2 ∷ 16 ∷ w ∷ []) (e ∷ n.tag ∷ n.number ∷ [])
  upper_is = below (2 ∷ 16 ∷ []) (e ∷ n.tag ∷ []) w n.number top 18 refl top_is (rw top_is (pack_lt (2 ∷ 16 ∷ []) (e ∷ n.tag ∷ []) (fit.0, (fit.1.0, tt)))) (omega arith)

  upper_lt : upper < 2 ^ (18 + w)
  upper_lt =
      let z : 2 + (16 + (w + 0)) ≡ 18 + w = omega arith in
      rw (upper_is, ← z) (pack_lt (2 ∷ 16 ∷ w ∷ []) (e ∷ n.tag ∷ n.number ∷ []) (fit.0, (fit.1.0, (fit.1.1.0, tt))))

  pub upper_fits : upper < 2 ^ 64
  upper_fits = lt_of_lt_of_le upper_lt (pow_mono {j = 64} (omega arith))

  pub token-made : whole ≡ token_in w o e n
  token-made = below (2 ∷ 16 ∷ w ∷ []) (e ∷ n.tag ∷ n.number ∷ []) o n.offset upper (18 + w) refl upper_is upper_lt (omega arith)

  pub whole_fits : whole < 2 ^ 64
  whole_fits =
      let z : 2 + (16 + (w + (o + 0))) ≡ 64 = omega arith in
      rw token-made (rw z at (pack_lt (token_widths w o) (token_fields e n) fit))
