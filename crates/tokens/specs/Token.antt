-- Tokens (01, "Tokens: Table 1"). From the top bit: encoding (2 bits), tag (16), number, offset.
-- Assumes nothing.
use Rattle.std.specs.Prelude.{Bool, cond, ◌&&◌, Option, Some, None, List, [], ◌∷◌, ℕ, ◌+◌, ◌^◌, ◌/◌, ◌%◌, ltb, get_or}
use Rattle.bits.specs.Fields.{pack, Fit}
use Rattle.tokens.specs.declared.token.Named.{Named}

-- "The number and offset widths belong to the encoding itself: 0 has 14 and 32, 1 has 46 and 0, 2 has 30 and 16, 3 has 22 and 24."
abbrev pub number_width : ℕ → ℕ
number_width e = get_or (14 ∷ 46 ∷ 30 ∷ 22 ∷ []) e 0

abbrev pub offset_width : ℕ → ℕ
offset_width e = get_or (32 ∷ 0 ∷ 16 ∷ 24 ∷ []) e 0

-- the widths of a token's fields where the number has w bits and the offset o, and the fields
abbrev pub token_widths : ℕ → ℕ → List ℕ
token_widths w o = 2 ∷ 16 ∷ w ∷ o ∷ []

abbrev pub token_fields : ℕ → Named → List ℕ
token_fields e n = e ∷ n.tag ∷ n.number ∷ n.offset ∷ []

-- the token of encoding e that names n, and what a word names, at any widths
abbrev pub token_in : ℕ → ℕ → ℕ → Named → ℕ
token_in w o e n = pack (token_widths w o) (token_fields e n)

abbrev pub named_in : ℕ → ℕ → ℕ → Named
named_in w o t = record { tag = t / 2 ^ (w + o) % 2 ^ 16; number = t / 2 ^ o % 2 ^ w; offset = t % 2 ^ o }

-- each part of n fits its field in encoding e
abbrev pub NamedFits : ℕ → Named → Type 0
NamedFits e n = Fit (token_widths (number_width e) (offset_width e)) (token_fields e n)

-- the token that names n in encoding e, and what a word names if it is in encoding e
abbrev pub token : ℕ → Named → ℕ
token e n = token_in (number_width e) (offset_width e) e n

abbrev pub named_as : ℕ → ℕ → Named
named_as e t = named_in (number_width e) (offset_width e) t

-- the encoding of a word: its top field, which every encoding has at the same place
abbrev pub encoding_of : ℕ → ℕ
encoding_of t = t / 2 ^ 62

-- what any 64-bit word names
abbrev pub named : ℕ → Named
named t = named_as (encoding_of t) t

-- the same as `NamedFits`, as a test, and what packing in a wanted encoding gives
abbrev pub fits_as : ℕ → Named → Bool
fits_as e n = ltb e 4 && ltb n.tag (2 ^ 16) && ltb n.number (2 ^ number_width e) && ltb n.offset (2 ^ offset_width e)

unfoldable pub packing : ℕ → Named → Option ℕ
packing e n = cond (fits_as e n) (Some (token e n)) None
