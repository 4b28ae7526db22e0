-- The examples that 01 prints ("Sessions to hold against"), as rows of one table: what the definitions give, beside what 01 prints.
-- Assumes nothing.
use Rattle.std.specs.Prelude.{◌≡◌, true, List, [], ◌∷◌, ◌++◌, map, ℕ, replicate, set}
use Rattle.layout.specs.Entry.{direct, entry_bytes}
use Rattle.tokens.specs.Token.{token}
use Rattle.tokens.specs.declared.token.Named.{Named}

pub record Row : Type 0 where
  pub given : List ℕ
  pub printed : List ℕ

-- every row gives what is printed
abbrev pub Agree : List Row → Type 0
Agree rows = map (λ (r : Row). r.given) rows ≡ map (λ (r : Row). r.printed) rows

-- "tag 1234, number 5, offset C", hex
abbrev pub five : ℕ → Named
five offset = record { tag = 0x1234; number = 5; offset = offset }

abbrev packed : ℕ → ℕ → ℕ → Row
packed encoding offset printed = record { given = token encoding (five offset) ∷ []; printed = printed ∷ [] }

abbrev pub packed_tokens : List Row
packed_tokens =
    packed 0 0xC 0x048D00050000000C
    ∷ packed 2 0xC 0x848D00000005000C
    ∷ packed 3 0xC 0xC48D00000500000C
    ∷ packed 1 0 0x448D000000000005
    ∷ []

-- the root entry over 65,536 bytes: "byte 0 = 20, byte 6 = 20, byte 25 = 3A, the rest 00", hex
abbrev pub printed_root : List ℕ
printed_root = set (set (set (replicate 32 0) 0 0x20) 6 0x20) 25 0x3A

-- direct, base 0, all of memory, user 0, R, W and X, Lockable, tag 0, nonce 0
abbrev root_row : Row
root_row = record { given = entry_bytes (direct 0 65536 0 7 true 0 0); printed = printed_root }

abbrev pub packed_examples : List Row
packed_examples = packed_tokens ++ (root_row ∷ [])
