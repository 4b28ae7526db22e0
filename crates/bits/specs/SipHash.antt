-- SipHash-2-4, as its authors published it: a 64-bit hash of a list of bytes under a key of two words.
-- Assumes nothing.
use Rattle.std.specs.Prelude.{List, [], ◌∷◌, ◌++◌, ℕ, zero, suc, ◌+◌, ◌-◌, ◌*◌, ◌/◌, ◌%◌, ◌^◌, length, take, drop, replicate}
use Rattle.std.specs.Int.Bits.{bit_xor}
use Rattle.bits.specs.Bytes.{low_number}
use Rattle.bits.specs.declared.siphash.Lanes.{Lanes}

-- the sum modulo 2 ^ 64
unfoldable pub add64 : ℕ → ℕ → ℕ
add64 a b = (a + b) % 2 ^ 64

-- x turned left by k of its 64 bits: its high k bits come below the others
unfoldable pub rotl : ℕ → ℕ → ℕ
rotl x k = x % 2 ^ (64 - k) * 2 ^ k + x / 2 ^ (64 - k)

-- a SipRound
unfoldable pub sip_round : Lanes → Lanes
sip_round v =
    let v0 = add64 v.v0 v.v1 in
    let v1 = bit_xor (rotl v.v1 13) v0 in
    let v0 = rotl v0 32 in
    let v2 = add64 v.v2 v.v3 in
    let v3 = bit_xor (rotl v.v3 16) v2 in
    let v0 = add64 v0 v3 in
    let v3 = bit_xor (rotl v3 21) v0 in
    let v2 = add64 v2 v1 in
    let v1 = bit_xor (rotl v1 17) v2 in
    let v2 = rotl v2 32 in
    record { v0 = v0; v1 = v1; v2 = v2; v3 = v3 }

-- the state that a key of two words starts with
abbrev pub start : ℕ → ℕ → Lanes
start k0 k1 = record {
  v0 = bit_xor k0 0x736f6d6570736575;
  v1 = bit_xor k1 0x646f72616e646f6d;
  v2 = bit_xor k0 0x6c7967656e657261;
  v3 = bit_xor k1 0x7465646279746573;
}

-- a word of the message goes in by two rounds
unfoldable pub compress : Lanes → ℕ → Lanes
compress v m =
    let w = sip_round (sip_round (record { v0 = v.v0; v1 = v.v1; v2 = v.v2; v3 = bit_xor v.v3 m })) in
    record { v0 = bit_xor w.v0 m; v1 = w.v1; v2 = w.v2; v3 = w.v3 }

-- four rounds end it
unfoldable pub finish : Lanes → ℕ
finish v =
    let w = sip_round (sip_round (sip_round (sip_round (record { v0 = v.v0; v1 = v.v1; v2 = bit_xor v.v2 0xff; v3 = v.v3 })))) in
    bit_xor (bit_xor (bit_xor w.v0 w.v1) w.v2) w.v3

-- the message with null bytes and a byte for its length modulo 256, so that it is a whole number of words
unfoldable pub padded : List ℕ → List ℕ
padded m = m ++ (replicate (7 - length m % 8) 0 ++ (length m % 256 ∷ []))

-- word i of the bytes, the low byte first
unfoldable pub word : List ℕ → ℕ → ℕ
word s i = low_number 8 (take 8 (drop (8 * i) s))

-- the first n words go in
unfoldable pub absorb : ℕ → List ℕ → Lanes → Lanes
absorb zero s v = v
absorb (suc n) s v = compress (absorb n s v) (word s n)

unfoldable pub siphash : ℕ → ℕ → List ℕ → ℕ
siphash k0 k1 m = finish (absorb (length m / 8 + 1) (padded m) (start k0 k1))
