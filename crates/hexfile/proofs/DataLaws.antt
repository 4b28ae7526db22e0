-- A text's data, and a written text, are bytes.
-- Assumes nothing.
use mathlib.Core.Path.{◌≡◌, refl}
use mathlib.Core.Bool.{Bool, true, false, cond, not}
use mathlib.Core.List.{List, [], ◌∷◌, ◌++◌}
use Prim.Native.Nat.{ℕ, zero, suc, ◌+◌, ◌*◌, ◌/◌, ◌%◌, ◌≤◌, ◌<◌}
use native.Mathlib.Omega.{arith}
use lib.Dec.{eqb, ltb}
use lib.ListN.{drop, length, length-take, take}
use borrow.Author.Tests.{ltb-true, not-false}
use Rattle.bits.specs.Bytes.{AllBytes}
use Rattle.bits.proofs.ByteLists.{bytes_drop, bytes_join, bytes_take}
use Rattle.hexfile.specs.Record.{address, count, data_of, inside, malformed, no_byte, no_colon, page_of, type, verdict, verdict_of, wrong_sum}
use Rattle.hexfile.specs.Text.{after, ending, go, loads, Piece, pieces, read, refused, Said, said, verdict_in}
use Rattle.hexfile.specs.Written.{capital, checksum, data_records, digits, fields, line_of, many, record_of, written}
use Rattle.hexfile.proofs.LineLaws.{or_false}

-- ---- what a text says

-- the data of pieces, and of what a text says, are bytes
abbrev pub AllData : List Piece → Type 0
AllData [] = Unit {0}
AllData (p ∷ ps) = AllBytes p.bytes × AllData ps

abbrev pub SaidBytes : Said → Type 0
SaidBytes (refused n) = Unit {0}
SaidBytes (loads ps) = AllData ps

made : (bs : List ℕ) → no_byte bs ≡ false → AllBytes bs
made [] h = tt
made (b ∷ bs) h =
    let r = or_false (not (ltb b 256)) (no_byte bs) h in
    (ltb-true b 256 (not-false (ltb b 256) r.0), made bs r.1)

well_formed : (m w : Bool) → verdict_of m w ≡ 0 → m ≡ false
well_formed true w h = absurd (omega arith)
well_formed false w h = refl

line-bytes : (line : List ℕ) → verdict line ≡ 0 → AllBytes (inside line)
unfolding verdict malformed
line-bytes line h =
    let a = or_false (no_colon line) _ (well_formed (malformed line) (wrong_sum line) h) in
    made (inside line) (or_false (no_byte (inside line)) _ a.1).0

data_bytes : (page : ℕ) (bs : List ℕ) → AllBytes bs → AllData (pieces page bs)
data_bytes page bs h = by (eqb (count bs) 0)
  where
    by : (b : Bool) → AllData (cond b [] (record { at = 65536 * page + address bs; bytes = data_of bs } ∷ []))
    by true = tt
    by false = (bytes_take (count bs) (drop 4 bs) (bytes_drop 4 bs h), tt)

judged : (line : List ℕ) (rest : List (List ℕ)) → verdict_in line rest ≡ 0 → verdict line ≡ 0
judged line [] h = absurd (omega arith)
judged line (next ∷ rest) h = h

after_bytes : (ps : List Piece) (s : Said) → AllData ps → SaidBytes s → SaidBytes (after ps s)
after_bytes ps (refused n) h i = tt
after_bytes ps (loads qs) h i = by ps h
  where
    by : (ps : List Piece) → AllData ps → AllData (ps ++ qs)
    by [] h = i
    by (p ∷ ps) h = (h.0, by ps h.1)

ending-bytes : (ls : List (List ℕ)) → SaidBytes (ending ls)
ending-bytes [] = tt
ending-bytes ([] ∷ []) = tt
ending-bytes ((c ∷ cs) ∷ ls) = tt
ending-bytes ([] ∷ l ∷ ls) = tt

go_bytes : (v t : ℕ) (a b c : Said) → (v ≡ 0 → SaidBytes a) → SaidBytes b → SaidBytes c → SaidBytes (go v t a b c)
go_bytes (suc n) t a b c f g h = tt
go_bytes zero zero a b c f g h = f refl
go_bytes zero (suc zero) a b c f g h = g
go_bytes zero (suc (suc t)) a b c f g h = h

read-bytes : (page : ℕ) (ls : List (List ℕ)) → SaidBytes (read page ls)
unfolding read
read-bytes page [] = tt
read-bytes page (line ∷ rest) =
    let bs = inside line in
    go_bytes (verdict_in line rest) (type bs) _ _ _
    (λ z. after_bytes (pieces page bs) (read page rest) (data_bytes page bs (line-bytes line (judged line rest z))) (read-bytes page rest))
    (ending-bytes rest)
    (read-bytes (page_of bs) rest)

pub said-bytes : (text : List ℕ) → SaidBytes (said text)
unfolding said
said-bytes text = read-bytes 0 _

-- ---- a written text

capital-byte : (d : ℕ) → d < 16 → capital d < 256
unfolding capital
capital-byte d h = by (ltb d 10)
  where
    by : (b : Bool) → cond b (48 + d) (55 + d) < 256
    by true = omega arith
    by false = omega arith

digits-bytes : (bs : List ℕ) → AllBytes bs → AllBytes (digits bs)
digits-bytes [] h = tt
digits-bytes (b ∷ bs) h = (capital-byte (b / 16) (omega arith), (capital-byte (b % 16) (omega arith), digits-bytes bs h.1))

record_bytes : (t a : ℕ) (bs : List ℕ) → t < 256 → a < 65536 → length bs < 256 → AllBytes bs → AllBytes (record_of t a bs)
unfolding line_of
record_bytes t a bs ht ha hl h =
    let fs : List ℕ = fields t a bs in
    let whole = digits-bytes (fs ++ (checksum fs ∷ [])) (bytes_join fs (checksum fs ∷ []) (hl, (omega arith, (omega arith, (ht, h)))) (omega arith, tt)) in
    (omega arith, bytes_join (digits (fs ++ (checksum fs ∷ []))) (10 ∷ []) whole (omega arith, tt))

records_bytes : (n a : ℕ) (bs : List ℕ) → a + 16 * n < 65552 → AllBytes bs → AllBytes (data_records n a bs)
unfolding data_records
records_bytes zero a bs l h = tt
records_bytes (suc n) a bs l h =
    let t = length-take 16 bs in
    bytes_join (record_of 0 a (take 16 bs)) (data_records n (a + 16) (drop 16 bs))
    (record_bytes 0 a (take 16 bs) (omega arith) (omega arith) (omega arith) (bytes_take 16 bs h))
    (records_bytes n (a + 16) (drop 16 bs) (omega arith) (bytes_drop 16 bs h))

pub written-bytes : (bs : List ℕ) → length bs ≤ 65536 → AllBytes bs → AllBytes (written bs)
unfolding written
written-bytes bs l h =
    bytes_join (record_of 4 0 (0 ∷ 0 ∷ [])) (data_records (many (length bs)) 0 bs ++ record_of 1 0 [])
    (record_bytes 4 0 (0 ∷ 0 ∷ []) (omega arith) (omega arith) (omega arith) (omega arith, (omega arith, tt)))
    (bytes_join (data_records (many (length bs)) 0 bs) (record_of 1 0 []) (records_bytes (many (length bs)) 0 bs (omega arith) h) (record_bytes 1 0 [] (omega arith) (omega arith) (omega arith) tt))
