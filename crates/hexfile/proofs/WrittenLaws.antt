-- What is written restores its bytes.
-- Assumes nothing.
use mathlib.Core.Path.{◌≡◌, refl, ◌∙◌, ap, ap₂}
use mathlib.Core.Logic.{◌≢◌}
use mathlib.Core.Bool.{Bool, true, false, cond}
use mathlib.Core.List.{List, [], ◌∷◌, ◌++◌, append_assoc, append-nil}
use Prim.Native.Nat.{ℕ, zero, suc, ◌+◌, ◌*◌, ◌-◌, ◌/◌, ◌%◌, ◌≤◌, ◌<◌}
use native.Mathlib.Omega.{arith}
use lib.Dec.{ltb}
use native.Mathlib.Nat.{add-zero}
use lib.ListN.{drop, drop_of_length-le, length, length-append, length-drop, length-take, set, take}
use lib.Seq.{sets, sets-eq, take_at}
use borrow.Author.Tests.{eq-eqb, le-ltb, ne_eqb}
use Rattle.bits.specs.Bytes.{AllBytes}
use Rattle.hexfile.specs.Record.{address, byte, bytes_of, digit, inside, malformed, no_colon, past_page, sum, verdict, wrong_count, wrong_sum}
use Rattle.hexfile.specs.Restored.{Restored, WrittenLong}
use Rattle.hexfile.specs.Text.{apply, farthest, lines, loads, Piece, pieces, read, said, verdict_in}
use Rattle.hexfile.specs.Written.{capital, checksum, data_records, digits, fields, line_of, many, record_of, written}
use Rattle.bits.proofs.ByteLists.{bytes_drop, bytes_join, bytes_take}
use Rattle.hexfile.proofs.DigitLaws.{byte_capitals}
use Rattle.hexfile.proofs.LineLaws.{all_bytes, lines-line, lines_none, Plain}

-- ---- digits

capital-plain : (d : ℕ) → capital d ≢ 10
unfolding capital
capital-plain d = go (ltb d 10)
  where
    go : (b : Bool) → cond b (48 + d) (55 + d) ≢ 10
    go true e = omega arith
    go false e = omega arith

digits-plain : (bs : List ℕ) → Plain (digits bs)
digits-plain [] = tt
digits-plain (b ∷ bs) = (capital-plain (b / 16), (capital-plain (b % 16), digits-plain bs))

-- ---- the bytes of a record

bytes-digits : (bs : List ℕ) → AllBytes bs → bytes_of (digits bs) ≡ bs
bytes-digits [] h = refl
bytes-digits (b ∷ bs) h = ap₂ ◌∷◌ (byte_capitals b h.0) (bytes-digits bs h.1)

fields-bytes : (t a : ℕ) (bs : List ℕ) → t < 256 → a < 65536 → length bs < 256 → AllBytes bs → AllBytes (fields t a bs)
fields-bytes t a bs ht ha hl h = (hl, (omega arith, (omega arith, (ht, h))))

-- the bytes of a written line
abbrev whole : ℕ → ℕ → List ℕ → List ℕ
whole t a bs = fields t a bs ++ (checksum (fields t a bs) ∷ [])

line_plain : (t a : ℕ) (bs : List ℕ) → Plain (line_of t a bs)
unfolding line_of
line_plain t a bs = ((λ e. omega arith), digits-plain (whole t a bs))

inside-line : (t a : ℕ) (bs : List ℕ) → AllBytes (fields t a bs) → inside (line_of t a bs) ≡ whole t a bs
unfolding line_of
inside-line t a bs h = bytes-digits (whole t a bs) (bytes_join (fields t a bs) (checksum (fields t a bs) ∷ []) h (omega arith, tt))

sum_last : (bs : List ℕ) (b : ℕ) → sum (bs ++ (b ∷ [])) ≡ sum bs + b
sum_last [] b = omega arith
sum_last (x ∷ bs) b = omega (arith, sum_last bs b)

sum-whole : (t a : ℕ) (bs : List ℕ) → sum (whole t a bs) % 256 ≡ 0
sum-whole t a bs = rw (sum_last (fields t a bs) (checksum (fields t a bs))) (go (sum (fields t a bs)))
  where
    go : (s : ℕ) → (s + (256 - s % 256) % 256) % 256 ≡ 0
    go s = omega arith

-- ---- a written data record is well-formed

count-whole : (t a : ℕ) (bs : List ℕ) → wrong_count (whole t a bs) ≡ false
count-whole t a bs = rw (eq-eqb (length (whole t a bs)) (length bs + 5) (omega (arith, length-append bs (checksum (fields t a bs) ∷ []))))

page-whole : (t a : ℕ) (bs : List ℕ) → a + length bs ≤ 65536 → past_page (address (whole t a bs)) (length bs) ≡ false
page-whole t a bs h = le-ltb 65536 (256 * (a / 256) + a % 256 + length bs) (omega arith)

colon_line : (t a : ℕ) (bs : List ℕ) → no_colon (line_of t a bs) ≡ false
unfolding line_of
colon_line t a bs = refl

sound : (a : ℕ) (bs : List ℕ) → a < 65536 → length bs < 256 → a + length bs ≤ 65536 → AllBytes bs → verdict (line_of 0 a bs) ≡ 0
unfolding verdict malformed wrong_sum
sound a bs h k e b =
    let f = fields-bytes 0 a bs (omega arith) h k b in
    let all = bytes_join (fields 0 a bs) (checksum (fields 0 a bs) ∷ []) f (omega arith, tt) in
    rw (colon_line 0 a bs, inside-line 0 a bs f, all_bytes (whole 0 a bs) all, count-whole 0 a bs, page-whole 0 a bs e, sum-whole 0 a bs)

-- ---- the written lines

abbrev data_lines : ℕ → ℕ → List ℕ → List (List ℕ)
data_lines zero a bs = []
data_lines (suc n) a bs = line_of 0 a (take 16 bs) ∷ data_lines n (a + 16) (drop 16 bs)

-- the end record's line, and nothing after its line feed
abbrev last : List (List ℕ)
last = line_of 1 0 [] ∷ [] ∷ []

lines_record : (t a : ℕ) (bs rest : List ℕ) → lines (record_of t a bs ++ rest) ≡ line_of t a bs ∷ lines rest
lines_record t a bs rest = rw append_assoc (lines-line (line_of t a bs) rest (line_plain t a bs))

lines_last : lines (record_of 1 0 []) ≡ last
lines_last = lines-line (line_of 1 0 []) [] (line_plain 1 0 []) ∙ ap (λ ls. line_of 1 0 [] ∷ ls) lines_none

lines_data : (n a : ℕ) (bs : List ℕ) → lines (data_records n a bs ++ record_of 1 0 []) ≡ data_lines n a bs ++ last
unfolding data_records
lines_data zero a bs = lines_last
lines_data (suc n) a bs =
    rw (append_assoc (record_of 0 a (take 16 bs)) (data_records n (a + 16) (drop 16 bs)) (record_of 1 0 []))
    (lines_record 0 a (take 16 bs) _ ∙ ap (λ ls. line_of 0 a (take 16 bs) ∷ ls) (lines_data n (a + 16) (drop 16 bs)))

-- ---- what they say

abbrev written-pieces : ℕ → ℕ → List ℕ → List Piece
written-pieces zero a bs = []
written-pieces (suc n) a bs = record { at = a; bytes = take 16 bs } ∷ written-pieces n (a + 16) (drop 16 bs)

not_last : (line : List ℕ) (xs : List (List ℕ)) → verdict_in line (xs ++ last) ≡ verdict line
not_last line [] = refl
not_last line (x ∷ xs) = refl

piece-whole : (a : ℕ) (bs : List ℕ) → 0 < length bs → pieces 0 (whole 0 a bs) ≡ record { at = a; bytes = bs } ∷ []
piece-whole a bs h =
    let same : 65536 * 0 + (256 * (a / 256) + a % 256) ≡ a = omega arith in
    rw (ne_eqb (length bs) 0 (λ e. omega arith), same, take_at bs (checksum (fields 0 a bs) ∷ []) (length bs) refl)

read_data : (a : ℕ) (bs : List ℕ) (xs : List (List ℕ)) (ps : List Piece) → 0 < length bs → length bs < 256 → a + length bs ≤ 65536 → AllBytes bs
    → read 0 (xs ++ last) ≡ loads ps → read 0 (line_of 0 a bs ∷ (xs ++ last)) ≡ loads (record { at = a; bytes = bs } ∷ ps)
unfolding read
read_data a bs xs ps h k e b r =
    let f = fields-bytes 0 a bs (omega arith) (omega arith) k b in
    rw (not_last (line_of 0 a bs) xs, sound a bs (omega arith) k e b, inside-line 0 a bs f, piece-whole a bs h, r)

abbrev first : List ℕ
first = line_of 4 0 (0 ∷ 0 ∷ [])

first_sound : verdict first ≡ 0
unfolding verdict malformed wrong_sum byte digit capital line_of
first_sound = refl

first_inside : inside first ≡ 2 ∷ 0 ∷ 0 ∷ 4 ∷ 0 ∷ 0 ∷ 250 ∷ []
unfolding byte digit capital line_of
first_inside = refl

read_first : (xs : List (List ℕ)) → read 0 (first ∷ (xs ++ last)) ≡ read 0 (xs ++ last)
unfolding read
read_first xs = rw (not_last first xs, first_sound, first_inside)

read_last : read 0 last ≡ loads []
unfolding read verdict malformed wrong_sum byte digit capital line_of
read_last = refl

read_all : (n a : ℕ) (bs : List ℕ) → n ≡ many (length bs) → (0 < length bs → a + length bs ≤ 65536) → AllBytes bs
    → read 0 (data_lines n a bs ++ last) ≡ loads (written-pieces n a bs)
read_all zero a bs e h b = read_last
read_all (suc n) a bs e h b =
    let t = length-take 16 bs in
    let d = length-drop 16 bs in
    let k = h (omega arith) in
    read_data a (take 16 bs) (data_lines n (a + 16) (drop 16 bs)) (written-pieces n (a + 16) (drop 16 bs))
    (omega arith) (omega arith) (omega arith) (bytes_take 16 bs b)
    (read_all n (a + 16) (drop 16 bs) (omega arith) (λ i. omega arith) (bytes_drop 16 bs b))

-- ---- the pieces, stored one after the other

sets-parts : (k : ℕ) (xs : List ℕ) (a : ℕ) (bs : List ℕ) → sets (sets xs a (take k bs)) (a + k) (drop k bs) ≡ sets xs a bs
sets-parts zero xs a bs = rw add-zero
sets-parts (suc k) xs a [] = refl
sets-parts (suc k) xs a (b ∷ bs) = let e : a + suc k ≡ suc a + k = omega arith in rw e (sets-parts k (set xs a b) (suc a) bs)

apply_all : (n a : ℕ) (bs xs : List ℕ) → n ≡ many (length bs) → apply (written-pieces n a bs) xs ≡ sets xs a bs
apply_all zero a [] xs e = refl
apply_all zero a (b ∷ bs) xs e = absurd (omega arith)
apply_all (suc n) a bs xs e =
    let d = length-drop 16 bs in
    apply_all n (a + 16) (drop 16 bs) (sets xs a (take 16 bs)) (omega arith) ∙ sets-parts 16 xs a bs

farthest_all : (n a : ℕ) (bs : List ℕ) → n ≡ many (length bs) → 0 < n → farthest (written-pieces n a bs) ≤ a + length bs
farthest_all zero a bs e h = absurd (omega arith)
farthest_all (suc zero) a bs e h = let t = length-take 16 bs in omega arith
farthest_all (suc (suc n)) a bs e h =
    let t = length-take 16 bs in
    let d = length-drop 16 bs in
    omega (arith, farthest_all (suc n) (a + 16) (drop 16 bs) (omega arith) (omega arith))

farthest-within : (n : ℕ) (bs : List ℕ) → n ≡ many (length bs) → farthest (written-pieces n 0 bs) ≤ length bs
farthest-within zero bs e = omega arith
farthest-within (suc n) bs e = omega (arith, farthest_all (suc n) 0 bs e (omega arith))

says-written : (bs : List ℕ) → AllBytes bs → length bs ≤ 65536 → said (written bs) ≡ loads (written-pieces (many (length bs)) 0 bs)
unfolding said written
says-written bs b h =
    ap (read 0) (lines_record 4 0 (0 ∷ 0 ∷ []) (data_records (many (length bs)) 0 bs ++ record_of 1 0 []) ∙ ap (λ ls. first ∷ ls) (lines_data (many (length bs)) 0 bs))
    ∙ read_first (data_lines (many (length bs)) 0 bs)
    ∙ read_all (many (length bs)) 0 bs refl (λ i. omega arith) b

sets-whole : (xs bs : List ℕ) → length xs ≡ length bs → sets xs 0 bs ≡ bs
sets-whole xs bs e =
    let none : drop (0 + length bs) xs ≡ [] = drop_of_length-le xs {i = 0 + length bs} (omega arith) in
    sets-eq bs xs 0 (omega arith) ∙ rw none (append-nil bs)

pub restored : Restored
restored bs b h = record {
  pieces = written-pieces (many (length bs)) 0 bs;
  says = says-written bs b h;
  fits = farthest-within (many (length bs)) bs refl;
  restores = λ xs e. apply_all (many (length bs)) 0 bs xs refl ∙ sets-whole xs bs e;
}

-- ---- the written length

pub length_digits : (bs : List ℕ) → length (digits bs) ≡ 2 * length bs
length_digits [] = refl
length_digits (b ∷ bs) = omega (arith, length_digits bs)

pub length_record : (t a : ℕ) (bs : List ℕ) → length (record_of t a bs) ≡ 2 * length bs + 12
unfolding line_of
length_record t a bs = simp (length-append, length_digits) (omega arith)

pub length_data : (n a : ℕ) (bs : List ℕ) → n ≡ many (length bs) → length (data_records n a bs) ≡ 2 * length bs + 12 * n
unfolding data_records
length_data zero a bs e = omega arith
length_data (suc n) a bs e =
    let t = length-take 16 bs in
    let d = length-drop 16 bs in
    let i = length_data n (a + 16) (drop 16 bs) (omega arith) in
    let r = length_record 0 a (take 16 bs) in
    length-append (record_of 0 a (take 16 bs)) (data_records n (a + 16) (drop 16 bs)) ∙ omega arith

pub written-long : WrittenLong
unfolding written
written-long bs =
    let d = length_data (many (length bs)) 0 bs refl in
    let f = length_record 4 0 (0 ∷ 0 ∷ []) in
    let e = length_record 1 0 [] in
    rw (length-append (record_of 4 0 (0 ∷ 0 ∷ [])) (data_records (many (length bs)) 0 bs ++ record_of 1 0 []), length-append (data_records (many (length bs)) 0 bs) (record_of 1 0 [])) (omega arith)
