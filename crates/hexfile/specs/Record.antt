-- One record of Intel HEX (02, paper 2): a line of text, without its line feed. A colon, and then bytes of two digits each: how many data bytes,
-- the address (two bytes, high byte first), the type, the data, and a checksum that makes the sum of all of them 0 modulo 256.
-- Assumes nothing.
use Rattle.std.specs.Prelude.{Bool, true, false, cond, not, ◌&&◌, ◌||◌, List, [], ◌∷◌, ℕ, zero, suc, ◌+◌, ◌*◌, ◌-◌, ◌%◌, eqb, leb, ltb, length, get_or, take, drop}

-- a character from one to another
abbrev pub between : ℕ → ℕ → ℕ → Bool
between low high c = leb low c && leb c high

-- the value of a digit, "of either case": 0 to 9, A to F, a to f. 256 stands for none
unfoldable pub digit : ℕ → ℕ
digit c = cond (between 48 57 c) (c - 48) (cond (between 65 70 c) (c - 55) (cond (between 97 102 c) (c - 87) 256))

-- the byte that two characters make. 256 stands for none
unfoldable pub byte : ℕ → ℕ → ℕ
byte a b = cond (ltb (digit a) 16 && ltb (digit b) 16) (16 * digit a + digit b) 256

-- the bytes of a row of characters; one left over makes none
abbrev pub bytes_of : List ℕ → List ℕ
bytes_of [] = []
bytes_of (a ∷ []) = 256 ∷ []
bytes_of (a ∷ b ∷ cs) = byte a b ∷ bytes_of cs

-- all of them, added
abbrev pub sum : List ℕ → ℕ
sum [] = 0
sum (b ∷ bs) = b + sum bs

-- ---- the fields of a record's bytes

-- how many data bytes it says it has
abbrev pub count : List ℕ → ℕ
count bs = get_or bs 0 0

-- where they go in the page
abbrev pub address : List ℕ → ℕ
address bs = 256 * get_or bs 1 0 + get_or bs 2 0

-- 0 data, 1 the end, 4 a page
abbrev pub type : List ℕ → ℕ
type bs = get_or bs 3 0

-- the page that a record of type 04 names
abbrev pub page_of : List ℕ → ℕ
page_of bs = 256 * get_or bs 4 0 + get_or bs 5 0

-- the data bytes, without the checksum
abbrev pub data_of : List ℕ → List ℕ
data_of bs = take (count bs) (drop 4 bs)

-- ---- what makes a record malformed

-- it does not begin with a colon
abbrev pub no_colon : List ℕ → Bool
no_colon line = not (eqb (get_or line 0 0) 58)

-- a character that is no digit, or half a byte
abbrev pub no_byte : List ℕ → Bool
no_byte [] = false
no_byte (b ∷ bs) = not (ltb b 256) || no_byte bs

-- not four bytes, as many data bytes as the first one says, and a checksum
abbrev pub wrong_count : List ℕ → Bool
wrong_count bs = not (eqb (length bs) (count bs + 5))

-- "A data record may not run past its 64 KiB page (else 12)"
abbrev pub past_page : ℕ → ℕ → Bool
past_page a n = ltb 65536 (a + n)

-- "types 01 and 04 carry address 0000"
abbrev pub addressed : ℕ → Bool
addressed a = not (eqb a 0)

-- "record types 00, 01 and 04": data, the end, which has none, and a page of two bytes; by the type, the address and the count
abbrev pub faults_of : ℕ → ℕ → ℕ → List Bool
faults_of zero a n = past_page a n ∷ []
faults_of (suc zero) a n = addressed a ∷ not (eqb n 0) ∷ []
faults_of (suc (suc zero)) a n = true ∷ []
faults_of (suc (suc (suc zero))) a n = true ∷ []
faults_of (suc (suc (suc (suc zero)))) a n = addressed a ∷ not (eqb n 2) ∷ []
faults_of (suc (suc (suc (suc (suc t))))) a n = true ∷ []

-- one of them holds
abbrev pub some : List Bool → Bool
some [] = false
some (b ∷ bs) = b || some bs

-- the bytes of a line after its colon
abbrev pub inside : List ℕ → List ℕ
inside line = bytes_of (drop 1 line)

-- one of these holds of a line
unfoldable pub malformed : List ℕ → Bool
malformed line =
    let bs = inside line in
    some (no_colon line ∷ no_byte bs ∷ wrong_count bs ∷ faults_of (type bs) (address bs) (count bs))

-- "a wrong checksum": the sum of all its bytes is not 0 modulo 256
unfoldable pub wrong_sum : List ℕ → Bool
wrong_sum line = not (eqb (sum (inside line) % 256) 0)

-- "12 a malformed record", "13 a wrong checksum", "12 before 13 in one record"; 0 if it is neither
abbrev pub verdict_of : Bool → Bool → ℕ
verdict_of m w = cond m 12 (cond w 13 0)

unfoldable pub verdict : List ℕ → ℕ
verdict line = verdict_of (malformed line) (wrong_sum line)
