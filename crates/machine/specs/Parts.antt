-- The parts of the machine (01, "The parts of the machine").
-- Assumes nothing.
use Rattle.std.specs.Prelude.{true, cond, List, ◌++◌, ℕ, ◌-◌, ◌*◌, ◌/◌, ltb, length, take, drop, replicate}
use Rattle.layout.specs.Entry.{direct, entry_at, entry_bytes, free}
use Rattle.layout.specs.declared.entry.Entry.{Entry}

-- "Memory: a lent slice of 1 to 16,777,216 bytes. Physical address 0 is its first byte."
abbrev pub most_memory : ℕ
most_memory = 16777216

-- "Capability metadata table: a lent slice of 2 to 1,024 entries of 32 bytes. The entry of number n starts in the table's middle, at byte
-- 32 × n."
abbrev pub least_entries : ℕ
least_entries = 2

abbrev pub most_entries : ℕ
most_entries = 1024

-- how many entries a table has
unfoldable pub size : List ℕ → ℕ
size t = length t / 32

-- the entry of number n; beyond the table there are free ones
unfoldable pub at : List ℕ → ℕ → Entry
at t n = cond (ltb n (size t)) (entry_at (take 32 (drop (32 * n) t))) free

-- the table with the entry e under number n
unfoldable pub put : List ℕ → ℕ → Entry → List ℕ
put t n e = cond (ltb n (size t)) (take (32 * n) t ++ (entry_bytes e ++ drop 32 (drop (32 * n) t))) t

-- "State: a 128-bit key (two 64-bit words, as SipHash reads its 16 bytes), the last number given (inside the table), and the next nonce
-- (1 to 4,294,967,296; the last means spent)." 02, paper 3: "The state gains a kept total of free numbers without number 0".
pub record State : Type 0 where
  pub key0 : ℕ
  pub key1 : ℕ
  pub last : ℕ
  pub next : ℕ
  pub total : ℕ

abbrev pub spent : ℕ
spent = 4294967296

-- "the total may not exceed entries minus one": as many numbers but 0 as the table has, and so many are free after reset
abbrev pub most_free : List ℕ → ℕ
most_free t = size t - 1

-- the state with another last number, next nonce and free total
abbrev pub moved : State → (last next total : ℕ) → State
moved s l ν k = record { key0 = s.key0; key1 = s.key1; last = l; next = ν; total = k }

-- the state with another free total
abbrev pub totalled : State → (total : ℕ) → State
totalled s k = moved s s.last s.next k

-- the state as reset leaves it beside the table t: "the last number 0, the next nonce that first one", and every number but 0 free
abbrev pub begun : List ℕ → (key0 key1 first_nonce : ℕ) → State
begun t k0 k1 ν = record { key0 = k0; key1 = k1; last = 0; next = ν; total = most_free t }

-- "Reset [..] writes entry 0, the root: direct, base 0, all of memory, count 0, permissions R, W and X, Lockable, tag 0, nonce 0. All other
-- entries become zeros."
abbrev pub root : ℕ → Entry
root memory = direct 0 memory 0 7 true 0 0

unfoldable pub cleared : List ℕ → List ℕ
cleared t = replicate (length t) 0
