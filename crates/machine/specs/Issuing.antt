-- Issuing (01, "Issuing").
-- Assumes nothing.
use Rattle.std.specs.Prelude.{cond, List, ℕ, zero, suc, ◌+◌, ◌-◌, eqb, ltb}
use Rattle.layout.specs.Tag.{retag, tag_of}
use Rattle.layout.specs.declared.entry.Entry.{Entry}
use Rattle.machine.specs.Parts.{at, size, spent, State}

-- "The tag is the low 16 bits of SipHash-2-4 over 40 bytes: the entry as issued with tag 0, then the number as 8 bytes, low byte first."
-- The entry e, with its nonce, as it is issued under number n.
abbrev pub issue : State → ℕ → Entry → Entry
issue s n e = retag e (tag_of s.key0 s.key1 e n)

-- "A new number is the first free one after the last given, going round from the table's end to 1. Number 0 is never given again; every
-- other freed number is."
-- The number that comes after k.
abbrev pub after : List ℕ → ℕ → ℕ
after t k = cond (ltb (k + 1) (size t)) (k + 1) 1

-- the first free one of so many numbers after k; 0 if there is none
unfoldable pub seek : ℕ → List ℕ → ℕ → ℕ
seek zero t k = 0
seek (suc tries) t k =
    let later = seek tries t (after t k) in
    cond (eqb (at t (after t k)).kind 0) (after t k) later

-- every number but 0 is tried once, the last given at the end
abbrev pub new_number : State → List ℕ → ℕ
new_number s t = seek (size t - 1) t s.last

-- "Nonces whose tag equals the old one are passed over" (revoke); 02, paper 5: "Every issue, also by create and merge, passes over nonces whose tag equals
-- the one its entry last held, as revoke does." The first nonce from ν on with which the entry e ν is issued under another tag than the old; the one after the
-- tries if there is none.
unfoldable pub pass_over : ℕ → State → ℕ → (ℕ → Entry) → ℕ → ℕ → ℕ
pass_over zero s n e old ν = ν
pass_over (suc tries) s n e old ν =
    let later = pass_over tries s n e old (ν + 1) in
    cond (eqb (issue s n (e ν)).tag old) later ν

-- the tag that the entry of number n last held: it has it, or as a free one keeps it, and "an entry never used counts as having held tag 0"
abbrev pub last_held : List ℕ → ℕ → ℕ
last_held t n = (at t n).tag

-- the nonce with which e is issued under number n: the first from the next one on that gives another tag than its entry last held
abbrev pub other_nonce : State → List ℕ → ℕ → (ℕ → Entry) → ℕ
other_nonce s t n e = pass_over (spent - s.next) s n e (last_held t n) s.next
