-- Ill-formed entries (01, "Entries: Table 2"): "Type 0 is free whatever its other bytes hold. Ill-formed: type above 2, length 0, an end past
-- memory, a one where this section says zero, a parent not in encoding 1, or a holder that is zero while Locked or nonzero while not." 02, paper 6, adds type 3:
-- "Type 3 is ill-formed only at length 0 or with a one where zero belongs."
-- Assumes nothing.
use Rattle.std.specs.Prelude.{Bool, true, false, not, ◌&&◌, ◌||◌, List, [], ◌∷◌, ℕ, zero, suc, ◌+◌, eqb, ltb}
use Rattle.tokens.specs.Token.{encoding_of}
use Rattle.layout.specs.declared.entry.Entry.{Entry}

-- 01's cases, for a memory of m bytes
abbrev pub length_zero : Entry → Bool
length_zero e = eqb e.length 0

abbrev pub end_past_memory : ℕ → Entry → Bool
end_past_memory m e = ltb m (e.base + e.length)

abbrev pub locked_without_holder : Entry → Bool
locked_without_holder e = e.locked && eqb e.holder 0

abbrev pub holder_without_lock : Entry → Bool
holder_without_lock e = not e.locked && not (eqb e.holder 0)

abbrev pub zeros_not_zero : Entry → Bool
zeros_not_zero e = not (eqb e.zeros 0)

abbrev pub parent_not_in_encoding1 : Entry → Bool
parent_not_in_encoding1 e = not (eqb (encoding_of e.parent) 1)

-- the cases of each type: in a direct entry CoW is a zero; in an indirect one CoW, Locked, Lockable and the 55 bits before R are; in one that is paged out,
-- which is "unlocked", CoW, Locked and its 39 bits
abbrev pub faults_of : ℕ → ℕ → Entry → List Bool
faults_of zero m e = []
faults_of (suc zero) m e = length_zero e ∷ end_past_memory m e ∷ e.cow ∷ locked_without_holder e ∷ holder_without_lock e ∷ []
faults_of (suc (suc zero)) m e =
    length_zero e ∷ end_past_memory m e ∷ e.cow ∷ e.locked ∷ e.lockable ∷ zeros_not_zero e ∷ parent_not_in_encoding1 e ∷ []
faults_of (suc (suc (suc zero))) m e = length_zero e ∷ e.cow ∷ e.locked ∷ zeros_not_zero e ∷ []
faults_of (suc (suc (suc (suc k)))) m e = true ∷ []

-- a or one of the cases holds
abbrev pub or_some : Bool → List Bool → Bool
or_some a [] = a
or_some a (b ∷ bs) = or_some (a || b) bs

unfoldable pub ill_formed : ℕ → Entry → Bool
ill_formed m e = or_some false (faults_of e.kind m e)
