-- An entry's 32 bytes in parts: they make its words; and what a walk's tests on them show of the entry.
-- Assumes nothing.
use Rattle.std.proofs.Common.{◌≡◌, ℕ, ◌+◌, ◌*◌, ◌/◌, ◌%◌, ◌^◌, ◌<◌, ◌≤◌, Bool, true, false, not, ◌&&◌, eqb, ltb, leb, List, [], ◌∷◌, length, get_or, take, drop, replicate, sym, refl, ap, ◌∙◌, mod-lt, div-one, arith, pow_pos, ltb-true, le-ltb, lt-ltb, eq-eqb, ne_eqb, eqb-true, leb-true}
use borrow.Author.Tests.{eqb-false, not-true}
use Rattle.std.specs.Int.{from_be_bytes, from_le_bytes, w16, w32}
use Rattle.bits.specs.Bytes.{number}
use Rattle.bits.specs.Fields.{pack, unpack, Fit}
use Rattle.bits.proofs.ByteLaws.{by_elements}
use Rattle.bits.proofs.TestLaws.{both}
use Rattle.layout.specs.Entry.{end_from, end_widths, entry_of, word_list, words_number, word_widths}
use Rattle.layout.specs.Form.{ill_formed, or_some}
use Rattle.layout.specs.declared.entry.Entry.{Entry}
use Rattle.layout.proofs.EntryLaws.{indirect_at, indirect_read, shared-read}
use Rattle.layout.proofs.FormLaws.{ill_as}
use Rattle.layout.proofs.WordLaws.{words-read}
use Rattle.machine.specs.Line.{is_paged, line_of, linked, links, parent_number, parent_tag}
use Rattle.machine.specs.Parts.{at}
use Rattle.table.specs.Cuts.{Above, Bounded, cut_words, passes, swapped}
use Rattle.table.specs.declared.cut.Cut.{Cut}
use Rattle.table.proofs.LineLaws.{linked-here, linked-older, walk_up}

-- ---- the parts make the words

second : (a b c d e f g h hi up q : ℕ) → hi ≡ a → up ≡ pack (replicate 4 8) (b ∷ c ∷ d ∷ e ∷ []) → q ≡ pack (replicate 3 8) (f ∷ g ∷ h ∷ [])
    → hi * 2 ^ 56 + up * 2 ^ 24 + q ≡ pack (replicate 8 8) (a ∷ b ∷ c ∷ d ∷ e ∷ f ∷ g ∷ h ∷ [])
second a b c d e f g h hi up q ha hb hc = omega arith

third : (a b c d e f g h r x y0 y1 z0 z1 z2 z3 : ℕ) → r ≡ a → x ≡ b → y0 ≡ c → y1 ≡ d → z0 ≡ e → z1 ≡ f → z2 ≡ g → z3 ≡ h
    → r * 2 ^ 56 + x * 2 ^ 48 + (y0 * 2 ^ 40 + y1 * 2 ^ 32 + (z0 * 2 ^ 24 + z1 * 2 ^ 16 + z2 * 2 ^ 8 + z3)) ≡ pack (replicate 8 8) (a ∷ b ∷ c ∷ d ∷ e ∷ f ∷ g ∷ h ∷ [])
third a b c d e f g h r x y0 y1 z0 z1 z2 z3 ha hb hc hd he hf hg hh = omega arith

-- numbers that the library reads of bytes, the high byte first or the low byte first
pub big_four : (a b c d n : ℕ) → a < 256 → b < 256 → c < 256 → d < 256 → n ≡ from_be_bytes w32 (a ∷ b ∷ c ∷ d ∷ [])
    → (n < 2 ^ 32) × ((n ≡ pack (replicate 4 8) (a ∷ b ∷ c ∷ d ∷ [])) × ((n / 256 ≡ pack (replicate 3 8) (a ∷ b ∷ c ∷ [])) × (n % 256 ≡ d)))
big_four a b c d n ha hb hc hd q = (omega arith, (omega arith, (omega arith, omega arith)))

pub low_two : (a b n : ℕ) → a < 256 → b < 256 → n ≡ from_le_bytes w16 (a ∷ b ∷ []) → (n % 256 ≡ a) × ((n / 256 ≡ b) × (n < 2 ^ 16))
low_two a b n ha hb q = (omega arith, (omega arith, omega arith))

pub low_four : (a b c d n : ℕ) → a < 256 → b < 256 → c < 256 → d < 256 → n ≡ from_le_bytes w32 (a ∷ b ∷ c ∷ d ∷ [])
    → (n < 2 ^ 32) × ((n % 256 ≡ a) × ((n / 256 % 256 ≡ b) × ((n / 65536 % 256 ≡ c) × (n / 16777216 ≡ d))))
low_four a b c d n ha hb hc hd q = (omega arith, (omega arith, (omega arith, (omega arith, omega arith))))

module _ (s : List ℕ) (l : length s ≡ 32) (v : Cut) where
  abbrev i : ℕ → ℕ
  i k = get_or s k 0

  pub cut-read : v.a ≡ number 8 (take 8 s)
      → v.hi ≡ i 8
      → v.up ≡ pack (replicate 4 8) (i 9 ∷ i 10 ∷ i 11 ∷ i 12 ∷ [])
      → v.len / 256 ≡ pack (replicate 3 8) (i 13 ∷ i 14 ∷ i 15 ∷ [])
      → v.len % 256 ≡ i 16
      → v.x ≡ i 17
      → (v.y % 256 ≡ i 18) × ((v.y / 256 ≡ i 19) × (v.y < 2 ^ 16))
      → (v.z % 256 ≡ i 20) × ((v.z / 256 % 256 ≡ i 21) × ((v.z / 65536 % 256 ≡ i 22) × (v.z / 16777216 ≡ i 23)))
      → v.d ≡ number 8 (take 8 (drop 24 s))
      → words_number (cut_words v) ≡ number 32 s
  unfolding words_number number
  cut-read ha hh hu hq hr hx hy hz hd =
      let b : (cut_words v).b ≡ number 8 (take 8 (drop 8 s)) =
      second _ _ _ _ _ _ _ _ _ _ _ hh hu hq ∙ sym (ap (λ o. number 8 (take 8 (drop 8 o))) (by_elements s 32 l)) in
      let c : (cut_words v).c ≡ number 8 (take 8 (drop 16 s)) =
      third _ _ _ _ _ _ _ _ _ _ _ _ _ _ _ _ hr hx hy.0 hy.1.0 hz.0 hz.1.0 hz.1.1.0 hz.1.1.1 ∙ sym (ap (λ o. number 8 (take 8 (drop 16 o))) (by_elements s 32 l)) in
      words-read s l ha b c hd

-- ---- the tests

six_lt : (a b c d e f : ℕ) → a < 256 → b < 256 → c < 256 → d < 256 → e < 256 → f < 256 → a * 2 ^ 40 + b * 2 ^ 32 + (c * 2 ^ 24 + d * 2 ^ 16 + e * 2 ^ 8 + f) < 2 ^ 48
six_lt a b c d e f ha hb hc hd he hf = omega arith

swapped_lt : (y z : ℕ) → y < 2 ^ 16 → z < 2 ^ 32 → swapped y z < 2 ^ 48
swapped_lt y z hy hz =
    let y1 : y / 256 < 256 = omega arith in
    let z3 : z / 16777216 < 256 = omega arith in
    six_lt (y % 256) (y / 256) (z % 256) (z / 256 % 256) (z / 65536 % 256) (z / 16777216) (mod-lt y (omega arith)) y1 (mod-lt z (omega arith)) (mod-lt (z / 256) (omega arith)) (mod-lt (z / 65536) (omega arith)) z3

second_lt : (hi up q : ℕ) → hi < 2 ^ 8 → up < 2 ^ 32 → q < 2 ^ 24 → hi * 2 ^ 56 + up * 2 ^ 24 + q < 2 ^ 64
second_lt hi up q a b c = omega arith

third_lt : (l x v : ℕ) → x < 2 ^ 8 → v < 2 ^ 48 → l % 256 * 2 ^ 56 + x * 2 ^ 48 + v < 2 ^ 64
third_lt l x v a b = omega arith

small : (l : ℕ) → l < 2 ^ 32 → l / 256 < 2 ^ 24
small l h = omega arith

bounded_fit : (s : Cut) → Bounded s → Fit word_widths (word_list (cut_words s))
bounded_fit s b =
    (b.a, (second_lt s.hi s.up (s.len / 256) b.hi b.up (small s.len b.len), (third_lt s.len s.x (swapped s.y s.z) b.x (swapped_lt s.y s.z b.y b.z), (b.d, tt))))

-- what the tests say
record Tests (m room : ℕ) (s : Cut) : Type 0 where
  kind : s.a / 2 ^ 61 ≡ 2
  encoding : s.a / 2 ^ 27 % 4 ≡ 1
  high : s.a % 2 ^ 11 ≡ 0
  hi : s.hi ≡ 0
  up : s.up % 32 ≡ 0
  y : s.y % 32 ≡ 0
  y_high : s.y / 256 ≡ 0
  z : s.z ≡ 0
  above : s.d / 2 ^ 54 ≡ 0
  flags : s.d / 2 ^ 48 % 8 ≡ 0
  long : s.len / 32 ≡ 0 → ⊥
  within : s.a / 2 ^ 29 % 2 ^ 32 + s.len / 32 ≤ m
  inside : s.up < room

tests : (m room : ℕ) (s : Cut) → passes m room s ≡ true → Tests m room s
tests m room s h =
    let t11 = both _ (ltb s.up room) h in
    let t10 = both _ (leb (s.a / 2 ^ 29 % 2 ^ 32 + s.len / 32) m) t11.0 in
    let t9 = both _ (not (eqb (s.len / 32) 0)) t10.0 in
    let t8 = both _ (eqb (s.d / 2 ^ 48 % 8) 0) t9.0 in
    let t7 = both _ (eqb (s.d / 2 ^ 54) 0) t8.0 in
    let t6 = both _ (eqb s.z 0) t7.0 in
    let t5b = both _ (eqb (s.y / 256) 0) t6.0 in
    let t5 = both _ (eqb (s.y % 32) 0) t5b.0 in
    let t4 = both _ (eqb (s.up % 32) 0) t5.0 in
    let t3 = both _ (eqb s.hi 0) t4.0 in
    let t2 = both _ (eqb (s.a % 2 ^ 11) 0) t3.0 in
    let t1 = both (eqb (s.a / 2 ^ 61) 2) (eqb (s.a / 2 ^ 27 % 4) 1) t2.0 in
    record {
      kind = eqb-true _ _ t1.0;
      encoding = eqb-true _ _ t1.1;
      high = eqb-true _ _ t2.1;
      hi = eqb-true _ _ t3.1;
      up = eqb-true _ _ t4.1;
      y = eqb-true _ _ t5.1;
      y_high = eqb-true _ _ t5b.1;
      z = eqb-true _ _ t6.1;
      above = eqb-true _ _ t7.1;
      flags = eqb-true _ _ t8.1;
      long = eqb-false _ _ (not-true _ t9.1);
      within = leb-true _ _ t10.1;
      inside = ltb-true _ _ t11.1;
    }

-- no fault of seven
none : {a b c d e f g : Bool} → a ≡ false → b ≡ false → c ≡ false → d ≡ false → e ≡ false → f ≡ false → g ≡ false → or_some false (a ∷ b ∷ c ∷ d ∷ e ∷ f ∷ g ∷ []) ≡ false
none ha hb hc hd he hf hg = rw (ha, hb, hc, hd, he, hf, hg)

-- an entry that passes
record Passed (m : ℕ) (s : Cut) (e : Entry) : Type 0 where
  kind : e.kind ≡ 2
  formed : ill_formed m e ≡ false
  number : parent_number e ≡ s.up / 32
  tag : parent_tag e ≡ s.a / 2 ^ 11 % 2 ^ 16
  nonce : e.nonce ≡ s.d % 2 ^ 32

number_in : (a u : ℕ) → a % 2 ^ 11 ≡ 0 → u < 2 ^ 27 → (a % 2 ^ 29 * 2 ^ 35 + u) % 2 ^ 46 ≡ u
number_in a u h l = omega arith

tag_in : (a u : ℕ) → u < 2 ^ 27 → (a % 2 ^ 29 * 2 ^ 35 + u) / 2 ^ 46 % 2 ^ 16 ≡ a / 2 ^ 11 % 2 ^ 16
tag_in a u l = omega arith

encoding_in : (a u : ℕ) → u < 2 ^ 27 → a / 2 ^ 27 % 4 ≡ 1 → (a % 2 ^ 29 * 2 ^ 35 + u) / 2 ^ 62 ≡ 1
encoding_in a u l h = omega arith

second_high : (hi up q : ℕ) → hi ≡ 0 → up % 32 ≡ 0 → q < 2 ^ 24 → (hi * 2 ^ 56 + up * 2 ^ 24 + q) / 2 ^ 29 ≡ up / 32
second_high hi up q a b c = omega arith

second_low : (hi up q : ℕ) → hi ≡ 0 → up % 32 ≡ 0 → q < 2 ^ 24 → (hi * 2 ^ 56 + up * 2 ^ 24 + q) % 2 ^ 29 ≡ q
second_low hi up q a b c = omega arith

third_high : (r x v : ℕ) → x < 2 ^ 8 → v < 2 ^ 48 → (r * 2 ^ 56 + x * 2 ^ 48 + v) / 2 ^ 61 ≡ r / 32
third_high r x v a b = omega arith

swapped-sum : (a b f w : ℕ) → a ≡ w * 32 → b ≡ 0 → f ≡ 0 → a * 2 ^ 40 + b * 2 ^ 32 + f ≡ w * 2 ^ 45
swapped-sum a b f w ha hb hf = omega arith

swapped_zero : (y z : ℕ) → y % 32 ≡ 0 → y / 256 ≡ 0 → z ≡ 0 → swapped y z ≡ y / 32 * 2 ^ 45
swapped_zero y z a b c =
    let y0 : y % 256 ≡ y / 32 * 32 = omega (arith, a, b) in
    swapped-sum (y % 256) (y / 256) (z % 256 * 2 ^ 24 + z / 256 % 256 * 2 ^ 16 + z / 65536 % 256 * 2 ^ 8 + z / 16777216) (y / 32) y0 b (rw c)

third_low : (r x v w : ℕ) → v ≡ w * 2 ^ 45 → (r * 2 ^ 56 + x * 2 ^ 48 + v) % 2 ^ 45 ≡ 0
third_low r x v w a = omega arith

shift_out : (l : ℕ) → l / 256 * 8 + l % 256 / 32 ≡ l / 32
shift_out l = omega arith

few : (u : ℕ) → u < 2 ^ 32 → u / 32 < 2 ^ 27
few u h = omega arith

flag_0 : (d : ℕ) → d / 2 ^ 48 % 8 ≡ 0 → d / 2 ^ 48 % 2 ≡ 1 → ⊥
flag_0 d h q = omega arith

flag_1 : (d : ℕ) → d / 2 ^ 48 % 8 ≡ 0 → d / 2 ^ 49 % 2 ≡ 1 → ⊥
flag_1 d h q = omega arith

flag_2 : (d : ℕ) → d / 2 ^ 48 % 8 ≡ 0 → d / 2 ^ 50 % 2 ≡ 1 → ⊥
flag_2 d h q = omega arith

passed : (m room : ℕ) (s : Cut) → Bounded s → passes m room s ≡ true → Passed m s (entry_of (words_number (cut_words s)))
unfolding indirect_read
passed m room s b h =
    let t = tests m room s h in
    let w = cut_words s in
    let o : Entry = indirect_read w (end_from 2 (unpack end_widths s.d)) in
    let same : o ≡ entry_of (words_number w) = indirect_at w (bounded_fit s b) t.kind in
    let q-lt = small s.len b.len in
    let u : w.b / 2 ^ 29 ≡ s.up / 32 = second_high s.hi s.up (s.len / 256) t.hi t.up q-lt in
    let u_lt : w.b / 2 ^ 29 < 2 ^ 27 = rw u (few s.up b.up) in
    let long : w.b % 2 ^ 29 * 8 + w.c / 2 ^ 61 ≡ s.len / 32 =
    rw (second_low s.hi s.up (s.len / 256) t.hi t.up q-lt, third_high (s.len % 256) s.x (swapped s.y s.z) b.x (swapped_lt s.y s.z b.y b.z)) (shift_out s.len) in
    let zeros : w.c % 2 ^ 45 * 1024 + w.d / 2 ^ 54 ≡ 0 = rw (third_low (s.len % 256) s.x (swapped s.y s.z) (s.y / 32) (swapped_zero s.y s.z t.y t.y_high t.z), t.above) in
    let formed : ill_formed m o ≡ false =
    ill_as m o refl ∙ none
    (ne_eqb o.length 0 (λ q. t.long (sym long ∙ q)))
    (le-ltb m (o.base + o.length) (rw long t.within))
    (ne_eqb (s.d / 2 ^ 48 % 2) 1 (flag_0 s.d t.flags))
    (ne_eqb (s.d / 2 ^ 50 % 2) 1 (flag_2 s.d t.flags))
    (ne_eqb (s.d / 2 ^ 49 % 2) 1 (flag_1 s.d t.flags))
    (ap not (eq-eqb o.zeros 0 zeros))
    (ap not (eq-eqb (o.parent / 2 ^ 62) 1 (encoding_in s.a (w.b / 2 ^ 29) u_lt t.encoding))) in
    record {
      kind = ap (λ (e : Entry). e.kind) (sym same);
      formed = ap (ill_formed m) (sym same) ∙ formed;
      number = ap parent_number (sym same) ∙ rw div-one (number_in s.a (w.b / 2 ^ 29) t.high u_lt ∙ u);
      tag = ap parent_tag (sym same) ∙ tag_in s.a (w.b / 2 ^ 29) u_lt;
      nonce = ap (λ (e : Entry). e.nonce) (sym same) ∙ rw div-one;
    }

-- a difference below n tells two fields
difference : (x d t n : ℕ) → t < 2 ^ 16 → n < 2 ^ 32 → (x + t * 4294967296) % 2 ^ 64 ≡ d % 2 ^ 48 → x < n → (d / 2 ^ 32 % 2 ^ 16 ≡ t) × (d % 2 ^ 32 < n)
difference x d t n ht hn h l = (omega arith, omega arith)

-- and one below 2^62 tells two types
two_types : (y a : ℕ) → (y + 2 ^ 61) % 2 ^ 64 ≡ a → y < 2 ^ 62 → (a / 2 ^ 61 ≡ 0 → ⊥) × (a / 2 ^ 61 ≡ 3 → ⊥)
two_types y a h l = (λ z. omega arith, λ z. omega arith)

pub above-told : (p s : Cut) (x y : ℕ) → (x + s.a / 2 ^ 11 % 2 ^ 16 * 4294967296) % 2 ^ 64 ≡ p.d % 2 ^ 48 → (y + 2 ^ 61) % 2 ^ 64 ≡ p.a → (ltb y (2 ^ 62) && ltb x (s.d % 2 ^ 32)) ≡ true → Above p s
above-told p s x y h i b =
    let two = both _ _ b in
    let type = two_types y p.a i (ltb-true _ _ two.0) in
    let q = difference x p.d (s.a / 2 ^ 11 % 2 ^ 16) (s.d % 2 ^ 32) (mod-lt (s.a / 2 ^ 11) (pow_pos 16)) (mod-lt s.d (pow_pos 32)) h (ltb-true _ _ two.1) in
    record { full = type.0; here = type.1; tagged = q.0; older = q.1 }

-- a link, from what stands in the parts
link-holds : (p e : Entry) → (p.kind ≡ 0 → ⊥) → (p.kind ≡ 3 → ⊥) → p.tag ≡ parent_tag e → p.nonce < e.nonce → links p e ≡ true
link-holds p e a o b c = rw (ne_eqb p.kind 0 a, ne_eqb p.kind 3 o, eq-eqb p.tag (parent_tag e) b, lt-ltb p.nonce e.nonce c)

-- the parts are those of the entry at a byte
abbrev pub Parted : List ℕ → ℕ → Cut → Type 0
Parted t byte s = Bounded s × (entry_of (words_number (cut_words s)) ≡ at t (byte / 32))

-- a walk that has come from entry n to the entry at a byte, whose parts are s
pub record Climbing (m : ℕ) (t : List ℕ) (n room byte : ℕ) (s : Cut) : Type 0 where
  pub whole : byte % 32 ≡ 0
  pub inside : byte + 32 ≤ length t
  pub parts : Parted t byte s
  pub same : line_of m t n ≡ line_of m t (byte / 32)
  pub here : is_paged (at t (byte / 32)) ≡ false
  pub bytes : room ≡ length t / 32 * 32

pub whole_at : (n : ℕ) → 32 * n % 32 ≡ 0
whole_at n = omega arith

pub climb-start : (m : ℕ) (t : List ℕ) (n : ℕ) (s : Cut) → 32 * n + 32 ≤ length t → is_paged (at t n) ≡ false → Parted t (32 * n) s → Climbing m t n (length t / 32 * 32) (32 * n) s
climb-start m t n s h o p =
    let back : 32 * n / 32 ≡ n = omega arith in
    record { whole = omega arith; inside = h; parts = p; same = ap (line_of m t) (sym back); here = rw back o; bytes = refl }

module _ (m : ℕ) (t : List ℕ) (n room byte : ℕ) (s : Cut) (inv : Climbing m t n room byte s) where
  pub climb-number : 32 * (byte / 32) + 32 ≤ length t
  climb-number = let w = inv.whole in let i = inv.inside in omega arith

  module _ (f : Bool) (qf : f ≡ passes m room s) (hf : f ≡ true) where
    pub climb_in : (s.up % 32 ≡ 0) × (s.up + 32 ≤ length t)
    climb_in =
        let u = tests m room s (sym qf ∙ hf) in
        let z = u.up in let l = u.inside in let r = inv.bytes in
        (z, omega arith)

    as_passed : Passed m s (entry_of (words_number (cut_words s)))
    as_passed = passed m room s inv.parts.0 (sym qf ∙ hf)

    module _ (p : Cut) (parts : Parted t s.up p) (g : Bool) (qg : g ≡ true → Above p s) (hg : g ≡ true) where
      cut-linked : linked t (entry_of (words_number (cut_words s))) ≡ true
      cut-linked =
          let up = qg hg in
          let sh = shared-read (cut_words p) (bounded_fit p parts.0) in
          let o : Entry = entry_of (words_number (cut_words p)) in
          let kind : p.a / 2 ^ 61 ≡ o.kind = ap (λ (x : Entry). x.kind) sh in
          let tag : p.d / 2 ^ 32 % 2 ^ 16 ≡ o.tag = ap (λ (x : Entry). x.tag) sh in
          let ν : p.d % 2 ^ 32 ≡ o.nonce = ap (λ (x : ℕ). x % 2 ^ 32) (sym (div-one p.d)) ∙ ap (λ (x : Entry). x.nonce) sh in
          ap (λ (x : ℕ). links (at t x) (entry_of (words_number (cut_words s)))) as_passed.number
          ∙ ap (λ (x : Entry). links x (entry_of (words_number (cut_words s)))) (sym parts.1)
          ∙ link-holds o (entry_of (words_number (cut_words s))) (λ q. up.full (kind ∙ q)) (λ q. up.here (kind ∙ q)) (sym tag ∙ up.tagged ∙ sym as_passed.tag) (rw (← ν, as_passed.nonce) up.older)

      pub climb_less : (at t (s.up / 32)).nonce < (at t (byte / 32)).nonce
      climb_less = rw (← as_passed.number, ← inv.parts.1) (linked-older t (entry_of (words_number (cut_words s))) cut-linked)

      pub climb_up : Climbing m t n room s.up p
      climb_up =
          let two = as_passed.kind in
          record {
            whole = climb_in.0;
            inside = climb_in.1;
            parts = parts;
            same = walk_up m t n (byte / 32) (entry_of (words_number (cut_words s))) false inv.same inv.parts.1 (sym as_passed.formed) inv.here true (s.up / 32) (sym cut-linked) (sym as_passed.number) refl (λ q. absurd (omega (arith, two, q))) refl;
            here = rw (← as_passed.number) (linked-here t (entry_of (words_number (cut_words s))) cut-linked);
            bytes = inv.bytes;
          }
