-- Digits and records, stored one after the other.
-- Assumes nothing.
use Rattle.std.proofs.Common.{◌≡◌, ℕ, suc, ◌+◌, ◌-◌, ◌*◌, ◌/◌, ◌%◌, ◌<◌, ◌≤◌, min, List, [], ◌∷◌, ◌++◌, length, get_or, take, drop, set, sym, refl, ap, ◌∙◌, append_assoc, append-nil, add-zero, add-one, arith, length-append, length-set, drop_of_length-le, length-take, take_all, drop-cons, take-suc, le-ltb, lt-ltb}
use lib.Seq.{drop_at, sets, take_at}
use Rattle.hexfile.specs.Record.{sum}
use Rattle.hexfile.specs.Written.{capital, checksum, data_records, digits, fields, line_of, many, record_of, written}
use Rattle.hexwrite.specs.Laid.{Laid}
use Rattle.hexfile.proofs.WrittenLaws.{length_data, length_digits, length_record}

-- ---- one after the other

sets_append : (xs : List ℕ) (i : ℕ) (us bs : List ℕ) → sets (sets xs i us) (i + length us) bs ≡ sets xs i (us ++ bs)
sets_append xs i [] bs = rw add-zero
sets_append xs i (a ∷ us) bs = let e : i + suc (length us) ≡ suc i + length us = omega arith in rw e (sets_append (set xs i a) (suc i) us bs)

pub sets_then : (xs : List ℕ) (i n : ℕ) (us bs : List ℕ) → n ≡ i + length us → sets (sets xs i us) n bs ≡ sets xs i (us ++ bs)
sets_then xs i n us bs e = rw e (sets_append xs i us bs)

pub digits_append : (us bs : List ℕ) → digits (us ++ bs) ≡ digits us ++ digits bs
digits_append [] bs = refl
digits_append (a ∷ us) bs = ap (λ l. capital (a / 16) ∷ capital (a % 16) ∷ l) (digits_append us bs)

pub laid_then : {a b c us vs : List ℕ} {i n : ℕ} → Laid a b i us → Laid b c n vs → n ≡ i + length us → Laid a c i (us ++ vs)
laid_then {a} {b} {c} {us} {vs} {i} {n} p q e = record { kept = q.kept ∙ p.kept; laid = q.laid ∙ rw p.laid (sets_then a i n us vs e) }

-- ---- digits

pub capital_tens : (d : ℕ) → d < 10 → 48 + d ≡ capital d
unfolding capital
capital_tens d h = rw (lt-ltb d 10 h)

pub capital_letters : (d : ℕ) → 10 ≤ d → 55 + d ≡ capital d
unfolding capital
capital_letters d h = rw (le-ltb d 10 h)

pub ruleset capital-cases = (capital_tens, capital_letters)

pub char_put : (xs : List ℕ) (at c : ℕ) → Laid xs (set xs at c) at (c ∷ [])
char_put xs at c = record { kept = length-set xs at c; laid = refl }

pub byte_put : (n : ℕ) {a b c : List ℕ} {at h l : ℕ} → h ≡ capital (n / 16) → l ≡ capital (n % 16) → Laid a b at (h ∷ []) → Laid b c (at + 1) (l ∷ []) → Laid a c at (digits (n ∷ []))
byte_put n {a} {b} {c} {at} p q x y = rw (← p, ← q) (laid_then x y (omega arith))

pub record Put (xs bs out : List ℕ) (at i : ℕ) : Type 0 where
  pub within : i ≤ length bs
  pub same : length out ≡ length xs
  pub done : Laid xs out at (digits (take i bs))

pub put-start : (xs bs : List ℕ) (at : ℕ) → Put xs bs xs at 0
put-start xs bs at = record { within = omega arith; same = refl; done = record { kept = refl; laid = refl } }

pub put_more : {xs bs out ys : List ℕ} {at i : ℕ} → Put xs bs out at i → i < length bs → Laid out ys (at + 2 * i) (digits (get_or bs i 0 ∷ []))
    → Put xs bs ys at (i + 1)
put_more {xs} {bs} {out} {ys} {at} {i} p h e =
    let l = length-take i bs in
    let d = length_digits (take i bs) in
    record {
      within = omega arith;
      same = e.kept ∙ p.same;
      done = rw (add-one i, take-suc bs i 0 h, digits_append (take i bs) (get_or bs i 0 ∷ [])) (laid_then p.done e (omega arith));
    }

pub put_done : {xs bs out : List ℕ} {at i : ℕ} → Put xs bs out at i → length bs ≤ i → Laid xs out at (digits bs)
put_done {xs} {bs} {out} {at} {i} p h = rw (take_all i bs h) at p.done

pub ruleset put-cases = (put-start, put_more, put_done)

-- ---- sums

-- the bytes before i are summed
pub record Total (bs : List ℕ) (total i : ℕ) : Type 0 where
  pub within : i ≤ length bs
  pub small : total < 256
  pub rest : (total + sum (drop i bs)) % 256 ≡ sum bs % 256

pub total-start : (bs : List ℕ) → Total bs 0 0
total-start bs = record { within = omega arith; small = omega arith; rest = omega arith }

pub total_more : {bs : List ℕ} {total i v : ℕ} → Total bs total i → i < length bs → v ≡ (total + get_or bs i 0) % 256 → Total bs v (i + 1)
total_more {bs} {total} {i} {v} t h q =
    let e : sum (drop i bs) ≡ get_or bs i 0 + sum (drop (suc i) bs) = ap sum (drop-cons bs i 0 h) in
    record { within = omega arith; small = omega arith; rest = rw (add-one i) (omega (arith, t.rest)) }

pub total_done : {bs : List ℕ} {total i : ℕ} → Total bs total i → length bs ≤ i → total ≡ sum bs % 256
total_done {bs} {total} {i} t h =
    let none : drop i bs ≡ [] = drop_of_length-le bs {i = i} h in
    let r = rw none at t.rest in
    let b = t.small in
    omega arith

pub ruleset total-cases = (total-start, total_more, total_done)

-- ---- records

-- the characters before the data
abbrev pub head : ℕ → ℕ → ℕ → List ℕ
head t a n = 58 ∷ digits (n ∷ a / 256 ∷ a % 256 ∷ t ∷ [])

pub head-put : (t w n : ℕ) {xs a b c d e : List ℕ} {at : ℕ} → Laid xs a at (58 ∷ []) → Laid a b (at + 1) (digits (n ∷ [])) → Laid b c (at + 3) (digits (w / 256 ∷ []))
    → Laid c d (at + 5) (digits (w % 256 ∷ [])) → Laid d e (at + 7) (digits (t ∷ [])) → Laid xs e at (head t w n)
head-put t w n {xs} {a} {b} {c} {d} {e} {at} p q r s u = laid_then (laid_then (laid_then (laid_then p q (omega arith)) r (omega arith)) s (omega arith)) u (omega arith)

-- its checksum
check_made : (t a s : ℕ) (bs : List ℕ) → s ≡ sum bs % 256 → (256 - (length bs + a / 256 + a % 256 + t + s) % 256) % 256 ≡ checksum (fields t a bs)
check_made t a s bs e = omega arith

pub record_put : (bs : List ℕ) (t w n k s : ℕ) {xs a b c d : List ℕ} {at : ℕ} → n ≡ length bs → s ≡ sum bs % 256 → k ≡ (256 - (n + w / 256 + w % 256 + t + s) % 256) % 256 → Laid xs a at (head t w n) → Laid a b (at + 9) (digits bs)
    → Laid b c (at + 9 + 2 * n) (digits (k ∷ [])) → Laid c d (at + 11 + 2 * n) (10 ∷ []) → Laid xs d at (record_of t w bs)
unfolding line_of
record_put bs t w n k s {xs} {a} {b} {c} {d} {at} en es e p q r f =
    let ek : k ≡ checksum (fields t w bs) = e ∙ (rw en (check_made t w s bs es)) in
    let l = length_digits bs in
    let m = length-append (head t w n) (digits bs) in
    let m' = length-append (head t w n ++ digits bs) (digits (k ∷ [])) in
    let all : Laid xs d at (((head t w n ++ digits bs) ++ digits (k ∷ [])) ++ (10 ∷ [])) = laid_then (laid_then (laid_then p q (omega arith)) r (omega arith)) f (omega arith) in
    let same : ((head t w n ++ digits bs) ++ digits (k ∷ [])) ++ (10 ∷ []) ≡ record_of t w bs = rw (ek, en, digits_append bs (checksum (fields t w bs) ∷ [])) in
    rw same at all

-- ---- the text

no_records : (a : ℕ) (bs : List ℕ) → data_records 0 a bs ≡ []
unfolding data_records
no_records a bs = refl

-- what is left of the bytes after i records, each of 16, is still to be written
pub record Writing (xs bs rest out : List ℕ) (start i : ℕ) : Type 0 where
  pub front : List ℕ
  pub same : length out ≡ length xs
  pub done : Laid xs out start front
  pub left : front ++ data_records (many (length rest)) (16 * i) rest ≡ data_records (many (length bs)) 0 bs
  pub places : 0 < length rest → (length front ≡ 44 * i) × (16 * i + length rest ≡ length bs)

pub writing_start : (xs bs : List ℕ) (start : ℕ) → Writing xs bs bs xs start 0
writing_start xs bs start =
    record {
      front = [];
      same = refl;
      done = record { kept = refl; laid = refl };
      left = refl;
      places = λ h. (omega arith, omega arith);
    }

-- the next sixteen bytes, or fewer if they are the last
module _ (part rest : List ℕ) (e : length part ≡ min 16 (length (part ++ rest))) where
  next_taken : take 16 (part ++ rest) ≡ part
  next_taken = by rest e
    where
      by : (rest : List ℕ) → length part ≡ min 16 (length (part ++ rest)) → take 16 (part ++ rest) ≡ part
      by [] e = let l = length-append part [] in rw append-nil (take_all 16 part (omega arith))
      by (c ∷ cs) e = let l = length-append part (c ∷ cs) in let k : 16 ≡ length part = omega arith in rw k (take_at part (c ∷ cs) (length part) refl)

  next_left : drop 16 (part ++ rest) ≡ rest
  next_left = by rest e
    where
      by : (rest : List ℕ) → length part ≡ min 16 (length (part ++ rest)) → drop 16 (part ++ rest) ≡ rest
      by [] e = let l = length-append part [] in rw append-nil (drop_of_length-le part {i = 16} (omega arith))
      by (c ∷ cs) e = let l = length-append part (c ∷ cs) in let k : 16 ≡ length part = omega arith in rw k (drop_at part (c ∷ cs) (length part) refl)

  next_step : (a : ℕ) → 0 < length (part ++ rest) → data_records (many (length (part ++ rest))) a (part ++ rest) ≡ record_of 0 a part ++ data_records (many (length rest)) (a + 16) rest
  unfolding data_records
  next_step a h =
      let l = length-append part rest in
      let q : many (length (part ++ rest)) ≡ suc (many (length rest)) = omega arith in
      rw (q, next_taken, next_left)

writing_step : {xs bs rest out ys : List ℕ} {start i : ℕ} (part : List ℕ) → Writing xs bs (part ++ rest) out start i → length part ≡ min 16 (length (part ++ rest)) → 0 < length (part ++ rest)
    → Laid out ys (start + 44 * i) (record_of 0 (16 * i) part) → Writing xs bs rest ys start (i + 1)
writing_step {xs} {bs} {rest} {out} {ys} {start} {i} part w e h l =
    let p = w.places h in
    let f = p.0 in
    let g = p.1 in
    let n = length-append part rest in
    let r = length_record 0 (16 * i) part in
    let b = length-append w.front (record_of 0 (16 * i) part) in
    let z : 16 * i + 16 ≡ 16 * (i + 1) = omega arith in
    record {
      front = w.front ++ record_of 0 (16 * i) part;
      same = l.kept ∙ w.same;
      done = laid_then w.done l (omega arith);
      left = rw (← z) (append_assoc w.front (record_of 0 (16 * i) part) (data_records (many (length rest)) (16 * i + 16) rest) ∙ (rw (next_step part rest e (16 * i) h) at w.left));
      places = λ q. (omega arith, omega arith);
    }

pub writing_more : {xs bs rest next out ys : List ℕ} {start i j k m : ℕ} (part : List ℕ) → Writing xs bs rest out start i → m ≡ 16 → rest ≡ part ++ next → length part ≡ min m (length rest) → 0 < length rest → j ≡ i → k ≡ i + 1
    → Laid out ys (start + 44 * j) (record_of 0 (16 * j) part) → Writing xs bs next ys start k
writing_more part w m e n h p q l = rw q (writing_step part (rw e at w) (rw (m, e) at n) (rw e at h) (rw p at l))

pub writing_done : {xs bs rest out : List ℕ} {start i : ℕ} → Writing xs bs rest out start i → length rest ≡ 0 → Laid xs out start (data_records (many (length bs)) 0 bs)
writing_done {xs} {bs} {rest} {out} {start} {i} w h =
    let z : many (length rest) ≡ 0 = omega arith in
    let r : w.front ≡ data_records (many (length bs)) 0 bs = sym (append-nil w.front) ∙ ap (λ l. w.front ++ l) (sym none) ∙ (rw z at w.left) in
    rw r at w.done
  where
    none : data_records 0 (16 * i) rest ≡ []
    none = no_records (16 * i) rest

pub text-put : (bs : List ℕ) {n : ℕ} {xs a b c : List ℕ} → n ≡ length bs / 16 + min 1 (length bs % 16) → Laid xs a 0 (record_of 4 0 (0 ∷ 0 ∷ [])) → Laid a b 16 (data_records (many (length bs)) 0 bs)
    → Laid b c (16 + 2 * length bs + 12 * n) (record_of 1 0 []) → Laid xs c 0 (written bs)
unfolding written
text-put bs {n} e p q r =
    let m : n ≡ many (length bs) = omega arith in
    let f = length_record 4 0 (0 ∷ 0 ∷ []) in
    let d = length_data (many (length bs)) 0 bs refl in
    let l = length-append (record_of 4 0 (0 ∷ 0 ∷ [])) (data_records (many (length bs)) 0 bs) in
    rw (append_assoc (record_of 4 0 (0 ∷ 0 ∷ [])) (data_records (many (length bs)) 0 bs) (record_of 1 0 [])) at (laid_then (laid_then p q (omega arith)) r (omega arith))
