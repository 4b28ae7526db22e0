-- Where a request stops (01, "Where a request stops"): the refusals and their numbers, and for each request its checks in the order of 01's table, each
-- with what must hold and the refusal that is given if it does not.
-- Assumes nothing.
use Rattle.std.specs.Prelude.{Bool, not, List, [], ◌∷◌, ◌++◌, ℕ, ◌+◌, ◌%◌, ◌^◌, eqb, leb, ltb, drop, length, take}
use Rattle.hexfile.specs.Text.{farthest}
use Rattle.layout.specs.declared.entry.Entry.{Entry}
use Rattle.leases.specs.Lease.{all_sound, few, is_open, leases_of, week, whole}
use Rattle.tokens.specs.Permissions.{within, X}
use Rattle.tokens.specs.Token.{named}
use Rattle.machine.specs.Images.{pieces_of, spares, text_short}
use Rattle.machine.specs.Issuing.{new_number}
use Rattle.machine.specs.Line.{ancestor, Bad, bad_of, is_dead, is_ill, is_locked, is_paged, itself, line_of, locked_from, owner_of}
use Rattle.machine.specs.Operations.{book, entire, Fill, front, Grant, grant, named_entry, number_of, unfilled}
use Rattle.machine.specs.Parts.{at, least_entries, most_entries, most_free, most_memory, size, spent, State}
use Rattle.machine.specs.Requests.{Access, accessing, clone, create, derive, dumping, execute_only, loading, lock, Look, look, merge, moving, page_in, page_out, release, Request, reset, revoke, right_for, Shift, unlock}

-- ---- the refusals

-- Each is named by its place in 01's table, and after those by what 02 says of it; 3 and 4 tell which entry was bad.
pub data Refusal : Type 0 where
  at_request : Refusal
  at_entry : Refusal
  at_form : Bad → Refusal
  at_line : Bad → Refusal
  at_lock : Refusal
  at_kind : Refusal
  at_right : Refusal
  at_bounds : Refusal
  at_standing : Refusal
  at_numbers : Refusal
  at_nonces : Refusal
  at_record : Refusal
  at_checksum : Refusal
  at_room : Refusal
  at_window : Refusal
  at_lease : Refusal
  at_paged : Refusal

-- the column "No." of 01's table; 02, paper 2: "12 a malformed record or ending", "13 a wrong checksum", "14 an output buffer too small or a written text above
-- 65,536 bytes"; paper 4: "15 closed", "16 a lease whose minutes are equal or either is beyond the week"; paper 6: "17 a paged entry in any operation but 'in'"
abbrev pub refusal_number : Refusal → ℕ
refusal_number at_request = 1
refusal_number at_entry = 2
refusal_number (at_form b) = 3
refusal_number (at_line b) = 4
refusal_number at_lock = 5
refusal_number at_kind = 6
refusal_number at_right = 7
refusal_number at_bounds = 8
refusal_number at_standing = 9
refusal_number at_numbers = 10
refusal_number at_nonces = 11
refusal_number at_record = 12
refusal_number at_checksum = 13
refusal_number at_room = 14
refusal_number at_window = 15
refusal_number at_lease = 16
refusal_number at_paged = 17

-- the named entry is 1, an ancestor 2; a refusal that tells of no entry has 0
abbrev pub bad_number : Bad → ℕ
bad_number itself = 1
bad_number ancestor = 2

abbrev pub refusal_bad : Refusal → ℕ
refusal_bad at_request = 0
refusal_bad at_entry = 0
refusal_bad (at_form b) = bad_number b
refusal_bad (at_line b) = bad_number b
refusal_bad at_lock = 0
refusal_bad at_kind = 0
refusal_bad at_right = 0
refusal_bad at_bounds = 0
refusal_bad at_standing = 0
refusal_bad at_numbers = 0
refusal_bad at_nonces = 0
refusal_bad at_record = 0
refusal_bad at_checksum = 0
refusal_bad at_room = 0
refusal_bad at_window = 0
refusal_bad at_lease = 0
refusal_bad at_paged = 0

-- what must hold, and the refusal that is given if it does not
pub record Check : Type 0 where
  pub holds : Bool
  pub refusal : Refusal

abbrev pub need : Refusal → Bool → Check
need r b = record { holds = b; refusal = r }

-- several facts with one refusal
abbrev pub need_all : Refusal → List Bool → List Check
need_all r [] = []
need_all r (b ∷ bs) = need r b ∷ need_all r bs

-- ---- place 1: the request

-- "a size or setting above is broken": memory, table
abbrev pub sizes : ℕ → List ℕ → List Bool
sizes m t = leb 1 m ∷ leb m most_memory ∷ eqb (length t % 32) 0 ∷ leb least_entries (size t) ∷ leb (size t) most_entries ∷ []

-- and state, which every request but reset takes; 02, paper 3: "the total may not exceed entries minus one, else refusal 1"
abbrev pub settings : State → List ℕ → List Bool
settings s t = ltb s.last (size t) ∷ leb 1 s.next ∷ leb s.next spent ∷ leb s.total (most_free t) ∷ []

-- "task 2^55 or more"
abbrev pub task_fits : ℕ → Bool
task_fits u = ltb u (2 ^ 55)

-- "lock or unlock with task 0 (task 0 means none)"
abbrev pub some_task : ℕ → Bool
some_task u = not (eqb u 0)

-- "an offset in the token of any request but an access"
abbrev pub no_offset : ℕ → Bool
no_offset k = eqb (named k).offset 0

-- "encoding above 3; permissions above 7"
abbrev pub encoding_fits : ℕ → Bool
encoding_fits c = leb c 3

abbrev pub permissions_fit : ℕ → Bool
permissions_fit p = leb p 7

-- "create or derive length 0"
abbrev pub some_length : ℕ → Bool
some_length l = not (eqb l 0)

-- The user is a 64-bit mark. 01's table does not list this, and no 64-bit request can reach it; the definitions are over all numbers, and a larger
-- user would not fit its field.
abbrev pub user_fits : ℕ → Bool
user_fits u = ltb u (2 ^ 64)

-- and so is the page-file number of paper 6
abbrev pub page_fits : ℕ → Bool
page_fits f = ltb f (2 ^ 64)

-- "1 to 4,096 bytes"
abbrev pub transfer_fits : List ℕ → List Bool
transfer_fits b = leb 1 (length b) ∷ leb (length b) 4096 ∷ []

-- "Reset takes a key and a first nonce (1 to 4,294,967,295)."
abbrev pub first_nonce_fits : ℕ → List Bool
first_nonce_fits ν = leb 1 ν ∷ ltb ν spent ∷ []

-- ---- 12 and 13, "both after place 1"

-- The text is judged as a whole, "the earlier record first and 12 before 13 in one record": it comes to at most one of the two.
abbrev pub text_read : List ℕ → List Check
text_read b = need at_record (spares 12 b) ∷ need at_checksum (spares 13 b) ∷ []

-- ---- places 2 to 5: the entry, its line, the lock

-- "number beyond the table, free, or another tag"
abbrev pub is_named : List ℕ → ℕ → List Bool
is_named t k = ltb (number_of k) (size t) ∷ not (eqb (named_entry t k).kind 0) ∷ eqb (named_entry t k).tag (named k).tag ∷ []

abbrev pub entry_named : List ℕ → ℕ → List Check
entry_named t k = need_all at_entry (is_named t k)

-- 02, paper 6: "17 a paged entry in any operation but 'in', after its tag matched"
abbrev pub not_paged : List ℕ → ℕ → Check
not_paged t k = need at_paged (not (is_paged (named_entry t k)))

-- "an entry met is ill-formed"
abbrev pub line_formed : ℕ → List ℕ → ℕ → Check
line_formed m t k = let l = line_of m t (number_of k) in need (at_form (bad_of (number_of k) l)) (not (is_ill l))

-- "dead; drop skips this"
abbrev pub line_alive : ℕ → List ℕ → ℕ → Check
line_alive m t k = let l = line_of m t (number_of k) in need (at_line (bad_of (number_of k) l)) (not (is_dead l))

-- "locked for another task: access, create, merge, lock, unlock"; of 02 load, dump, paging out and in
abbrev pub lock_open : ℕ → List ℕ → ℕ → ℕ → Check
lock_open m t k u = need at_lock (not (locked_from t u (line_of m t (number_of k))))

-- places 2 and 3 for a token, with 17 between them, 2 to 4, and 2 to 5
abbrev pub formed : ℕ → List ℕ → ℕ → List Check
formed m t k = entry_named t k ++ (not_paged t k ∷ line_formed m t k ∷ [])

abbrev pub live : ℕ → List ℕ → ℕ → List Check
live m t k = formed m t k ++ (line_alive m t k ∷ [])

abbrev pub reachable : ℕ → List ℕ → ℕ → ℕ → List Check
reachable m t k u = live m t k ++ (lock_open m t k u ∷ [])

-- places 2 to 5 for a token that may name a paged entry: those of "in"
abbrev pub page_reachable : ℕ → List ℕ → ℕ → ℕ → List Check
page_reachable m t k u = entry_named t k ++ (line_formed m t k ∷ line_alive m t k ∷ lock_open m t k u ∷ [])

-- ---- places 6 to 11

-- "create, merge, revoke of an indirect entry"; 02, paper 6: of what goes out, and of a donor
abbrev pub is_direct : Entry → Bool
is_direct e = eqb e.kind 1

-- "a permission, X or Lockable is lacking"
abbrev pub rights_held : ℕ → Entry → Check
rights_held p e = need at_right (within p e.permissions)

-- "outside the segment, derive's sum, or not neighbours in order": what ends so many bytes after the base lies inside; the second begins where the
-- first ends
abbrev pub ends_inside : ℕ → Entry → Check
ends_inside n e = need at_bounds (leb n e.length)

abbrev pub neighbours : Entry → Entry → Check
neighbours d e = need at_bounds (eqb e.base (d.base + d.length))

-- 02, paper 6: "of equal length (else 8)": the segment of e has so many bytes
abbrev pub as_long : ℕ → Entry → Check
as_long n e = need at_bounds (eqb n e.length)

-- "create or merge when locked or count not 0"; 02, paper 6: "Entry and donor must be unlocked at count 0"
abbrev pub unlocked : Entry → Bool
unlocked e = not e.locked

abbrev pub uncounted : Entry → Bool
uncounted e = eqb e.count 0

-- "derive, execute-only, clone at 65,535; drop at 0"
abbrev pub below_top : Entry → Check
below_top e = need at_standing (ltb e.count 65535)

abbrev pub above_zero : Entry → Check
above_zero e = need at_standing (not (eqb e.count 0))

-- "no free number for create, derive, execute-only", and for what goes out; 02, paper 3: "refusal 10 still goes by the table"
abbrev pub number_left : State → List ℕ → Check
number_left s t = need at_numbers (not (eqb (new_number s t) 0))

-- what derive and execute-only ask of the parent e and the table
abbrev pub bearing : State → List ℕ → Entry → List Check
bearing s t e = below_top e ∷ number_left s t ∷ []

-- "too few left, those to be passed over not counted": the writes of the grant leave a next nonce that is a setting
abbrev pub nonces_left : State → List ℕ → Grant → Check
nonces_left s t g = need at_nonces (leb (book s t g).state.next spent)

-- ---- the checks of each request

-- by their places: 1, what the request itself is judged for; what 02 puts after it; 2 to 5, its tokens, and 15; 6 to 10, the rest
pub record Places : Type 0 where
  pub request : List Bool
  pub after : List Check
  pub tokens : List Check
  pub rest : List Check

-- what an access is judged for by its kind, at an offset into the segment of e: in place 1, after it, and for the bounds
pub record Asked : Type 0 where
  pub request : List Bool
  pub after : List Check
  pub bounds : List Check

-- 02, paper 2: "Loads and dumps [..] use the access checks without the transfer limit", "through one offset-free token". "every record's bounds": all data lie inside
-- if what ends last does; "a data record without bytes [..] can't be out of bounds". A dump is of the whole segment, which has no bounds to pass.
abbrev pub asks : Access → (offset : ℕ) → (buffer : List ℕ) → Entry → Asked
asks (moving w) o b e = record { request = transfer_fits b; after = []; bounds = ends_inside (o + length b) e ∷ [] }
asks loading o b e = record { request = eqb o 0 ∷ text_short b ∷ []; after = text_read b; bounds = ends_inside (farthest (pieces_of b)) e ∷ [] }
asks dumping o b e = record { request = eqb o 0 ∷ []; after = []; bounds = [] }

-- of a look, which is judged by the table, and not by the state but for its settings
abbrev pub look_places : ℕ → List ℕ → Look → List ℕ → Places
look_places m t v b = elim v [ ]

-- those that do not look at a shift: all but what paper 4 puts to an access
abbrev pub unleased : ℕ → State → List ℕ → Request → List ℕ → Places
unleased m s t (reset k0 k1 ν) b = record { request = first_nonce_fits ν; after = []; tokens = []; rest = [] }
unleased m s t (accessing w k u φ) b =
    let e = named_entry t k in
    let a = asks w (named k).offset b e in
    record { request = settings s t ++ (task_fits u ∷ a.request); after = a.after; tokens = reachable m t k u; rest = rights_held (right_for w) e ∷ a.bounds }
unleased m s t (create k u l x p c) b =
    let e = named_entry t k in
    record {
      request = settings s t ++ (task_fits u ∷ encoding_fits c ∷ permissions_fit p ∷ some_length l ∷ user_fits x ∷ no_offset k ∷ []);
      after = [];
      tokens = reachable m t k u;
      rest = need at_kind (is_direct e) ∷ rights_held p e ∷ ends_inside l e ∷ need at_standing (unlocked e) ∷ need at_standing (uncounted e) ∷ number_left s t ∷ [];
    }
-- "Places 2 to 5 are done for a merge's first token, then its second."
unleased m s t (merge j k u c) b =
    let d = named_entry t j in
    let e = named_entry t k in
    record {
      request = settings s t ++ (task_fits u ∷ encoding_fits c ∷ no_offset j ∷ no_offset k ∷ []);
      after = [];
      tokens = reachable m t j u ++ reachable m t k u;
      rest = need_all at_kind (is_direct d ∷ is_direct e ∷ []) ++ (neighbours d e ∷ need_all at_standing (unlocked d ∷ unlocked e ∷ uncounted d ∷ uncounted e ∷ []));
    }
-- 02, paper 1: "From now on length + offset may equal the segment's length."
unleased m s t (derive k o l p c) b =
    let e = named_entry t k in
    record {
      request = settings s t ++ (encoding_fits c ∷ permissions_fit p ∷ some_length l ∷ no_offset k ∷ []);
      after = [];
      tokens = live m t k;
      rest = rights_held p e ∷ ends_inside (l + o) e ∷ bearing s t e;
    }
unleased m s t (execute_only k c) b =
    let e = named_entry t k in
    record {
      request = settings s t ++ (encoding_fits c ∷ no_offset k ∷ []);
      after = [];
      tokens = live m t k;
      rest = rights_held X e ∷ bearing s t e;
    }
unleased m s t (clone k) b = record { request = settings s t ++ (no_offset k ∷ []); after = []; tokens = live m t k; rest = below_top (named_entry t k) ∷ [] }
unleased m s t (release k) b = record { request = settings s t ++ (no_offset k ∷ []); after = []; tokens = formed m t k; rest = above_zero (named_entry t k) ∷ [] }
-- "needs the owner's Lockable"
unleased m s t (lock k u) b =
    let owner = at t (owner_of (line_of m t (number_of k))) in
    record {
      request = settings s t ++ (task_fits u ∷ some_task u ∷ no_offset k ∷ []);
      after = [];
      tokens = reachable m t k u;
      rest = need at_right owner.lockable ∷ [];
    }
-- "unlock when unlocked"
unleased m s t (unlock k u) b = record {
  request = settings s t ++ (task_fits u ∷ some_task u ∷ no_offset k ∷ []);
  after = [];
  tokens = reachable m t k u;
  rest = need at_standing (is_locked t (line_of m t (number_of k))) ∷ [];
}
unleased m s t (revoke k c) b = record { request = settings s t ++ (encoding_fits c ∷ no_offset k ∷ []); after = []; tokens = live m t k; rest = need at_kind (is_direct (named_entry t k)) ∷ [] }
-- 02, paper 6: "Entry and donor must be unlocked at count 0; lock, kind, length (8), standing, numbers and nonces are checked in 01's order." No right is among
-- them.
unleased m s t (page_out k u f c) b =
    let e = named_entry t k in
    record {
      request = settings s t ++ (task_fits u ∷ encoding_fits c ∷ page_fits f ∷ no_offset k ∷ []);
      after = [];
      tokens = reachable m t k u;
      rest = need at_kind (is_direct e) ∷ as_long (length b) e ∷ need at_standing (unlocked e) ∷ need at_standing (uncounted e) ∷ number_left s t ∷ [];
    }
-- "a paged token, a buffer and a donor direct entry, all of equal length"; "A paged donor, or a first token not paged, is 6; two tokens go as a merge's."
unleased m s t (page_in j k u c) b =
    let e = named_entry t j in
    let d = named_entry t k in
    record {
      request = settings s t ++ (task_fits u ∷ encoding_fits c ∷ no_offset j ∷ no_offset k ∷ []);
      after = [];
      tokens = page_reachable m t j u ++ page_reachable m t k u;
      rest = need_all at_kind (is_paged e ∷ is_direct d ∷ []) ++ (as_long (length b) e ∷ as_long e.length d ∷ need_all at_standing (unlocked d ∷ uncounted d ∷ []));
    }
unleased m s t (look v) b = let p = look_places m t v b in record { request = settings s t ++ p.request; after = p.after; tokens = p.tokens; rest = p.rest }

-- ---- shift windows: 15, 16 and place 1 of an access

-- "a lent table of whole leases, at most 512 bytes, else 1"; "an access minute beyond the week is 1"
abbrev pub shift_fits : Shift → List Bool
shift_fits φ = whole φ.leases ∷ few φ.leases ∷ ltb φ.minute week ∷ []

-- "16 a lease whose minutes are equal or either is beyond the week": any of those that are lent
abbrev pub leases_sound : Shift → Check
leases_sound φ = need at_lease (all_sound (leases_of φ.leases))

-- "15 closed": the token, by its number and tag, at this minute
abbrev pub window_open : Shift → (token : ℕ) → Check
window_open φ k = need at_window (is_open (leases_of φ.leases) (number_of k) (named k).tag φ.minute)

-- what an access is judged for besides. 16 is "after place 1": "Later refusals put after the same place come by rising number", so behind 12 and 13; 15 is
-- "after the lock".
abbrev pub leased : Shift → (token : ℕ) → Places → Places
leased φ k p = record {
  request = p.request ++ shift_fits φ;
  after = p.after ++ (leases_sound φ ∷ []);
  tokens = p.tokens ++ (window_open φ k ∷ []);
  rest = p.rest;
}

-- "both accesses only"
abbrev pub shifted : Request → Places → Places
shifted (reset k0 k1 ν) p = p
shifted (accessing w k u φ) p = leased φ k p
shifted (create k u l x r c) p = p
shifted (merge j k u c) p = p
shifted (derive k o l r c) p = p
shifted (execute_only k c) p = p
shifted (clone k) p = p
shifted (release k) p = p
shifted (lock k u) p = p
shifted (unlock k u) p = p
shifted (revoke k c) p = p
shifted (page_out k u f c) p = p
shifted (page_in j k u c) p = p
shifted (look v) p = p

abbrev pub places : ℕ → State → List ℕ → Request → List ℕ → Places
places m s t q b = shifted q (unleased m s t q b)

-- "Checks run down this table." The sizes are judged for every request, and so is place 11: one that issues nothing needs no nonce.
abbrev pub in_order : ℕ → State → List ℕ → Grant → Places → List Check
in_order m s t g p = need_all at_request (sizes m t ++ p.request) ++ ((p.after ++ p.tokens) ++ (p.rest ++ (nonces_left s t g ∷ [])))

abbrev pub checks : ℕ → State → List ℕ → Request → List ℕ → List Check
checks m s t q b = in_order m s t (grant m t q b) (places m s t q b)

-- ---- 14, "last of all"

-- "14 an output buffer too small or a written text above 65,536 bytes": what a granted request makes for the front of the buffer b keeps to its limit, and has its
-- room there
abbrev pub room : (limit : List ℕ → Bool) (made buffer : List ℕ) → List Check
room limit o b = need_all at_room (limit o ∷ leb (length o) (length b) ∷ [])

-- the checks after all others: those of what fills the buffer, from the bytes of memory
abbrev pub lastly : Fill → (memory buffer : List ℕ) → List Check
lastly unfilled memory b = []
lastly (entire a n f) memory b = []
lastly (front a n f limit) memory b = room limit (f (take n (drop a memory))) b
