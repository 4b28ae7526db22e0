-- What a granted request does (01, "Operations"): the writes into state and table, and an effect on memory and buffer. What is granted sees the memory's length
-- and no byte of memory; its effect is carried out afterwards.
-- Assumes nothing.
use Rattle.std.specs.Prelude.{Bool, true, false, not, ◌&&◌, cond, List, [], ◌∷◌, ℕ, zero, suc, ◌+◌, ◌-◌, eqb, leb, length, replicate}
use Rattle.std.specs.Int.Bits.{bit_and}
use Rattle.hexfile.specs.Text.{Piece}
use Rattle.hexfile.specs.Written as hex
use Rattle.layout.specs.Entry.{direct, indirect, paged, recounted, relocked}
use Rattle.tokens.specs.Permissions.{X}
use Rattle.tokens.specs.Token.{named}
use Rattle.layout.specs.declared.entry.Entry.{Entry}
use Rattle.machine.specs.Images.{pieces_of, text_short}
use Rattle.machine.specs.Line.{is_locked, line_of, linked, owner_of, parent_number}
use Rattle.machine.specs.Parts.{at, State}
use Rattle.machine.specs.Requests.{Access, accessing, clone, create, derive, dumping, execute_only, fetching, loading, lock, Look, look, merge, moving, page_in, page_out, reading, release, Request, reset, revoke, unlock, Way, writing}
use Rattle.machine.specs.Writes.{alter, begin, Book, give, Name, name_of, opened, reissue, token_for, vacate, vacated, Write, written}

-- ---- what a request hands back

-- Beside the state and the buffer: the refusal's number (0 granted), for 3 and 4 which entry was bad (1 the named one, 2 an ancestor, else 0), the tokens
-- and drop's number. The word 0 is a real token, the root's in encoding 0: the list's length tells it from none. 02, paper 2: "Here and later, an answer that
-- may be shorter than its buffer also tells its length in bytes"; in any other it is 0.
pub record Reply : Type 0 where
  pub refusal : ℕ
  pub bad : ℕ
  pub tokens : List ℕ
  pub dropped : ℕ
  pub length : ℕ

abbrev pub granted : (tokens : List ℕ) (dropped length : ℕ) → Reply
granted ks d n = record { refusal = 0; bad = 0; tokens = ks; dropped = d; length = n }

-- bytes that are stored in memory, from start on
pub record Store : Type 0 where
  pub start : ℕ
  pub bytes : List ℕ

-- What the buffer comes back with: its own bytes; or bytes that are made of the bytes of a range of memory, and of no other byte of it: as many as the buffer has; or
-- at its front, if they keep to a limit, and its own bytes after them: "An output buffer longer than its answer keeps its other bytes."
pub data Fill : Type 0 where
  unfilled : Fill
  entire : (start length : ℕ) (made : List ℕ → List ℕ) → Fill
  front : (start length : ℕ) (made : List ℕ → List ℕ) (limit : List ℕ → Bool) → Fill

-- the bytes of the range themselves
abbrev pub fill_from : (start length : ℕ) → Fill
fill_from a n = entire a n (λ bs. bs)

-- bytes that are known without a look at memory: as many as the buffer has, or so many that it may have more
pub data Known : Type 0 where
  exactly : List ℕ → Known
  up_to : List ℕ → Known

abbrev pub fill_with : Known → Fill
fill_with (exactly bs) = entire 0 0 (λ none. bs)
fill_with (up_to bs) = front 0 0 (λ none. bs) (λ made. true)

-- what is done to memory and buffer: the stores, one after the other, and the fill, from memory as it was before them
pub record Effect : Type 0 where
  pub stores : List Store
  pub fill : Fill

-- nothing; a range of memory goes to the buffer; bytes are stored in memory
abbrev pub nothing : Effect
nothing = record { stores = []; fill = unfilled }

abbrev pub fetch : (start length : ℕ) → Effect
fetch a n = record { stores = []; fill = fill_from a n }

abbrev pub store : (start : ℕ) (bytes : List ℕ) → Effect
store a bs = record { stores = record { start = a; bytes = bs } ∷ []; fill = unfilled }

-- the text of a range of memory goes to the front of the buffer; a "written text above 65,536 bytes" does not
abbrev pub text : (start length : ℕ) → Effect
text a n = record { stores = []; fill = front a n hex.written text_short }

-- `issued` has the tokens of the entries that were issued in the request
pub record Decision : Type 0 where
  pub state : State
  pub table : List ℕ
  pub reply : Reply
  pub issued : List Name
  pub effect : Effect

-- ---- what a granted request does

-- its writes, the encoding of the tokens in its answer, drop's number, and the effect
pub record Grant : Type 0 where
  pub writes : List Write
  pub encoding : ℕ
  pub dropped : ℕ
  pub effect : Effect

-- the writes of a grant, one after the other
abbrev pub book : State → List ℕ → Grant → Book
book s t g = written g.encoding (opened s t) g.writes

-- the grant is carried out
abbrev pub carried : State → List ℕ → Grant → Decision
carried s t g =
    let b = book s t g in
    record { state = b.state; table = b.table; reply = granted b.tokens g.dropped 0; issued = b.issued; effect = g.effect }

-- writes alone, with tokens in encoding c; and writes that issue none
abbrev pub issuing : (encoding : ℕ) → List Write → Grant
issuing c ws = record { writes = ws; encoding = c; dropped = 0; effect = nothing }

abbrev pub altering : List Write → Grant
altering ws = issuing 0 ws

-- no writes, and an effect
abbrev pub effecting : Effect → Grant
effecting f = record { writes = []; encoding = 0; dropped = 0; effect = f }

-- the number that a token names
abbrev pub number_of : ℕ → ℕ
number_of k = (named k).number

-- the entry that a token names
abbrev pub named_entry : List ℕ → ℕ → Entry
named_entry t k = at t (number_of k)

-- the token of the entry e under number n in an encoding, offset zero
abbrev pub token_of : (encoding : ℕ) → ℕ → Entry → ℕ
token_of c n e = token_for c (name_of n e)

-- ---- the operations

-- reset: the root over all of memory, of m bytes. "Memory keeps its bytes."
abbrev pub grant_reset : ℕ → (key0 key1 first_nonce : ℕ) → Grant
grant_reset m k0 k1 ν = issuing 0 (begin m k0 k1 ν ∷ [])

-- load "writes the data at its offsets"; "where records overlap, the later one wins": pieces of data, one after the other, in a segment from its base on
abbrev pub placed : (base : ℕ) → List Piece → List Store
placed a [] = []
placed a (p ∷ ps) = record { start = a + p.at; bytes = p.bytes } ∷ placed a ps

-- access: the bytes at the token's offset in the segment; the buffer's length is the transfer's
abbrev pub transfer : Way → (start : ℕ) → (buffer : List ℕ) → Effect
transfer reading a b = fetch a (length b)
transfer writing a b = store a b
transfer fetching a b = fetch a (length b)

-- of each kind, at an offset into the segment of e. A load's bytes are where its text says; dump "turns a readable segment [..] into such text".
abbrev pub effect_by : Access → Entry → (offset : ℕ) → (buffer : List ℕ) → Effect
effect_by (moving w) e o b = transfer w (e.base + o) b
effect_by loading e o b = record { stores = placed e.base (pieces_of b); fill = unfilled }
effect_by dumping e o b = text e.base e.length

abbrev pub grant_access : List ℕ → Access → (token : ℕ) → List ℕ → Grant
grant_access t w k b = effecting (effect_by w (named_entry t k) (named k).offset b)

-- create: a front part of the wanted length under a new number, issued first: the request's user and permissions, Lockable as before
abbrev pub part_of : Entry → (length user permissions : ℕ) → ℕ → Entry
part_of e l u p ν = direct e.base l u p e.lockable 0 ν

-- "The rest keeps its number, is issued anew with base and length moved; at length 0 it is freed instead. The new number is sought before that."
abbrev pub rest_of : Entry → (length : ℕ) → ℕ → Entry
rest_of e l ν = direct (e.base + l) (e.length - l) e.user e.permissions e.lockable 0 ν

abbrev pub grant_create : List ℕ → ℕ → (length user permissions encoding : ℕ) → Grant
grant_create t n l u p c = issuing c (give (part_of (at t n) l u p) ∷ cond (eqb l (at t n).length) (vacate n) (reissue n (rest_of (at t n) l)) ∷ [])

-- merge: "the first is issued anew over both with the permissions both have, its own user and Lockable; the second is freed"
abbrev pub merged_of : Entry → Entry → ℕ → Entry
merged_of d e ν = direct d.base (d.length + e.length) d.user (bit_and d.permissions e.permissions) d.lockable 0 ν

abbrev pub grant_merge : List ℕ → ℕ → ℕ → (encoding : ℕ) → Grant
grant_merge t n k c = issuing c (reissue n (merged_of (at t n) (at t k)) ∷ vacate k ∷ [])

-- derive: an indirect entry at the offset, with a parent token in encoding 1 and count 1; "the parent's count rises by one"
abbrev pub child_of : ℕ → Entry → (offset length permissions : ℕ) → ℕ → Entry
child_of n e o l p ν = indirect (e.base + o) l (token_of 1 n e) p 0 ν

abbrev pub grant_derive : List ℕ → ℕ → (offset length permissions encoding : ℕ) → Grant
grant_derive t n o l p c = issuing c (give (child_of n (at t n) o l p) ∷ alter n (recounted (at t n) ((at t n).count + 1)) ∷ [])

-- clone "adds one to the count"
abbrev pub grant_clone : List ℕ → ℕ → Grant
grant_clone t n = altering (alter n (recounted (at t n) ((at t n).count + 1)) ∷ [])

-- drop, where no lock holds it back: "a count of 2 or more falls by one"; at 1 "it falls to 0; a direct entry stays, while an indirect one is freed and
-- the drop climbs to its parent if that link holds. A climb that meets count 0 ends there." The nonce falls at each link.
unfoldable pub climb : ℕ → List ℕ → ℕ → List Write
climb zero t n = []
climb (suc steps) t n =
    let up = climb steps (vacated t n) (parent_number (at t n)) in
    let freed = vacate n ∷ cond (linked t (at t n)) up [] in
    let last = cond (eqb (at t n).kind 1) (alter n (recounted (at t n) 0) ∷ []) freed in
    let least = cond (eqb (at t n).count 0) [] last in
    cond (leb 2 (at t n).count) (alter n (recounted (at t n) ((at t n).count - 1)) ∷ []) least

-- "At 1 under a locked owner nothing changes, answer 0. At 1 otherwise [..] answer 1. The answer is the named entry's. A dead line counts as
-- unlocked."
abbrev pub grant_release : ℕ → List ℕ → ℕ → Grant
grant_release m t n =
    let one = eqb (at t n).count 1 in
    let locked = is_locked t (line_of m t n) in
    record { writes = cond (one && locked) [] (climb (suc (at t n).nonce) t n); encoding = 0; dropped = cond (one && not locked) 1 0; effect = nothing }

-- lock, "through any token of the line, sets Locked and holder at the owner"; "by the holder again it [..] succeeds and changes nothing"; unlock
-- clears both
abbrev pub grant_lock : List ℕ → ℕ → Bool → (holder : ℕ) → Grant
grant_lock t owner locked h = altering (alter owner (relocked (at t owner) locked h) ∷ [])

-- revoke "zeros the segment and issues the same number over it: count 0, R W X, Lockable, unlocked, user 0"
abbrev pub fresh : Entry → ℕ → Entry
fresh e ν = direct e.base e.length 0 7 true 0 ν

abbrev pub zeroed : Entry → List Store
zeroed e = record { start = e.base; bytes = replicate e.length 0 } ∷ []

abbrev pub grant_revoke : List ℕ → ℕ → (encoding : ℕ) → Grant
grant_revoke t n c = record { writes = reissue n (fresh (at t n)) ∷ []; encoding = c; dropped = 0; effect = record { stores = zeroed (at t n); fill = unfilled } }

-- paging out: "the bytes go to a caller's buffer of equal length [..], the entry becomes type 3 (type, page-file number 64 as requested, length 32, 39 zeros,
-- user 64, the rest as direct, unlocked) and is issued anew; the zeroed segment becomes a new direct entry with R, W, X, Lockable and user 0, issued second; both
-- tokens are answered in that order". The new one is as revoke's.
abbrev pub out_of : Entry → (page : ℕ) → ℕ → Entry
out_of e f ν = paged f e.length e.user e.permissions e.lockable 0 ν

abbrev pub grant_page_out : List ℕ → ℕ → (page encoding : ℕ) → Grant
grant_page_out t n f c = record {
  writes = reissue n (out_of (at t n) f) ∷ give (fresh (at t n)) ∷ [];
  encoding = c;
  dropped = 0;
  effect = record { stores = zeroed (at t n); fill = fill_from (at t n).base (at t n).length };
}

-- paging in: "the buffer's bytes land in the donor's segment, the paged entry becomes direct there, is issued anew, its token answered, and the donor is freed".
-- User, permissions and Lockable are the paged entry's own.
abbrev pub in_of : Entry → (donor : Entry) → ℕ → Entry
in_of e d ν = direct d.base e.length e.user e.permissions e.lockable 0 ν

abbrev pub grant_page_in : List ℕ → ℕ → (donor encoding : ℕ) → List ℕ → Grant
grant_page_in t n k c b = record { writes = reissue n (in_of (at t n) (at t k)) ∷ vacate k ∷ []; encoding = c; dropped = 0; effect = store (at t k).base b }

-- looks: what each shows
abbrev pub shown : ℕ → List ℕ → Look → Known
shown m t v = elim v [ ]

abbrev pub grant_look : ℕ → List ℕ → Look → Grant
grant_look m t v = effecting (record { stores = []; fill = fill_with (shown m t v) })

-- what a granted request does, where the memory has m bytes and the request brings the buffer b. "Execute-only: the same [as derive], without the
-- sum, over the whole segment with X alone."
abbrev pub grant : ℕ → List ℕ → Request → List ℕ → Grant
grant m t (reset k0 k1 ν) b = grant_reset m k0 k1 ν
grant m t (accessing w k u φ) b = grant_access t w k b
grant m t (create k u l x p c) b = grant_create t (number_of k) l x p c
grant m t (merge j k u c) b = grant_merge t (number_of j) (number_of k) c
grant m t (derive k o l p c) b = grant_derive t (number_of k) o l p c
grant m t (execute_only k c) b = grant_derive t (number_of k) 0 (named_entry t k).length X c
grant m t (clone k) b = grant_clone t (number_of k)
grant m t (release k) b = grant_release m t (number_of k)
grant m t (lock k u) b = grant_lock t (owner_of (line_of m t (number_of k))) true u
grant m t (unlock k u) b = grant_lock t (owner_of (line_of m t (number_of k))) false 0
grant m t (revoke k c) b = grant_revoke t (number_of k) c
grant m t (page_out k u f c) b = grant_page_out t (number_of k) f c
grant m t (page_in j k u c) b = grant_page_in t (number_of j) (number_of k) c b
grant m t (look v) b = grant_look m t v
