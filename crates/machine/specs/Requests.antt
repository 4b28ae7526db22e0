-- The requests (01, "Operations", with "The parts of the machine" for reset). A token is a 64-bit word in any encoding.
-- Assumes nothing.
use Rattle.std.specs.Prelude.{List, [], ℕ}
use Rattle.tokens.specs.Permissions.{R, W, X}

pub data Way : Type 0 where
  reading : Way
  writing : Way
  fetching : Way

-- the permission that each way of access needs
abbrev pub right_of : Way → ℕ
right_of reading = R
right_of writing = W
right_of fetching = X

-- What counts as an access: bytes that move by a way; and of 02, paper 2, a text that is read into the segment, and the segment written as such text: "Loads and dumps
-- count as accesses" (paper 4).
pub data Access : Type 0 where
  moving : Way → Access
  loading : Access
  dumping : Access

-- the permission that each needs
abbrev pub right_for : Access → ℕ
right_for (moving w) = right_of w
right_for loading = W
right_for dumping = R

-- 02, paper 4: what an access brings beside its bytes. "Each access brings the minute, and no minute is remembered": it stands in the request, and with it
-- the leases, "a lent table" of bytes.
pub record Shift : Type 0 where
  pub minute : ℕ
  pub leases : List ℕ

-- that of a controller without shifts: no lease, at the week's first minute
abbrev pub no_shift : Shift
no_shift = record { minute = 0; leases = [] }

-- What only looks: it writes nothing, touches no memory, carries no task, and is judged without the state's counters. No request of the papers that have
-- landed does; those that will are constructors here.
pub data Look : Type 0 where

-- what each carries. A letter stands for the same thing wherever a request is taken apart: k, j tokens; u the task; l the length; x the user;
-- p the permissions; c the encoding; o the offset; w the way, or the kind of access; ν the first nonce; φ the shift; f the page-file number; v the look. `release` is 01's drop.
pub data Request : Type 0 where
  reset : (key0 key1 first_nonce : ℕ) → Request
  accessing : Access → (token task : ℕ) → Shift → Request
  create : (token task length user permissions encoding : ℕ) → Request
  merge : (first second task encoding : ℕ) → Request
  derive : (token offset length permissions encoding : ℕ) → Request
  execute_only : (token encoding : ℕ) → Request
  clone : (token : ℕ) → Request
  release : (token : ℕ) → Request
  lock : (token task : ℕ) → Request
  unlock : (token task : ℕ) → Request
  revoke : (token encoding : ℕ) → Request
  -- 02, paper 6: a segment goes out to the buffer, under a page-file number; the buffer's bytes come in to the donor's segment
  page_out : (token task page encoding : ℕ) → Request
  page_in : (token donor task encoding : ℕ) → Request
  -- 02, papers 8, 9 and 13
  look : Look → Request

-- the accesses
abbrev pub access : Way → (token task : ℕ) → Shift → Request
access w k u φ = accessing (moving w) k u φ

abbrev pub load : (token task : ℕ) → Shift → Request
load k u φ = accessing loading k u φ

abbrev pub dump : (token task : ℕ) → Shift → Request
dump k u φ = accessing dumping k u φ

-- a request and the buffer that it brings; only an access, what pages out and in, and a look have to do with it
pub record Call : Type 0 where
  pub request : Request
  pub buffer : List ℕ

-- the task that a request carries; 0 means none
abbrev pub task_of : Request → ℕ
task_of (reset k0 k1 ν) = 0
task_of (accessing w k u φ) = u
task_of (create k u l x p c) = u
task_of (merge j k u c) = u
task_of (derive k o l p c) = 0
task_of (execute_only k c) = 0
task_of (clone k) = 0
task_of (release k) = 0
task_of (lock k u) = u
task_of (unlock k u) = u
task_of (revoke k c) = 0
task_of (page_out k u f c) = u
task_of (page_in j k u c) = u
task_of (look v) = 0
