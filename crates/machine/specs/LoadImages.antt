-- Load images (02, paper 2): what the paper claims, on its own.
-- Assumes nothing.
use Rattle.std.specs.Prelude.{◌≡◌, List, [], ◌∷◌, ℕ, ◌≤◌, drop, get_or, length, take}
use Rattle.bits.specs.Bytes.{AllBytes}
use Rattle.hexfile.specs.Text.{apply, farthest, loads, Piece, said}
use Rattle.hexfile.specs.Written.{written, written_length}
use Rattle.tokens.specs.Token.{named}
use Rattle.machine.specs.MachineSystem.{Accepted}
use Rattle.machine.specs.Operations.{named_entry}
use Rattle.machine.specs.Requests.{Call, dump, load, moving, reading, Shift, writing}
use Rattle.machine.specs.Segments.{In}
use Rattle.machine.specs.Steps.{Answer, answer, Machine, step}
use Rattle.machine.specs.WholeDerive.{access_call, length_of}

-- a load of a text, and a dump into a buffer, through the token k, by the task u, in a shift
abbrev pub load_call : (token task : ℕ) → Shift → (text : List ℕ) → Call
load_call k u φ b = record { request = load k u φ; buffer = b }

abbrev pub dump_call : (token task : ℕ) → Shift → (buffer : List ℕ) → Call
dump_call k u φ b = record { request = dump k u φ; buffer = b }

-- the bytes of the segment that a token names
abbrev pub segment_of : Machine → (token : ℕ) → List ℕ
segment_of σ k = take (length_of σ k) (drop (named_entry σ.table k).base σ.memory)

-- what an answer tells the length of: so many bytes at the front of its buffer
abbrev pub text_in : Answer → List ℕ
text_in a = take a.reply.length a.buffer

-- "The writer turns a readable segment [..] into such text": that of its bytes, whose length the answer tells. The buffer's other bytes stay, and so does the
-- machine.
pub record Dumped (σ : Machine) (k : ℕ) (q : Call) : Type 0 where
  pub told : (answer σ q).reply.length ≡ length (written (segment_of σ k))
  pub text : text_in (answer σ q) ≡ written (segment_of σ k)
  pub others : drop (answer σ q).reply.length (answer σ q).buffer ≡ drop (answer σ q).reply.length q.buffer
  pub machine : step σ q ≡ σ

unfoldable pub Dumps : Type 0
Dumps = (σ : Machine) (k u : ℕ) (φ : Shift) (b : List ℕ) → Accepted σ (dump_call k u φ b) → Dumped σ k (dump_call k u φ b)

-- "The reader checks the complete text and every record's bounds, then writes the data at its offsets [..]; where records overlap, the later one wins": the
-- text is read, its pieces lie in the segment, and they are applied to it, one after the other. No other byte moves.
pub record Loaded (σ : Machine) (k : ℕ) (q : Call) : Type 0 where
  pub pieces : List Piece
  pub says : said q.buffer ≡ loads pieces
  pub inside : farthest pieces ≤ length_of σ k
  pub segment : segment_of (step σ q) k ≡ apply pieces (segment_of σ k)
  pub outside : (x : ℕ) → (In (named_entry σ.table k) x → ⊥) → get_or (step σ q).memory x 0 ≡ get_or σ.memory x 0
  pub state : (step σ q).state ≡ σ.state
  pub table : (step σ q).table ≡ σ.table
  pub buffer : (answer σ q).buffer ≡ q.buffer

unfoldable pub Loads : Type 0
Loads = (σ : Machine) (k u : ℕ) (φ : Shift) (b : List ℕ) → Accepted σ (load_call k u φ b) → Loaded σ k (load_call k u φ b)

-- "Reading written text into an equal segment restores its bytes": what a dump of the segment of k writes is loaded, on whatever machine, through whatever
-- token without offset whose segment is as long and that opens a write; and then that segment has the bytes that were dumped.
unfoldable pub Restores : Type 0
Restores =
    (σ : Machine) (k u : ℕ) (φ : Shift) (b : List ℕ) → AllBytes σ.memory → Accepted σ (dump_call k u φ b)
    → (τ : Machine) (j v : ℕ) (ψ : Shift) → (named j).offset ≡ 0 → length_of τ j ≡ length_of σ k → Accepted τ (access_call (moving writing) j v ψ (0 ∷ []))
    → let q : Call = load_call j v ψ (text_in (answer σ (dump_call k u φ b))) in
    Accepted τ q × (segment_of (step τ q) j ≡ segment_of σ k)

-- "Loads and dumps [..] use the access checks without the transfer limit": a load is granted just where the token, without offset, opens a write of one byte, the
-- text has "at most 65,536 bytes" and is read, and its data lie in the segment;
pub record MayLoad (σ : Machine) (k u : ℕ) (φ : Shift) (b : List ℕ) : Type 0 where
  pub access : Accepted σ (access_call (moving writing) k u φ (0 ∷ []))
  pub offset : (named k).offset ≡ 0
  pub short : length b ≤ 65536
  pub pieces : List Piece
  pub says : said b ≡ loads pieces
  pub inside : farthest pieces ≤ length_of σ k

-- and a dump just where it opens a read of one byte, and the text has at most 65,536 bytes and its room in the buffer.
pub record MayDump (σ : Machine) (k u : ℕ) (φ : Shift) (b : List ℕ) : Type 0 where
  pub access : Accepted σ (access_call (moving reading) k u φ (0 ∷ []))
  pub offset : (named k).offset ≡ 0
  pub short : written_length (length_of σ k) ≤ 65536
  pub room : written_length (length_of σ k) ≤ length b

pub record AsAccesses : Type 0 where
  pub loads : (σ : Machine) (k u : ℕ) (φ : Shift) (b : List ℕ) → Accepted σ (load_call k u φ b) → MayLoad σ k u φ b
  pub load : (σ : Machine) (k u : ℕ) (φ : Shift) (b : List ℕ) → MayLoad σ k u φ b → Accepted σ (load_call k u φ b)
  pub dumps : (σ : Machine) (k u : ℕ) (φ : Shift) (b : List ℕ) → Accepted σ (dump_call k u φ b) → MayDump σ k u φ b
  pub dump : (σ : Machine) (k u : ℕ) (φ : Shift) (b : List ℕ) → MayDump σ k u φ b → Accepted σ (dump_call k u φ b)
