-- A lock by the holder again, and a drop at 1 under a lock, change nothing.
-- Assumes nothing.
use mathlib.Core.Path.{◌≡◌, sym}
use mathlib.Core.Bool.{true, false≢true}
use mathlib.Core.List.{List}
use Prim.Native.Nat.{ℕ, suc}
use native.Mathlib.Omega.{arith}
use lib.ListN.{length}
use Rattle.layout.specs.Entry.{relocked}
use Rattle.layout.specs.declared.entry.Entry.{Entry}
use Rattle.machine.specs.Line.{dead, ill, is_locked, Line, owner, owner_of, paged_out}
use Rattle.machine.specs.Operations.{named_entry, number_of}
use Rattle.machine.specs.Parts.{at, put}
use Rattle.machine.specs.Requests.{Call, lock, release}
use Rattle.machine.specs.Steps.{answer, step}
use Rattle.machine.specs.Unchanged.{HeldDrop, LockAgain, named_line}
use Rattle.machine.proofs.Basics.{owner-direct, present, Present}
use Rattle.machine.proofs.Decided.{away, taken, Turned, turned}
use Rattle.machine.proofs.Fuel.{Live, walk-formed, walk-owns}
use Rattle.machine.proofs.TableLaws.{put_back}

-- the lock of a line is its owner's
owner-locked : (t : List ℕ) (l : Line) → is_locked t l ≡ true → (at t (owner_of l)).locked ≡ true
owner-locked t (owner k) h = h
owner-locked t (paged_out k) h = absurd (false≢true h)
owner-locked t (dead k) h = absurd (false≢true h)
owner-locked t (ill k) h = absurd (false≢true h)

same_lock : (e : Entry) (u : ℕ) → e.locked ≡ true → e.holder ≡ u → relocked e true u ≡ e
same_lock e u l h i = relocked e (sym l i) (sym h i)

pub lock_again : LockAgain
unfolding LockAgain step
lock_again σ k u b bytes locked held = go (turned σ q)
  where
    q : Call
    q = record { request = lock k u; buffer = b }

    t : List ℕ
    t = σ.table

    o : ℕ
    o = owner_of (named_line σ k)

    same : relocked (at t o) true u ≡ at t o
    same = same_lock (at t o) u (owner-locked t (named_line σ k) locked) held

    back : Present (named_entry t k) → Live (named_line σ k) → put t o (at t o) ≡ t
    back f l =
        let n : ℕ = suc (named_entry t k).nonce in
        let d : (at t o).kind ≡ 1 = owner-direct (walk-owns n (length σ.memory) t (number_of k) f l) in
        put_back (length σ.memory) t o bytes (omega arith) (walk-formed n (length σ.memory) t (number_of k) f l)

    go : Turned σ q → step σ q ≡ σ
    go (taken a p e) = rw (e, same, back (present (named_entry t k) (search) (search)) (search, search))
    go (away r e n) = rw e

pub held-drop : HeldDrop
unfolding HeldDrop step answer
held-drop σ k b one held = go (turned σ q)
  where
    q : Call
    q = record { request = release k; buffer = b }

    go : Turned σ q → (step σ q ≡ σ) × ((answer σ q).reply.dropped ≡ 0)
    go (taken a p e) = (rw (e, one, held), rw (e, one, held))
    go (away r e n) = (rw e, rw e)
