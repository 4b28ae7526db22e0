-- `interface::words::put_words` meets its contract. The loop's invariant: the first i words are stored.
use mathlib.Core.Path.{◌≡◌}
use Prim.Native.Nat.{◌*◌, ◌≤◌}
use lib.ListN.{length, take}
use Rattle.interface.specs.Exported.{word_bytes}
use Rattle.interface.proofs.words.put_words.Given as goal

abbrev pub invariant-loop-i : goal.invariant-loop-i
invariant-loop-i l = (l.i ≤ length l.words) × ((take (8 * l.i) l.part ≡ word_bytes (take l.i l.words)) × (length l.part ≡ 8 * length l.words))
