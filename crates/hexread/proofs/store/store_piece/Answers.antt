-- `hexread::store::store_piece` meets its contract: the bytes are the piece.
use Rattle.std.proofs.Common.{rules, arith}
use Rattle.hexread.proofs.StoreLaws.{piece_some}
use Rattle.hexread.proofs.store.store_piece.Goals as goal

pub returns : goal.returns
returns c = let f = c.requires.1.1 (omega arith) in search (rules, piece_some)
