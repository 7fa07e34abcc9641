use Rattle.std.proofs.Common.{◌≡◌, ◌++◌, flat_map, drop}
use Rattle.sbpl_lists.specs.Pieces.{piece_text}
use Rattle.sbpl_lists.proofs.piece.push_all.Given as goal

-- what is written, and the pieces that are left, are what stood before and all pieces
abbrev pub invariant-loop-piece : goal.invariant-loop-piece
invariant-loop-piece l =
    l.out.items ++ flat_map piece_text (drop l.piece-index l.pieces) ≡ l.fn.out.items ++ flat_map piece_text l.pieces
