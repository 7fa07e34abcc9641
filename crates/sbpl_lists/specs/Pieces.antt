-- Pieces of a text.
use Rattle.std.specs.Prelude.{ℕ, List, decimal}
use Rattle.std.specs.Fmt.{signed_decimal}
use Rattle.sbpl_fixed.specs.Printed.{milli_text, nano_text}
use Rattle.sbpl_lists.specs.declared.piece.Piece.{Piece}
use Rattle.sbpl_lists.specs.declared.piece.Piece.TheVariants as piece

-- what a piece says
abbrev pub piece_text : Piece → List ℕ
piece_text (piece.Bytes bytes) = bytes.now
piece_text (piece.Number n) = decimal n
piece_text (piece.Signed n) = signed_decimal n
piece_text (piece.Milli n) = milli_text n
piece_text (piece.Nano n) = nano_text n
