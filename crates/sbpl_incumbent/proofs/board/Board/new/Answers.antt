use Rattle.std.proofs.Common.{rules}
use Rattle.sbpl_incumbent.proofs.Keeping.{first_kept}
use Rattle.sbpl_incumbent.proofs.board.Board.new.Goals as goal

pub ruled-requires : goal.ruled-requires
ruled-requires c = (search rules, (search rules, first_kept))
