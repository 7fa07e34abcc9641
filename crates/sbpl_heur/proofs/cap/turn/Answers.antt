use Rattle.std.proofs.Common.{arith}
use Rattle.sbpl_heur.proofs.StateCells.{cell_below}
use Rattle.sbpl_heur.proofs.cap.turn.Goals as goal

pub gap_from-requires-clause-cell : goal.gap_from-requires-clause-cell
gap_from-requires-clause-cell c =
    cell_below c.args.lattice.now c.args.goal c.args.headings c.requires.headings
    (omega (arith, c.loop-heading-test.true, c.requires.turns, c.loop-heading.invariant.1)) c.requires.goal
