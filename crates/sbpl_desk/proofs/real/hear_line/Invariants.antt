-- The same line is heard next as at the start.
use Rattle.std.specs.Io.KnownBytes.{prepend_known}
use Rattle.sbpl_desk.proofs.Hearing.{AreHeardAlike}
use Rattle.sbpl_desk.proofs.real.hear_line.Given as goal

abbrev pub invariant-loop : goal.invariant-loop
invariant-loop g l =
    AreHeardAlike (prepend_known l.initial.coming.items (g.F.Read.remaining l.initial.input))
    (prepend_known l.coming.items (g.F.Read.remaining l.input))
