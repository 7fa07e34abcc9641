use Rattle.sbpl_heur.specs.Followed.{Marks, AreRoused}
use Rattle.sbpl_heur.proofs.walks.Walks.rouse_around.Given as goal

abbrev pub invariant-loop-k : goal.invariant-loop-k
invariant-loop-k l = record {
  marks : Marks l.initial.self l.self;
  roused : AreRoused l.self l.cell l.was l.k;
}
