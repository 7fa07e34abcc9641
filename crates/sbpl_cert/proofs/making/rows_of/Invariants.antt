use Rattle.sbpl_cert.proofs.MadeRows.{AreMadeTo}
use Rattle.sbpl_cert.proofs.making.rows_of.Given as goal

abbrev pub invariant-loop-s : goal.invariant-loop-s
invariant-loop-s g l = AreMadeTo l.labels (g.H.Guide.distance l.guide) l.rows.items l.s
