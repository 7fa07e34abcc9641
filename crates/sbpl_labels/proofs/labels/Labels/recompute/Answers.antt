use Rattle.sbpl_labels.proofs.Choosing.{recomputes_least}
use Rattle.sbpl_labels.proofs.labels.Labels.recompute.Goals as goal

pub returns-in-Some-clause-recomputed : goal.returns-in-Some-clause-recomputed
returns-in-Some-clause-recomputed g c =
    λ apart. recomputes_least (rw c.in-Some.is at c.least_way.ensures.least) c.rewrite.ensures.rewritten
