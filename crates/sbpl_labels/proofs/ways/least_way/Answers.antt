use Rattle.sbpl_labels.proofs.ways.least_way.Goals as goal

pub loop-j-preserved : goal.loop-j-preserved
loop-j-preserved g c = c.lesser_way-best.ensures.least
