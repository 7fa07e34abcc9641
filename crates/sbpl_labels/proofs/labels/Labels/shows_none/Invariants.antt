use Rattle.std.proofs.Common.{ℕ, ◌<◌}
use Rattle.sbpl_graph.specs.declared.TheConstants.{FAR}
use Rattle.sbpl_labels.specs.Marks.{g_of, v_of}
use Rattle.sbpl_labels.proofs.labels.Labels.shows_none.Given as goal

abbrev pub invariant-loop-s : goal.invariant-loop-s
invariant-loop-s l = (u : ℕ) → u < l.s → g_of l.self u < FAR → v_of l.self u < FAR
