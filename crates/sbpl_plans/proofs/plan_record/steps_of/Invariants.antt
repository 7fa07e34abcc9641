use Rattle.std.proofs.Common.{drop}
use Rattle.sbpl_worlds.specs.sbpl_promises.Headline.{IsPathFrom}
use Rattle.sbpl_worlds.proofs.Workspaces.{site_of}
use Rattle.sbpl_plans.proofs.PathSteps.{Completes}
use Rattle.sbpl_plans.proofs.plan_record.steps_of.Given as goal

-- the arcs that are left are a free path from here, and their steps complete those so far
abbrev pub invariant-loop-arc : goal.invariant-loop-arc
invariant-loop-arc g l = record {
  left : IsPathFrom (g.W.Workspace.reporting.told l.world) l.at (drop l.arc-index l.arcs);
  done : Completes (site_of g.W.Graph g.W.Terrain g.W.Workspace) l.world l.from l.arcs
      l.at (drop l.arc-index l.arcs) l.steps.items;
}
