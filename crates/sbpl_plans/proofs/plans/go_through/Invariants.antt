use Rattle.std.proofs.Common.{◌+◌, ◌*◌, ◌<◌, ◌≤◌, length}
use Rattle.sbpl_worlds.specs.sbpl_plan.Asked.{MOST_PASSES}
use Rattle.sbpl_worlds.specs.sbpl_promises.Sites.{start_after}
use Rattle.sbpl_worlds.specs.sbpl_promises.Writing.{WritesOnly}
use Rattle.sbpl_plans.specs.Boards.{IsSamePublisher, entries_of}
use Rattle.sbpl_plans.proofs.Going.{IsGoing}
use Rattle.sbpl_worlds.specs.sbpl_promises.Asked.{planner_on}
use Rattle.sbpl_worlds.specs.sbpl_replan.Replanning.{IsReady, standing_of}
use Rattle.sbpl_worlds.proofs.Workspaces.{site_of}
use Rattle.sbpl_plans.proofs.plans.go_through.Given as goal

-- the plans so far were made and told, the map is that after this number of batches, and the start and the goal are states
abbrev pub invariant-loop-k : goal.invariant-loop-k
invariant-loop-k g l = record {
  going : IsGoing (record {
    by = planner_on (site_of g.W.Graph g.W.Terrain g.W.Workspace) g.S.Search.meaning g.S.Action.Traced.line;
    written_of = g.T.Telling.written l.fn.telling;
    told_of = g.T.Telling.told l.fn.telling;
    world = l.fn.world;
    batches = l.fn.task.updates.now.batches;
    how = l.fn.task.how.now;
    outputs = l.fn.task.outputs.now;
    starts = start_after g.W.Workspace.reporting l.fn.world l.fn.task.start l.fn.task.updates.now.moves;
    goal = l.fn.task.goal;
  }) l.session.world l.k l.start (entries_of l.fn.live) (entries_of l.live) l.why.items (standing_of l.session)
      (g.D.Desk.state l.fn.desk) (g.D.Desk.state l.desk);
  ready : IsReady g.S.Search.meaning g.W.Graph.network g.W.Best.Heuristic.is_made_for l.session;
  inside : l.start < (g.W.Workspace.reporting.told l.session.world).states;
  goal_inside : l.fn.task.goal < (g.W.Workspace.reporting.told l.session.world).states;
  publisher : IsSamePublisher l.fn.live l.live;
  grown : length (entries_of l.live) ≤ length (entries_of l.fn.live) + l.k * MOST_PASSES;
  frame : WritesOnly (g.T.Telling.under l.fn.telling) (g.D.Desk.state l.fn.desk) (g.D.Desk.state l.desk);
}
