use Rattle.sbpl_worlds.specs.sbpl_promises.Sites.{to_of}
use Rattle.sbpl_worlds.proofs.Workspaces.{site_of}
use Rattle.sbpl_checks.proofs.Verifying.{IsCheckedTo}
use Rattle.sbpl_checks.proofs.text_check.check_sections.Given as goal

abbrev pub invariant-loop-k : goal.invariant-loop-k
invariant-loop-k g l =
    IsCheckedTo (site_of g.W.Graph g.W.Terrain g.W.Workspace) l.fn.world l.world
    (g.W.Best.Heuristic.is_made_for l.guide l.world (to_of g.W.Workspace.reporting.back l.start l.fn.goal)) l.fn.updates
    l.fn.start l.start l.fn.goal l.fn.labels l.k l.at (g.D.Desk.state l.fn.desk) (g.D.Desk.state l.desk)
