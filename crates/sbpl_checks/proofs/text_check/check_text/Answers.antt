use Rattle.std.proofs.Common.{ap}
use Rattle.sbpl_worlds.specs.sbpl_promises.Checked.{case_of}
use Rattle.sbpl_worlds.proofs.Workspaces.{site_of}
use Rattle.sbpl_worlds.specs.sbpl_report.Statuses.{number_of}
use Rattle.sbpl_checks.proofs.Verifying.{runs_out}
use Rattle.sbpl_checks.proofs.text_check.check_text.Goals as goal

pub returns-in-Err-clause-ends : goal.returns-in-Err-clause-ends
returns-in-Err-clause-ends g c =
    runs_out (case_of (site_of g.W.Graph g.W.Terrain g.W.Workspace) c.args.world.now c.args.updates.now c.args.start
    c.args.goal) _ _ _ _ _ _ (ap number_of c.plain.ensures.status) c.plain.ensures.untold
