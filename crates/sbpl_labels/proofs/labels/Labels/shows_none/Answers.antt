use Rattle.sbpl_labels.specs.CutOff.{IsCutOff}
use Rattle.sbpl_labels.specs.Marks.{states_of, g_of, v_of}
use Rattle.std.proofs.Common.{rules}
use Rattle.sbpl_labels.proofs.Lowest.{cut_off_leaves_none}
use Rattle.sbpl_labels.proofs.labels.Labels.shows_none.Goals as goal

pub returns-clause-no_path : goal.returns-clause-no_path
returns-clause-no_path c = λ yes n same sound supported.
    let cut : IsCutOff (states_of c.args.self.now) c.args.goal (g_of c.args.self.now) (v_of c.args.self.now) =
    search rules in
    cut_off_leaves_none n c.args.self.now.start same sound supported cut
