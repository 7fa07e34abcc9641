use Rattle.std.proofs.Common.{rules}
use Rattle.sbpl_nav2d.specs.Gap.{gap_of}
use Rattle.sbpl_nav2d.proofs.octile.gap_between.Goals as goal

pub returns-clause-value : goal.returns-clause-value
unfolding gap_of
returns-clause-value c = search rules
