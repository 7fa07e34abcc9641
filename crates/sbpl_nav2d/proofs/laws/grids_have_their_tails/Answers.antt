use Rattle.sbpl_nav2d.proofs.GraphLaws.{gaps}
use Rattle.sbpl_nav2d.proofs.Tails.{exact_tails}
use Rattle.sbpl_nav2d.proofs.laws.grids_have_their_tails.Goals as goal

pub returns : goal.returns
returns c = record { tails = exact_tails; gaps = gaps }
