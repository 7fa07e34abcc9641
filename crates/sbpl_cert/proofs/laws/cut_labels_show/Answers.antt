use Rattle.sbpl_cert.proofs.CutShows.{cut_shows}
use Rattle.sbpl_cert.proofs.laws.cut_labels_show.Goals as goal

pub returns : goal.returns
returns c = record { shows = cut_shows }
