use Rattle.sbpl_postings.proofs.Keeping.{in_order}
use Rattle.sbpl_postings.proofs.laws.lines_keep_order.Goals as goal

pub returns : goal.returns
returns c = record { order = in_order }
