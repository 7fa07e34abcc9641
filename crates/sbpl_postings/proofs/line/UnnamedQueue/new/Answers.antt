use Rattle.sbpl_postings.proofs.Keeping.{first_kept}
use Rattle.sbpl_postings.proofs.line.UnnamedQueue.new.Goals as goal

pub ruled-requires-clause-rule : goal.ruled-requires-clause-rule
ruled-requires-clause-rule g c = first_kept
