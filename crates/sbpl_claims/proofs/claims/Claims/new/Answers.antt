use Rattle.sbpl_claims.proofs.Keeping.{first_kept}
use Rattle.sbpl_claims.proofs.claims.Claims.new.Goals as goal

pub of_words-requires : goal.of_words-requires
of_words-requires c = first_kept
