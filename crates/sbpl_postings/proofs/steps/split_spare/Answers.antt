use Rattle.sbpl_postings.proofs.Sending.{spares}
use Rattle.sbpl_postings.specs.Posts.{post_of}
use Rattle.sbpl_postings.proofs.steps.split_spare.Goals as goal

pub another-requires-clause-rule : goal.another-requires-clause-rule
another-requires-clause-rule g c = spares post_of _ _
