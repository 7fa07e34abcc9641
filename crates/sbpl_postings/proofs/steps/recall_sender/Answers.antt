use Rattle.sbpl_postings.proofs.Sending.{recalls}
use Rattle.sbpl_postings.specs.Posts.{post_of}
use Rattle.sbpl_postings.proofs.steps.recall_sender.Goals as goal

pub another-requires-clause-rule : goal.another-requires-clause-rule
another-requires-clause-rule g c = recalls post_of _ _ c.requires.whole c.requires.some
