use Rattle.sbpl_postings.proofs.Sending.{learns, pops}
use Rattle.sbpl_postings.specs.Posts.{post_of}
use Rattle.sbpl_postings.proofs.steps.pop_posting.Goals as goal

pub pop_as-requires-clause-rule : goal.pop_as-requires-clause-rule
pop_as-requires-clause-rule g c = (pops post_of _ _ c.requires.whole, learns post_of _ _ c.requires.whole)
