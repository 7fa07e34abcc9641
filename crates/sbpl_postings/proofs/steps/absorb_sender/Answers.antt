use Rattle.sbpl_postings.proofs.Sending.{merges}
use Rattle.sbpl_postings.specs.Posts.{post_of}
use Rattle.sbpl_postings.proofs.steps.absorb_sender.Goals as goal

pub absorb-requires-clause-rule : goal.absorb-requires-clause-rule
absorb-requires-clause-rule g c = merges post_of _ _ _ _ c.requires.whole c.requires.one
