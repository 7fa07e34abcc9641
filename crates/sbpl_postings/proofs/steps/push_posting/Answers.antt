use Rattle.sbpl_postings.proofs.Sending.{pushes}
use Rattle.sbpl_postings.specs.Posts.{post_of}
use Rattle.sbpl_postings.proofs.steps.push_posting.Goals as goal

pub push_as-requires-clause-rule : goal.push_as-requires-clause-rule
push_as-requires-clause-rule g c = (pushes post_of _ _ _ _ c.requires.one c.requires.seat, λ items views kept at. tt)
