use Rattle.std.proofs.Common.{[]}
use Rattle.sbpl_frontier.proofs.Finishing.{brought_before}
use Rattle.sbpl_frontier.proofs.locked.Locked.receive_rest.Goals as goal

pub returns-clause-brought : goal.returns-clause-brought
returns-clause-brought g c = brought_before _ _ [] c.receive_all.ensures.brought
