use Rattle.std.proofs.Common.{arith}
use Rattle.std.proofs.lemmas.Grind.{common_steps}
use Rattle.sbpl_job.proofs.ends.pose_in.Goals as goal

pub returns-in-len3-clause-pose : goal.returns-in-len3-clause-pose
returns-in-len3-clause-pose c = grind (arith, common_steps)
