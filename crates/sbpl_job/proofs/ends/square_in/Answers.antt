use Rattle.std.proofs.Common.{arith}
use Rattle.std.proofs.lemmas.Grind.{common_steps}
use Rattle.sbpl_job.proofs.ends.square_in.Goals as goal

pub returns-in-len2 : goal.returns-in-len2
returns-in-len2 c = record { square = grind (arith, common_steps) }
