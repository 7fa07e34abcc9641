use Rattle.std.proofs.Common.{arith, map, string_bytes}
use Rattle.std.proofs.lemmas.Grind.{common_steps}
use Rattle.sbpl_job.proofs.Asking.{asked_no_job}
use Rattle.sbpl_job.proofs.help.read_asked.Goals as goal

pub returns-in-len2-clause-asked : goal.returns-in-len2-clause-asked
returns-in-len2-clause-asked c = grind (arith, common_steps)

pub returns-in-len2-clause-no_job : goal.returns-in-len2-clause-no_job
returns-in-len2-clause-no_job c =
    λ some. asked_no_job (map string_bytes c.args.words.now) (rw (← (returns-in-len2-clause-asked c)) some)
