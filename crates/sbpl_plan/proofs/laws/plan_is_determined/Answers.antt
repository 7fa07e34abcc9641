use Rattle.sbpl_plan.proofs.Retracing.{outcomes_are_one}
use Rattle.sbpl_plan.proofs.Repeating.{passes_are_one}
use Rattle.sbpl_plan.proofs.laws.plan_is_determined.Goals as goal

pub returns : goal.returns
returns g c =
    record { passes = passes_are_one g.S.Search.meaning c.is_determined.ensures.passes; outcome = outcomes_are_one }
