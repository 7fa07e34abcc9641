use Rattle.std.proofs.Common.{◌≡◌, ◌⊎◌, inl, inr}
use Rattle.sbpl_plan.specs.declared.found.Found.{Found}
use Rattle.sbpl_plan.specs.declared.found.Found.TheVariants as found
use Rattle.sbpl_plan.specs.declared.result.PlanResult.TheVariants as outcome
use Rattle.sbpl_plan.specs.Outcomes.{AgreesWithFound}
use Rattle.sbpl_plan.proofs.Results.{cut_or_unknown}
use Rattle.sbpl_plan.proofs.ending.outcome_of.Goals as goal

unknown_agrees : (f : Found) → (f ≡ found.None) ⊎ (f ≡ found.Broken) → AgreesWithFound f outcome.Unknown
unknown_agrees (found.Path a b) (inl is) = cc
unknown_agrees (found.Path a b) (inr is) = cc
unknown_agrees found.None is = tt
unknown_agrees found.Broken is = tt

pub returns : goal.returns
returns c = record {
  outcome = λ n h finds. cut_or_unknown n h _ _ _ _ finds c.in-None.is
      (λ cut. let yes = c.if-shows_none.ensures.cut_off.1 cut in let no : ⊥ = cc yes in no);
  agrees = unknown_agrees _ c.in-None.is;
}
