use Rattle.std.proofs.Common.{refl, ap, arith, inl, inr}
use Rattle.sbpl_worlds.specs.sbpl_job.declared.job.Planner.TheVariants as planner
use Rattle.sbpl_plans.proofs.Going.{ends_by, no_more, plainly}
use Rattle.sbpl_worlds.specs.sbpl_report.Statuses.{number_of}
use Rattle.sbpl_plans.proofs.planners.make_plans.Goals as goal

pub returns-in-Ok-clause-ends : goal.returns-in-Ok-clause-ends
returns-in-Ok-clause-ends g c = ends_by planner.Ara c.in-Ara.is c.go_through.ensures.ends

pub returns-in-Err-clause-ends : goal.returns-in-Err-clause-ends
returns-in-Err-clause-ends g c =
    plainly (ap number_of c.plain.ensures.status) c.plain.ensures.untold (no_more (omega arith) (λ name. refl))

pub returns-in-Ok-open-clause-ends : goal.returns-in-Ok-open-clause-ends
returns-in-Ok-open-clause-ends g c = elim c.in-AdStar.is [
  | inl is ↦ ends_by planner.AdStar is c.go_through-in-Ok-open.ensures.ends
  | inr is ↦ ends_by planner.Back is c.go_through-in-Ok-open.ensures.ends
]

pub returns-in-Err-open-clause-ends : goal.returns-in-Err-open-clause-ends
returns-in-Err-open-clause-ends g c =
    plainly (ap number_of c.plain-in-Err-open.ensures.status) c.plain-in-Err-open.ensures.untold
    (no_more (omega arith) (λ name. refl))

pub returns-in-Ok-open-2-clause-ends : goal.returns-in-Ok-open-2-clause-ends
returns-in-Ok-open-2-clause-ends g c = ends_by planner.Epase c.in-Epase.is c.go_through-in-Ok-open-2.ensures.ends

pub returns-in-Err-open-2-clause-ends : goal.returns-in-Err-open-2-clause-ends
returns-in-Err-open-2-clause-ends g c =
    plainly (ap number_of c.plain-in-Err-open-2.ensures.status) c.plain-in-Err-open-2.ensures.untold
    (no_more (omega arith) (λ name. refl))
