-- How one plan is to be searched, where settings count for it alone.
use Rattle.std.specs.Prelude.{◌≤◌, ◌^◌, IfSome}
use Rattle.std.specs.Option.{unwrap_or}
use Rattle.sbpl_job.specs.declared.job.SearchJob.{SearchJob}
use Rattle.sbpl_live.specs.declared.spoken.Wants.{Wants}
use Rattle.sbpl_live.specs.declared.spoken.Spoken.{Spoken}
use Rattle.sbpl_live.specs.declared.spoken.Spoken.TheVariants.{Nothing, Cell, Start, Goal, Plan}

-- what is set for the plan takes the place of the job's own
abbrev pub wanted : SearchJob → Wants → SearchJob
wanted how w = record how {
  first = unwrap_or w.first how.first;
  step = unwrap_or w.step how.step;
  bound = unwrap_or w.bound how.bound;
  budget = unwrap_or w.budget how.budget;
}

-- what is set lies in its range
pub record AreWantsInRange (w : Wants) : Type 0 where
  pub first : IfSome w.first (λ n. (1000 ≤ n) × (n ≤ 100000))
  pub step : IfSome w.step (λ n. (1 ≤ n) × (n ≤ 99000))
  pub bound : IfSome w.bound (λ n. (1000 ≤ n) × (n ≤ 100000))
  pub budget : IfSome w.budget (λ n. (1 ≤ n) × (n ≤ 2 ^ 30))
  pub seconds : IfSome w.seconds (λ n. (10 ^ 6 ≤ n) × (n ≤ 10 ^ 15))

abbrev pub AreInRange : Spoken → Type 0
AreInRange (Plan w) = AreWantsInRange w
AreInRange Nothing = Unit {0}
AreInRange (Cell w) = Unit {0}
AreInRange (Start p) = Unit {0}
AreInRange (Goal p) = Unit {0}
