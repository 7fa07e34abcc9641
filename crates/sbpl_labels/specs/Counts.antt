-- Counts of expansions against a budget, and the time of a plan.
use Rattle.std.specs.Prelude.{◌≡◌, ◌≢◌, ℕ, ◌+◌, ◌^◌, ◌<◌, ◌≤◌, ◌⊎◌, Option, Some, None}
use Rattle.sbpl_labels.specs.declared.time.Time.{Time}
use Rattle.sbpl_labels.specs.declared.time.Time.TheVariants.{Unlimited, InTime, Late}

-- the budget of a plan, the expansions of this plan, and those of the run; and whether this plan has a limit of time, and is late
pub record Counts : Type 0 where
  pub per_plan : ℕ
  pub plan : ℕ
  pub run : ℕ
  pub time : Time

-- what holds of every budget
pub record AreCounts (c : Counts) : Type 0 where
  pub some : 1 ≤ c.per_plan
  pub few : c.per_plan ≤ 2 ^ 30
  pub within_plan : c.plan ≤ c.per_plan
  pub within_run : c.run ≤ 2 ^ 30
  pub plan_in_run : c.plan ≤ c.run

-- the plan or the run has no expansion left, or the plan is late
abbrev pub IsSpent : Counts → Type 0
IsSpent c = (c.plan ≡ c.per_plan) ⊎ ((c.run ≡ 2 ^ 30) ⊎ (c.time ≡ Late))

-- the plan and the run have an expansion left, and the plan is not late
pub record HasLeft (c : Counts) : Type 0 where
  pub of_plan : c.plan < c.per_plan
  pub of_run : c.run < 2 ^ 30
  pub in_time : c.time ≢ Late

-- the time of a plan that begins: with no limit, or with one
abbrev pub time_of : {A : Type 0} → Option A → Time
time_of None = Unlimited
time_of (Some limit) = InTime

-- the time of a plan stays as it is, or a plan that was in time is late
abbrev pub GoesOn : (old new : Time) → Type 0
GoesOn old new = (new ≡ old) ⊎ ((old ≡ InTime) × (new ≡ Late))

-- the counts after this many expansions more of the same plan
pub record GrowBy (count : ℕ) (old new : Counts) : Type 0 where
  pub budget : new.per_plan ≡ old.per_plan
  pub plan : new.plan ≡ old.plan + count
  pub run : new.run ≡ old.run + count
  pub time : GoesOn old.time new.time
