use Rattle.std.proofs.Common.{rules, ◌≡◌, List, ℕ, Option, Some, option_and_then, Result, sym, subst}
use Rattle.sbpl_job.specs.declared.job.Job.{Job}
use Rattle.sbpl_job.specs.declared.job.JobFault.{JobFault}
use Rattle.sbpl_job.specs.declared.job.Sources.{Sources}
use Rattle.sbpl_job.specs.declared.words.Setting.TheVariants as setting
use Rattle.sbpl_job.specs.Found.{set_in}
use Rattle.sbpl_job.specs.Jobs.{Settings, plan_in, plan_on, sources_in}
use Rattle.sbpl_job.specs.Words.{Names}
use Rattle.sbpl_job.proofs.read.plan_of.Goals as goal

plan_by : (env prims : List ℕ) (set : Settings) (from : Sources) (changes : Option (List ℕ)) (r : Result Job JobFault)
    → sources_in env prims set ≡ Some from → changes ≡ set setting.Changes
    → Names (plan_on from changes set) r → Names (plan_in env prims set) r
plan_by env prims set from changes r sources is named =
    subst (λ (o : Option Sources).
    Names (option_and_then (λ (s : Sources). plan_on s (set setting.Changes) set) o) r) (sym sources)
    (subst (λ (o : Option (List ℕ)). Names (plan_on from o set) r) is named)

pub returns-clause-job : goal.returns-clause-job
returns-clause-job c =
    plan_by _ _ (set_in c.args.matches.now) _ c.in_ok-changes.changes _ c.in_ok-sources.ensures.sources
    (search rules) c.plan_on.ensures.job
