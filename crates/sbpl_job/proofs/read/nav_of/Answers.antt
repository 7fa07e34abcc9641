use Rattle.std.proofs.Common.{rules, ◌≡◌, List, ℕ, Option, Some, option_and_then, Result, sym, subst}
use Rattle.sbpl_job.specs.declared.job.Job.{Job}
use Rattle.sbpl_job.specs.declared.job.JobFault.{JobFault}
use Rattle.sbpl_job.specs.declared.job.GridSources.{GridSources}
use Rattle.sbpl_job.specs.declared.words.Setting.TheVariants as setting
use Rattle.sbpl_job.specs.Found.{set_in}
use Rattle.sbpl_job.specs.Jobs.{Settings, grid_sources_in, nav_in, nav_on}
use Rattle.sbpl_job.specs.Words.{Names}
use Rattle.sbpl_job.proofs.read.nav_of.Goals as goal

names_nav : (env : List ℕ) (set : Settings) (from : GridSources) (changes : Option (List ℕ)) (r : Result Job JobFault)
    → grid_sources_in env set ≡ Some from → changes ≡ set setting.Changes
    → Names (nav_on from changes set) r → Names (nav_in env set) r
names_nav env set from changes r sources is named =
    subst (λ (o : Option GridSources).
    Names (option_and_then (λ (s : GridSources). nav_on s (set setting.Changes) set) o) r) (sym sources)
    (subst (λ (o : Option (List ℕ)). Names (nav_on from o set) r) is named)

pub returns-clause-job : goal.returns-clause-job
returns-clause-job c =
    names_nav _ (set_in c.args.matches.now) _ c.in_ok-changes.changes _ c.in_ok-sources.ensures.sources
    (search rules) c.nav_on.ensures.job
