-- What clap found in words, and what it is to have found their parts.
use Rattle.std.specs.Prelude.{◌≡◌, ℕ, zero, suc, List, [], ◌∷◌, Option, Some, None, option_and_then, Result, Ok, Err, codes}
use Rattle.clap.specs.Matches.{first_value, found_of}
use Rattle.clap.specs.declared.parser.matches.ArgMatches.{ArgMatches}
use Rattle.clap.specs.declared.parser.matches.Found.{Found}
use Rattle.sbpl_job.specs.declared.job.JobFault.{JobFault}
use Rattle.sbpl_job.specs.declared.job.JobFault.TheVariants.{Words, NoMemory}
use Rattle.sbpl_job.specs.declared.job.Job.{Job}
use Rattle.sbpl_job.specs.declared.words.Command.{Command}
use Rattle.sbpl_job.specs.declared.words.Command.TheVariants as command
use Rattle.sbpl_job.specs.declared.words.Setting.{Setting}
use Rattle.sbpl_job.specs.Words.{WordParts, id_of, parts_after, value_of}
use Rattle.sbpl_job.specs.Lines.{plain_id}
use Rattle.sbpl_job.specs.Jobs.{Settings, check_in, demo_in, job_by, nav_check_in, nav_in, plan_in, sweep_in}

-- the values that were found for settings
abbrev pub set_in : ArgMatches → Settings
set_in m s = first_value (found_of m) (id_of s)

-- the word at an index
abbrev pub word_at : List (List ℕ) → ℕ → Option (List ℕ)
word_at [] k = None
word_at (word ∷ words) zero = Some word
word_at (word ∷ words) (suc k) = word_at words k

-- each argument has the value that the parts give it
pub record IsFound (c : Command) (f : Found) (p : WordParts) : Type 0 where
  pub settings : (s : Setting) → first_value f (id_of s) ≡ value_of s p.given
  pub plain : (k : ℕ) → option_and_then (first_value f) (plain_id c k) ≡ word_at p.plain k

-- the parts of spaced words were found; or they have none, or none that name a job
abbrev pub FindsParts : Command → List (List ℕ) → Result ArgMatches JobFault → Type 0
FindsParts c words (Ok m) = (p : WordParts) × (parts_after c None words ≡ Some p) × IsFound c (found_of m) p
FindsParts c words (Err Words) = option_and_then (job_by c) (parts_after c None words) ≡ None
FindsParts c words (Err NoMemory) = Unit {0}

-- the job of the values that arguments have
abbrev pub job_from : Command → (List ℕ → Option (List ℕ)) → Settings → Option Job
job_from command.Plan value set = option_and_then (λ env. option_and_then (λ prims. plan_in env prims set) (value (codes "MPRIM"))) (value (codes "ENV"))
job_from command.Check value set =
    option_and_then (λ env. option_and_then (λ prims. option_and_then (λ labels. check_in env prims labels set) (value (codes "LABELS"))) (value (codes "MPRIM"))) (value (codes "ENV"))
job_from command.Sweep value set = option_and_then (λ env. option_and_then (λ prims. sweep_in env prims set) (value (codes "MPRIM"))) (value (codes "ENV"))
job_from command.Demo value set =
    option_and_then (λ seed. option_and_then (λ width. option_and_then (λ height. demo_in seed width height) (value (codes "H"))) (value (codes "W"))) (value (codes "SEED"))
job_from command.Nav value set = option_and_then (λ env. nav_in env set) (value (codes "ENV"))
job_from command.NavCheck value set =
    option_and_then (λ env. option_and_then (λ labels. nav_check_in env labels set) (value (codes "LABELS"))) (value (codes "ENV"))

abbrev pub job_found : Command → ArgMatches → Option Job
job_found c m = job_from c (first_value (found_of m)) (set_in m)
