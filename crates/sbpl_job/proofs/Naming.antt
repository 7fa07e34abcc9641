-- From what clap found to the job.
use Rattle.std.proofs.Common.{◌≡◌, ◌∙◌, ℕ, true, List, [], ◌∷◌, Option, Some, None, Result, Ok, Err, sym}
use Rattle.std.proofs.Common.{ap, ap₂, subst}
use Rattle.std.proofs.Math.Path.{fun_ext}
use Rattle.std.specs.Prelude.{option_and_then}
use Rattle.clap.specs.Matches.{first_value, found_of}
use Rattle.clap.specs.declared.parser.matches.ArgMatches.{ArgMatches}
use Rattle.sbpl_job.specs.declared.job.Job.{Job}
use Rattle.sbpl_job.specs.declared.job.JobFault.{JobFault}
use Rattle.sbpl_job.specs.declared.job.JobFault.TheVariants as fault
use Rattle.sbpl_job.specs.declared.words.Command.{Command}
use Rattle.sbpl_job.specs.declared.words.Command.TheVariants as command
use Rattle.sbpl_job.specs.Words.{Names, WordParts, are_fit, parts_in}
use Rattle.sbpl_job.specs.Jobs.{Settings, check_in, demo_in, job_by, job_with, nav_check_in, nav_in, plan_in, sweep_in}
use Rattle.sbpl_job.specs.Lines.{plain_id}
use Rattle.sbpl_job.specs.Found.{FindsParts, IsFound, job_found, job_from, set_in, word_at}
use Rattle.sbpl_job.proofs.Spacing.{fit_parts_in}

abbrev Word : Type 0
Word = List ℕ

-- the values of a command's plain words
abbrev AreAt : Command → (Word → Option Word) → List Word → Type 0
AreAt c value ws = (k : ℕ) → option_and_then value (plain_id c k) ≡ word_at ws k

abbrev two : (Word → Word → Option Job) → (x y : Option Word) → Option Job
two job x y = option_and_then (λ a. option_and_then (λ b. job a b) y) x

by_two : (job : Word → Word → Option Job) (x y a b : Option Word) → x ≡ a → y ≡ b → two job x y ≡ two job a b
by_two job x y a b is_a is_b = ap₂ (two job) is_a is_b

abbrev three : (Word → Word → Word → Option Job) → (x y z : Option Word) → Option Job
three job x y z = option_and_then (λ a. option_and_then (λ b. option_and_then (λ d. job a b d) z) y) x

by_three : (job : Word → Word → Word → Option Job) (x y z a b d : Option Word) → x ≡ a → y ≡ b → z ≡ d
    → three job x y z ≡ three job a b d
by_three job x y z a b d is_a is_b is_d =
    ap₂ (λ (u v : Option Word). three job u v z) is_a is_b ∙ ap (three job a b) is_d

too_many : (w : Word) → None ≡ Some w → ⊥
too_many w e = cc

by_words : (c : Command) (value : Word → Option Word) (set : Settings) (ws : List Word) → AreAt c value ws
    → job_from c value set ≡ job_with c ws set
by_words command.Plan value set [] at = by_two (λ a b. plan_in a b set) _ _ None None (at 0) (at 1)
by_words command.Plan value set (a ∷ []) at = by_two (λ a b. plan_in a b set) _ _ (Some a) None (at 0) (at 1)
by_words command.Plan value set (a ∷ (b ∷ [])) at = by_two (λ a b. plan_in a b set) _ _ (Some a) (Some b) (at 0) (at 1)
by_words command.Plan value set (a ∷ (b ∷ (d ∷ more))) at = absurd (too_many d (at 2))
by_words command.Sweep value set [] at = by_two (λ a b. sweep_in a b set) _ _ None None (at 0) (at 1)
by_words command.Sweep value set (a ∷ []) at = by_two (λ a b. sweep_in a b set) _ _ (Some a) None (at 0) (at 1)
by_words command.Sweep value set (a ∷ (b ∷ [])) at =
    by_two (λ a b. sweep_in a b set) _ _ (Some a) (Some b) (at 0) (at 1)
by_words command.Sweep value set (a ∷ (b ∷ (d ∷ more))) at = absurd (too_many d (at 2))
by_words command.Check value set [] at =
    by_three (λ a b d. check_in a b d set) _ _ _ None None None (at 0) (at 1) (at 2)
by_words command.Check value set (a ∷ []) at =
    by_three (λ a b d. check_in a b d set) _ _ _ (Some a) None None (at 0) (at 1) (at 2)
by_words command.Check value set (a ∷ (b ∷ [])) at =
    by_three (λ a b d. check_in a b d set) _ _ _ (Some a) (Some b) None (at 0) (at 1) (at 2)
by_words command.Check value set (a ∷ (b ∷ (d ∷ []))) at =
    by_three (λ a b d. check_in a b d set) _ _ _ (Some a) (Some b) (Some d) (at 0) (at 1) (at 2)
by_words command.Check value set (a ∷ (b ∷ (d ∷ (e ∷ more)))) at = absurd (too_many e (at 3))
by_words command.Demo value set [] at = by_three demo_in _ _ _ None None None (at 0) (at 1) (at 2)
by_words command.Demo value set (a ∷ []) at = by_three demo_in _ _ _ (Some a) None None (at 0) (at 1) (at 2)
by_words command.Demo value set (a ∷ (b ∷ [])) at = by_three demo_in _ _ _ (Some a) (Some b) None (at 0) (at 1) (at 2)
by_words command.Demo value set (a ∷ (b ∷ (d ∷ []))) at =
    by_three demo_in _ _ _ (Some a) (Some b) (Some d) (at 0) (at 1) (at 2)
by_words command.Demo value set (a ∷ (b ∷ (d ∷ (e ∷ more)))) at = absurd (too_many e (at 3))
by_words command.Nav value set [] at = ap (option_and_then (λ env. nav_in env set)) (at 0)
by_words command.Nav value set (a ∷ []) at = ap (option_and_then (λ env. nav_in env set)) (at 0)
by_words command.Nav value set (a ∷ (b ∷ more)) at = absurd (too_many b (at 1))
by_words command.NavCheck value set [] at = by_two (λ a b. nav_check_in a b set) _ _ None None (at 0) (at 1)
by_words command.NavCheck value set (a ∷ []) at = by_two (λ a b. nav_check_in a b set) _ _ (Some a) None (at 0) (at 1)
by_words command.NavCheck value set (a ∷ (b ∷ [])) at =
    by_two (λ a b. nav_check_in a b set) _ _ (Some a) (Some b) (at 0) (at 1)
by_words command.NavCheck value set (a ∷ (b ∷ (d ∷ more))) at = absurd (too_many d (at 2))

-- the job of what was found is that of the parts
found_is : (c : Command) (m : ArgMatches) (p : WordParts) → IsFound c (found_of m) p → job_found c m ≡ job_by c p
found_is c m p found =
    by_words c (first_value (found_of m)) (set_in m) p.plain found.plain
    ∙ ap (job_with c p.plain) (fun_ext found.settings)

pub names_found : (c : Command) (ws : List Word) (m : ArgMatches) (r : Result Job JobFault) → are_fit c ws ≡ true
    → FindsParts c ws (Ok m) → Names (job_found c m) r → Names (option_and_then (job_by c) (parts_in c ws)) r
names_found c ws m r fit finds names =
    subst (λ (o : Option Job). Names o r)
    (found_is c m finds.0 finds.2 ∙ sym (ap (option_and_then (job_by c)) (fit_parts_in c ws fit ∙ finds.1))) names

pub names_fault : (c : Command) (ws : List Word) (f : JobFault) → are_fit c ws ≡ true → FindsParts c ws (Err f)
    → Names {X = Job} (option_and_then (job_by c) (parts_in c ws)) (Err f)
names_fault c ws fault.Words fit finds = ap (option_and_then (job_by c)) (fit_parts_in c ws fit) ∙ finds
names_fault c ws fault.NoMemory fit finds = tt
