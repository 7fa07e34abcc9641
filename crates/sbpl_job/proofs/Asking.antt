-- Words that ask for help or for the version name no job.
use Rattle.std.proofs.Common.{◌≡◌, ◌∙◌, ℕ, Bool, true, false, List, [], ◌∷◌, Option, Some, None, refl, ap}
use Rattle.std.specs.Prelude.{◌||◌, IsSome, codes, option_and_then, if◌then◌else◌}
use Rattle.std.specs.Str.{bytes_eq}
use Rattle.std.proofs.lemmas.Slice.Eq.{bytes_eq-Decides}
use Rattle.sbpl_job.specs.declared.job.Job.{Job}
use Rattle.sbpl_job.specs.declared.words.Command.{Command}
use Rattle.sbpl_job.specs.declared.words.Command.TheVariants as command
use Rattle.sbpl_job.specs.Asked.{asked_for, help_of, is_help}
use Rattle.sbpl_job.specs.Jobs.{command_named, job_by, job_of}
use Rattle.sbpl_job.specs.Words.{parts_of}

abbrev Word : Type 0
Word = List ℕ

-- the job of a command with these words after it
abbrev job_of_words : List Word → Command → Option Job
job_of_words words c = option_and_then (job_by c) (parts_of c words)

-- a command alone is no job
alone : (c : Command) → job_of_words [] c ≡ None
alone command.Plan = refl
alone command.Check = refl
alone command.Sweep = refl
alone command.Demo = refl
alone command.Nav = refl
alone command.NavCheck = refl

-- a command takes no setting of the name `--help` or `-h`
with_help : (c : Command) → job_of_words (codes "--help" ∷ []) c ≡ None
with_help command.Plan = refl
with_help command.Check = refl
with_help command.Sweep = refl
with_help command.Demo = refl
with_help command.Nav = refl
with_help command.NavCheck = refl

with_short : (c : Command) → job_of_words (codes "-h" ∷ []) c ≡ None
with_short command.Plan = refl
with_short command.Check = refl
with_short command.Sweep = refl
with_short command.Demo = refl
with_short command.Nav = refl
with_short command.NavCheck = refl

none_by : (words : List Word) → ((c : Command) → job_of_words words c ≡ None) → (o : Option Command)
    → option_and_then (job_of_words words) o ≡ None
none_by words none None = refl
none_by words none (Some c) = none c

-- a word that asks for help follows
help_after : (word other : Word) (long : Bool) → bytes_eq other (codes "--help") ≡ long
    → (long || bytes_eq other (codes "-h")) ≡ true → job_of (word ∷ (other ∷ [])) ≡ None
help_after word other true is so =
    ap (λ (w : Word). job_of (word ∷ (w ∷ []))) ((bytes_eq-Decides other (codes "--help")).0 is)
    ∙ none_by (codes "--help" ∷ []) with_help (command_named word)
help_after word other false is so =
    ap (λ (w : Word). job_of (word ∷ (w ∷ []))) ((bytes_eq-Decides other (codes "-h")).0 so)
    ∙ none_by (codes "-h" ∷ []) with_short (command_named word)

-- two words ask for help: `help` names no command, and no command takes a word that asks for help
two_no_job : (word other : Word) (first second : Bool) → bytes_eq word (codes "help") ≡ first → is_help other ≡ second
    → IsSome (if first then help_of other else (if second then help_of word else None)) → job_of (word ∷ (other ∷ [])) ≡ None
two_no_job word other true second is_first is_second some =
    ap (λ (w : Word). job_of (w ∷ (other ∷ []))) ((bytes_eq-Decides word (codes "help")).0 is_first)
two_no_job word other false true is_first is_second some = help_after word other (bytes_eq other (codes "--help")) refl is_second
two_no_job word other false false is_first is_second some = cc

pub asked_no_job : (words : List Word) → IsSome (asked_for words) → job_of words ≡ None
asked_no_job [] some = refl
asked_no_job (word ∷ []) some = none_by [] alone (command_named word)
asked_no_job (word ∷ (other ∷ [])) some = two_no_job word other (bytes_eq word (codes "help")) (is_help other) refl refl some
asked_no_job (word ∷ (other ∷ (next ∷ words))) some = cc
