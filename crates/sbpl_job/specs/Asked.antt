-- Words that ask for help or for the version.
use Rattle.std.specs.Prelude.{ℕ, Bool, ◌||◌, List, [], ◌∷◌, Option, Some, None, option_map, codes, if◌then◌else◌}
use Rattle.std.specs.Str.{bytes_eq}
use Rattle.sbpl_job.specs.declared.help.Asked.{Asked}
use Rattle.sbpl_job.specs.declared.help.Asked.TheVariants as asked
use Rattle.sbpl_job.specs.Jobs.{command_named}

-- a word asks for help, alone or after a command
abbrev pub is_help : List ℕ → Bool
is_help word = bytes_eq word (codes "--help") || bytes_eq word (codes "-h")

-- what a word asks for that stands alone
abbrev pub asked_of : List ℕ → Option Asked
asked_of word =
    if bytes_eq word (codes "help") || is_help word then Some asked.Help
    else (if bytes_eq word (codes "--version") || bytes_eq word (codes "-V") then Some asked.Version else None)

-- the help of the command of this name
abbrev pub help_of : List ℕ → Option Asked
help_of word = option_map asked.HelpOf (command_named word)

-- what two words ask for: `help` stands before a command, or a word that asks for help after one
abbrev pub asked_of_two : (word other : List ℕ) → Option Asked
asked_of_two word other = if bytes_eq word (codes "help") then help_of other else (if is_help other then help_of word else None)

-- what words ask for: one word alone, or a command's help
abbrev pub asked_for : List (List ℕ) → Option Asked
asked_for (word ∷ []) = asked_of word
asked_for (word ∷ (other ∷ [])) = asked_of_two word other
asked_for _ = None
