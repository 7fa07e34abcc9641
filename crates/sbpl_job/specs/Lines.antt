-- The command line of each command, as it is given to clap.
use Rattle.std.specs.Prelude.{◌≡◌, ℕ, zero, suc, true, List, [], ◌∷◌, Option, Some, None, Result, IfOk, codes}
use Rattle.std.specs.Option.{option_map_or}
use Rattle.clap.specs.Walk.{Rule, Text}
use Rattle.clap.specs.Simple.{App, Shape, app_of, filled_from, new_rule, new_shape}
use Rattle.clap.specs.declared.builder.command.Command.{Command as Built}
use Rattle.sbpl_job.specs.declared.arguments.Argument.{Argument}
use Rattle.sbpl_job.specs.declared.words.Command.{Command}
use Rattle.sbpl_job.specs.declared.words.Command.TheVariants as command

-- what the plain words of a command are called
abbrev pub plain_id : Command → ℕ → Option Text
plain_id command.Plan zero = Some (codes "ENV")
plain_id command.Plan (suc zero) = Some (codes "MPRIM")
plain_id command.Plan (suc (suc k)) = None
plain_id command.Check zero = Some (codes "ENV")
plain_id command.Check (suc zero) = Some (codes "MPRIM")
plain_id command.Check (suc (suc zero)) = Some (codes "LABELS")
plain_id command.Check (suc (suc (suc k))) = None
plain_id command.Sweep zero = Some (codes "ENV")
plain_id command.Sweep (suc zero) = Some (codes "MPRIM")
plain_id command.Sweep (suc (suc k)) = None
plain_id command.Demo zero = Some (codes "SEED")
plain_id command.Demo (suc zero) = Some (codes "W")
plain_id command.Demo (suc (suc zero)) = Some (codes "H")
plain_id command.Demo (suc (suc (suc k))) = None
plain_id command.Nav zero = Some (codes "ENV")
plain_id command.Nav (suc k) = None
plain_id command.NavCheck zero = Some (codes "ENV")
plain_id command.NavCheck (suc zero) = Some (codes "LABELS")
plain_id command.NavCheck (suc (suc k)) = None

-- an argument that must stand, and an option with one value, which has a name
abbrev pub plain_rule : Text → Rule
plain_rule id = record (new_rule id) { required = true }

abbrev pub option_rule : Text → Rule
option_rule id = record (new_rule id) { long = Some id; value_names = 1 }

-- what clap is told of an argument: it is an option where its value has a name
abbrev pub rule_for : Argument → Rule
rule_for a = option_map_or (λ _. option_rule a.id.now) a.value (plain_rule a.id.now)

-- the options that place the start and the goal
abbrev pub end_options : List Rule → List Rule
end_options more = option_rule (codes "start") ∷ (option_rule (codes "goal") ∷ more)

-- the options of a plan on any graph: how to search, when to end, and what to write
abbrev pub plan_options : List Rule
plan_options =
    option_rule (codes "planner") ∷ (option_rule (codes "workers") ∷ (option_rule (codes "first")
    ∷ (option_rule (codes "step") ∷ (option_rule (codes "bound") ∷ (option_rule (codes "budget")
    ∷ (option_rule (codes "states") ∷ (option_rule (codes "labels") ∷ (option_rule (codes "labels-as")
    ∷ (option_rule (codes "trace") ∷ (option_rule (codes "incumbent") ∷ []))))))))))

-- the option of the limit of states, where it is the last
abbrev pub states_option : List Rule
states_option = option_rule (codes "states") ∷ []

-- the arguments of a command, in order
abbrev pub arguments : Command → List Rule
arguments command.Plan =
    plain_rule (codes "ENV") ∷ (plain_rule (codes "MPRIM")
    ∷ (option_rule (codes "changes") ∷ end_options (option_rule (codes "radius") ∷ plan_options)))
arguments command.Check = plain_rule (codes "ENV") ∷ (plain_rule (codes "MPRIM") ∷ (plain_rule (codes "LABELS") ∷ (option_rule (codes "changes")
    ∷ end_options (option_rule (codes "radius") ∷ (option_rule (codes "planner") ∷ states_option)))))
arguments command.Sweep = plain_rule (codes "ENV") ∷ (plain_rule (codes "MPRIM") ∷ (option_rule (codes "radius") ∷ states_option))
arguments command.Demo = plain_rule (codes "SEED") ∷ (plain_rule (codes "W") ∷ (plain_rule (codes "H") ∷ []))
arguments command.Nav = plain_rule (codes "ENV") ∷ (option_rule (codes "changes") ∷ end_options plan_options)
arguments command.NavCheck = plain_rule (codes "ENV") ∷ (plain_rule (codes "LABELS") ∷ (option_rule (codes "changes") ∷ end_options states_option))

abbrev pub word_of : Command → Text
word_of command.Plan = codes "plan"
word_of command.Check = codes "check"
word_of command.Sweep = codes "sweep"
word_of command.Demo = codes "demo"
word_of command.Nav = codes "nav"
word_of command.NavCheck = codes "navcheck"

-- a line without arguments, which reads words alone, with no name of the program before them, and knows no help
abbrev pub bare_shape : Text → Shape
bare_shape word = record (new_shape word) { no_binary_name = true; disable_help_flag = true }

abbrev pub bare : Text → App
bare word = record { top = bare_shape word; subs = [] }

-- what was made is this line, if there was memory for it
abbrev pub IsLine : {E : Type 0} → Result Built E → App → Type 0
IsLine line a = IfOk line (λ l. app_of l ≡ a)

-- the line of a command
abbrev pub app : Command → App
app c = record { top = record (bare_shape (word_of c)) { rules = arguments c }; subs = [] }

abbrev pub rules : Command → List Rule
rules c = filled_from 1 (arguments c)
