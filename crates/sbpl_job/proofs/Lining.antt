-- The line of a command is a bare one with the command's arguments.
use Rattle.std.proofs.Common.{◌≡◌, fold, refl}
use Rattle.clap.specs.Simple.{with_rule}
use Rattle.sbpl_job.specs.declared.words.Command.{Command}
use Rattle.sbpl_job.specs.declared.words.Command.TheVariants as command
use Rattle.sbpl_job.specs.Lines.{app, arguments, bare, word_of}

pub line_is : (c : Command) → fold with_rule (bare (word_of c)) (arguments c) ≡ app c
line_is command.Plan = refl
line_is command.Check = refl
line_is command.Sweep = refl
line_is command.Demo = refl
line_is command.Nav = refl
line_is command.NavCheck = refl
