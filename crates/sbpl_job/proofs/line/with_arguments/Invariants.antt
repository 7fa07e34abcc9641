use Rattle.std.proofs.Common.{fold, map, take}
use Rattle.clap.specs.Simple.{App, with_rule}
use Rattle.sbpl_job.specs.Lines.{IsLine, rule_for}
use Rattle.sbpl_job.proofs.line.with_arguments.Given as goal

-- the line has the arguments that were gone through
abbrev pub invariant-loop-argument : goal.invariant-loop-argument
invariant-loop-argument l =
    (a : App) → IsLine l.fn.line a → IsLine l.line (fold with_rule a (map rule_for (take l.argument-index l.arguments)))
