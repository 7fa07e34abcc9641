use Rattle.std.proofs.Common.{ℕ, List}
use Rattle.std.proofs.lemmas.Result.{IfOk-weaker}
use Rattle.sbpl_fixed.proofs.Meaning.{answers_given, found_if_answered, only_if_answered}
use Rattle.sbpl_terrain.specs.sbpl_cfg.declared.fault.EnvFault.TheVariants.{NoMemory}
use Rattle.sbpl_nav2d.specs.Environment.{NavEnvironment}
use Rattle.sbpl_terrain.specs.sbpl_cfg.Faults.{told}
use Rattle.sbpl_nav2d.specs.Format.{environment_format}
use Rattle.sbpl_nav2d.proofs.TextLaws.{says_text, text_said}
use Rattle.sbpl_nav2d.proofs.read.read_nav.Goals as goal

pub returns-clause-found : goal.returns-clause-found
returns-clause-found c =
    let text = c.args.text.now in
    let view : (NavEnvironment × List ℕ) → NavEnvironment × List ℕ = λ y. y in
    IfOk-weaker c.environment.result _ _ (λ x h. text_said c.args.states text x c.requires.limit h)
    (found_if_answered told (environment_format c.args.states) text NoMemory view c.environment.result
    (answers_given told (environment_format c.args.states) text NoMemory view c.environment.result c.environment.new.reader
    (rw c.new.ensures.start at c.environment.ensures.read)))

pub returns-clause-only : goal.returns-clause-only
returns-clause-only c x h =
    let text = c.args.text.now in
    let view : (NavEnvironment × List ℕ) → NavEnvironment × List ℕ = λ y. y in
    only_if_answered told (environment_format c.args.states) text NoMemory view c.environment.result
    (answers_given told (environment_format c.args.states) text NoMemory view c.environment.result c.environment.new.reader
    (rw c.new.ensures.start at c.environment.ensures.read))
    x (says_text c.args.states text x h)
