use Rattle.sbpl_promises.specs.Texts.{still_scope}
use Rattle.sbpl_worlds.proofs.files.judge_still.Goals as goal

pub returns-in-Err-clause-stop : goal.returns-in-Err-clause-stop
returns-in-Err-clause-stop c =
    c.stop_for.ensures.stop (still_scope c.args.states c.args.map.now) (λ some. c.in-Err.ensures.faulty some)
