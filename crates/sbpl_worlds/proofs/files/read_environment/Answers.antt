use Rattle.std.proofs.lemmas.Result.{err_from_is_err_and}
use Rattle.sbpl_worlds.proofs.Reading.{end_stop}
use Rattle.sbpl_worlds.proofs.files.read_environment.Goals as goal

pub returns-in_err-env-clause-stop : goal.returns-in_err-env-clause-stop
returns-in_err-env-clause-stop g c =
    let p = err_from_is_err_and c.from_residual-in_err-env.result c.from_residual-in_err-env.ensures.1 in
    rw (p.1, p.2) (end_stop (g.D.Desk.state c.args.desk.now) (g.D.Desk.state c.read_file.new.desk) c.args.from.now
    c.in_ok-text.text.items c.in_ok-file.file c.in_ok-file.grid c.in_err-env.field-0.0 c.in_ok-text.ensures.text
    (rw c.as_slice.ensures.value at c.in_ok-file.ensures.stands) c.in_err-env.ensures.stop)
