use Rattle.sbpl_promises.specs.Texts.{still_scope}
use Rattle.sbpl_worlds.proofs.Explaining.{changes_explained}
use Rattle.sbpl_worlds.proofs.Reading.{changes_refused}
use Rattle.sbpl_worlds.proofs.files.read_still.Goals as goal

pub returns-clause-stop : goal.returns-clause-stop
returns-clause-stop g c =
    changes_refused (g.D.Desk.state c.args.desk.now) (g.D.Desk.state c.read_file.new.desk) c.args.changes.now _
    (still_scope c.args.states c.args.map.now) c.in_ok-text.text.items c.judge_still.result c.in-Some.is c.in_ok-text.ensures.text
    (rw c.as_slice.ensures.value at c.judge_still.ensures.stop)

pub returns-clause-explained : goal.returns-clause-explained
returns-clause-explained g c =
    changes_explained (g.D.Desk.state c.args.desk.now).held c.args.changes.now _ (still_scope c.args.states c.args.map.now)
    c.in_ok-text.text.items c.judge_still.result c.in-Some.is c.in_ok-text.ensures.text
    (rw c.as_slice.ensures.value at c.judge_still.ensures.stop)
