use Rattle.std.proofs.Common.{Bool, IfErr, sym, subst, true}
use Rattle.sbpl_promises.specs.Causes.{ChangesStopFor, scope_of}
use Rattle.sbpl_worlds.proofs.Explaining.{changes_explained}
use Rattle.sbpl_worlds.proofs.Reading.{changes_refused}
use Rattle.sbpl_worlds.proofs.files.read_change_file.Goals as goal

pub returns-in_ok-text-in-Some-clause-stop : goal.returns-in_ok-text-in-Some-clause-stop
returns-in_ok-text-in-Some-clause-stop g c =
    let s = g.D.Desk.state c.args.desk.now in
    let t = g.D.Desk.state c.read_file.new.desk in
    subst (λ (b : Bool). IfErr c.judge_moving.result (ChangesStopFor s t c.args.changes.now
    (scope_of c.args.states b c.args.lattice.now))) (sym c.if-moving.true)
    (changes_refused s t c.args.changes.now _ (scope_of c.args.states true c.args.lattice.now)
    c.in_ok-text-in-Some.text.items
    c.judge_moving.result c.in-Some.is c.in_ok-text-in-Some.ensures.text
    (rw c.as_slice.ensures.value at c.judge_moving.ensures.stop))

pub returns-in_ok-text-in-Some-clause-explained : goal.returns-in_ok-text-in-Some-clause-explained
returns-in_ok-text-in-Some-clause-explained g c =
    changes_explained (g.D.Desk.state c.args.desk.now).held c.args.changes.now _
    (scope_of c.args.states true c.args.lattice.now) c.in_ok-text-in-Some.text.items c.judge_moving.result c.in-Some.is c.in_ok-text-in-Some.ensures.text
    (rw c.as_slice.ensures.value at c.judge_moving.ensures.stop)
