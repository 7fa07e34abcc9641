use Rattle.std.proofs.Common.{rules, sym, subst}
use Rattle.std.proofs.lemmas.Result.{err_from_is_err_and}
use Rattle.sbpl_promises.specs.sbpl_cost.World.{World}
use Rattle.sbpl_promises.specs.Causes.{ReadsWorld}
use Rattle.sbpl_worlds.proofs.Explaining.{lattice_before}
use Rattle.sbpl_worlds.proofs.Reading.{dear_stop, primitives_before, primitives_stop, reads_on, wide_stop}
use Rattle.sbpl_worlds.proofs.lattice.read_lattice.Goals as goal

pub returns-in-Ok-clause-says : goal.returns-in-Ok-clause-says
returns-in-Ok-clause-says g c =
    subst (λ (w : World). ReadsWorld (g.D.Desk.state c.args.desk.now).held c.args.from.now w)
    (sym c.in-Ok.ensures.world) (record {
      cells = c.in_ok-env.grid;
      environment = c.in_ok-env.ensures.says;
      primitives = primitives_before _ _ _ _ _ c.in_ok-env.ensures.frame.held c.in_ok-prims.ensures.says;
      sweeps = c.in_ok-sweeps.ensures.made;
      narrow = c.in_ok-sweeps.ensures.narrow;
      map = c.new-map.ensures.map;
      cheap = λ i p at. (c.in-Ok.ensures.cheap i p at).1;
    })

pub returns-in-Ok-clause-frame : goal.returns-in-Ok-clause-frame
returns-in-Ok-clause-frame g c = reads_on _ _ _ c.read_environment.ensures.frame c.read_primitives.ensures.frame

pub returns-in_err-prims-clause-stop : goal.returns-in_err-prims-clause-stop
returns-in_err-prims-clause-stop g c =
    let stop =
    primitives_stop (g.D.Desk.state c.args.desk.now) (g.D.Desk.state c.read_environment.new.desk)
    (g.D.Desk.state c.read_primitives.new.desk) c.args.from.now c.in_ok-env.env c.in_ok-env.grid
    c.in_err-prims.field-0.0 c.in_ok-env.ensures.says c.in_ok-env.ensures.frame c.in_err-prims.ensures.stop in
    search rules

pub returns-in_err-prims-clause-explained : goal.returns-in_err-prims-clause-explained
returns-in_err-prims-clause-explained g c =
    let p = err_from_is_err_and c.from_residual-in_err-prims.result c.from_residual-in_err-prims.ensures.1 in
    rw (p.1, p.2) (lattice_before (g.D.Desk.state c.args.desk.now).held
    (g.D.Desk.state c.read_environment.new.desk).held c.args.from.now c.in_err-prims.field-0.0
    c.in_ok-env.ensures.frame.held c.in_err-prims.ensures.explained)

pub returns-in_err-sweeps-clause-stop : goal.returns-in_err-sweeps-clause-stop
returns-in_err-sweeps-clause-stop g c =
    let prims = primitives_before _ _ _ _ _ c.in_ok-env.ensures.frame.held c.in_ok-prims.ensures.says in
    let stop =
    wide_stop (g.D.Desk.state c.args.desk.now) (g.D.Desk.state c.read_primitives.new.desk) c.args.from.now
    c.in_ok-env.env c.in_ok-env.grid c.in_ok-prims.prims c.in_err-sweeps.field-0.0 c.in_ok-env.ensures.says prims
    c.in_err-sweeps.ensures.stop in
    search rules

pub returns-in-Err-TooDear-clause-stop : goal.returns-in-Err-TooDear-clause-stop
returns-in-Err-TooDear-clause-stop g c =
    dear_stop (g.D.Desk.state c.args.desk.now) (g.D.Desk.state c.read_primitives.new.desk) c.args.from.now _
    c.dear_stop.result c.dear_stop.ensures.stop (record {
      env = c.in_ok-env.env;
      cells = c.in_ok-env.grid;
      prims = c.in_ok-prims.prims;
      environment = c.in_ok-env.ensures.says;
      primitives = primitives_before _ _ _ _ _ c.in_ok-env.ensures.frame.held c.in_ok-prims.ensures.says;
      narrow = c.in_ok-sweeps.ensures.narrow;
      dear = rw c.in-Err-TooDear.field-0-is at c.in-Err-TooDear.ensures.cause;
    })

pub returns-in_err-prims-clause-frame : goal.returns-in_err-prims-clause-frame
returns-in_err-prims-clause-frame g c = reads_on _ _ _ c.read_environment.ensures.frame c.read_primitives.ensures.frame

pub returns-in_err-sweeps-clause-frame : goal.returns-in_err-sweeps-clause-frame
returns-in_err-sweeps-clause-frame g c = reads_on _ _ _ c.read_environment.ensures.frame c.read_primitives.ensures.frame

pub returns-in-Err-TooDear-clause-frame : goal.returns-in-Err-TooDear-clause-frame
returns-in-Err-TooDear-clause-frame g c =
    reads_on _ _ _ c.read_environment.ensures.frame c.read_primitives.ensures.frame

pub returns-in-Err-NoMemory-clause-frame : goal.returns-in-Err-NoMemory-clause-frame
returns-in-Err-NoMemory-clause-frame g c =
    reads_on _ _ _ c.read_environment.ensures.frame c.read_primitives.ensures.frame
