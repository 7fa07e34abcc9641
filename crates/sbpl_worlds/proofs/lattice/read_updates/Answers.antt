use Rattle.std.proofs.Common.{Some}
use Rattle.std.proofs.lemmas.Result.{err_from_is_err_and}
use Rattle.sbpl_promises.specs.sbpl_report.Refusals.{file_name}
use Rattle.sbpl_promises.specs.Causes.{lattice_files, scope_of}
use Rattle.sbpl_worlds.proofs.Explaining.{explained_before}
use Rattle.sbpl_worlds.proofs.Reading.{updates_since, updates_stop, reads_on}
use Rattle.sbpl_worlds.proofs.lattice.read_updates.Goals as goal

pub returns-in-Err-clause-stop : goal.returns-in-Err-clause-stop
returns-in-Err-clause-stop g c =
    let mid = g.D.Desk.state c.read_lattice.new.desk in
    let end = g.D.Desk.state c.read_change_file.new.desk in
    updates_stop _ mid end (lattice_files c.args.from.now c.args.moving) c.args.changes.now c.in_ok-lattice.lattice
    c.in-Err.stop c.in_ok-lattice.ensures.says c.in_ok-lattice.ensures.frame c.in-Err.ensures.stop

pub returns-in_err-lattice-clause-explained : goal.returns-in_err-lattice-clause-explained
returns-in_err-lattice-clause-explained g c =
    let p = err_from_is_err_and c.from_residual.result c.from_residual.ensures.1 in
    rw (p.1, p.2) (λ labels. c.in_err-lattice.ensures.explained c.args.changes.now labels)

pub returns-in-Err-clause-explained : goal.returns-in-Err-clause-explained
returns-in-Err-clause-explained g c = λ labels.
    explained_before (g.D.Desk.state c.args.desk.now).held (g.D.Desk.state c.read_lattice.new.desk).held
    (file_name c.args.from.now.env (Some c.args.from.now.prims) c.args.changes.now labels) c.in-Err.stop c.in_ok-lattice.ensures.frame.held
    (c.in-Err.ensures.explained c.args.from.now.env (Some c.args.from.now.prims) labels)

pub returns-in-Ok-clause-updates : goal.returns-in-Ok-clause-updates
returns-in-Ok-clause-updates g c =
    let later = (g.D.Desk.state c.read_lattice.new.desk).held in
    record {
      says = c.in_ok-lattice.ensures.says;
      is_world = c.in_ok-lattice.ensures.kept;
      updates_are =
          updates_since _ later c.args.changes.now (scope_of c.args.from.now.states c.args.moving c.in_ok-lattice.lattice)
          c.in-Ok.updates c.in_ok-lattice.ensures.frame.held c.in-Ok.ensures.says;
      in_world = c.in-Ok.ensures.in_world;
    }

pub returns-in-Ok-clause-frame : goal.returns-in-Ok-clause-frame
returns-in-Ok-clause-frame g c = reads_on _ _ _ c.in_ok-lattice.ensures.frame c.read_change_file.ensures.frame

pub returns-in-Err-clause-frame : goal.returns-in-Err-clause-frame
returns-in-Err-clause-frame g c = reads_on _ _ _ c.in_ok-lattice.ensures.frame c.read_change_file.ensures.frame
