use Rattle.std.proofs.Common.{List, None, Option, IfSome, sym, subst}
use Rattle.std.proofs.lemmas.Result.{err_from_is_err_and}
use Rattle.sbpl_promises.specs.sbpl_report.Refusals.{file_name}
use Rattle.sbpl_promises.specs.sbpl_cfg.declared.pose.Place.{Place}
use Rattle.sbpl_promises.specs.sbpl_map.CellMap.{CellMap}
use Rattle.sbpl_promises.specs.sbpl_map.ChangeText.{AreOnMap}
use Rattle.sbpl_promises.specs.Causes.{AreMovesIn, ChangesStopFor, ReadsUpdates, grid_files, grid_scope}
use Rattle.sbpl_promises.specs.GridSite.{grid_site}
use Rattle.sbpl_promises.specs.Texts.{still_scope}
use Rattle.sbpl_worlds.proofs.Explaining.{explained_before}
use Rattle.sbpl_worlds.proofs.Reading.{updates_since, updates_stop, reads_on}
use Rattle.sbpl_worlds.proofs.grid.read_grid_updates.Goals as goal

pub returns-in-Err-clause-stop : goal.returns-in-Err-clause-stop
returns-in-Err-clause-stop g c =
    let mid = g.D.Desk.state c.read_grid.new.desk in
    let end = g.D.Desk.state c.read_still.new.desk in
    updates_stop _ mid end (grid_files c.args.from.now) c.args.changes.now c.in_ok-nav.nav c.in-Err.stop
    c.in_ok-nav.ensures.says c.in_ok-nav.ensures.frame
    (subst (λ (m : CellMap). ChangesStopFor mid end c.args.changes.now (still_scope c.args.from.now.states m) c.in-Err.stop)
    c.map.ensures.map c.in-Err.ensures.stop)

pub returns-in_err-nav-clause-explained : goal.returns-in_err-nav-clause-explained
returns-in_err-nav-clause-explained g c =
    let p = err_from_is_err_and c.from_residual.result c.from_residual.ensures.1 in
    rw (p.1, p.2) (λ labels. c.in_err-nav.ensures.explained c.args.changes.now labels)

pub returns-in-Err-clause-explained : goal.returns-in-Err-clause-explained
returns-in-Err-clause-explained g c = λ labels.
    explained_before (g.D.Desk.state c.args.desk.now).held (g.D.Desk.state c.read_grid.new.desk).held
    (file_name c.args.from.now.env None c.args.changes.now labels) c.in-Err.stop c.in_ok-nav.ensures.frame.held (c.in-Err.ensures.explained c.args.from.now.env None labels)

pub returns-in-Ok-clause-updates : goal.returns-in-Ok-clause-updates
returns-in-Ok-clause-updates g c =
    let later = (g.D.Desk.state c.read_grid.new.desk).held in
    let w = c.in_ok-nav.nav in
    let updates = c.in-Ok.updates in
    record {
      says = c.in_ok-nav.ensures.says;
      is_world = c.in_ok-nav.ensures.kept;
      updates_are = updates_since _ later c.args.changes.now (grid_scope c.args.from.now.states w) updates c.in_ok-nav.ensures.frame.held
          (subst (λ (m : CellMap). ReadsUpdates later c.args.changes.now (still_scope c.args.from.now.states m) updates)
          c.map.ensures.map c.in-Ok.ensures.says);
      in_world = record {
        on_map = subst (λ (m : CellMap). AreOnMap m updates.batches) c.map.ensures.map c.in-Ok.ensures.on_map;
        moves =
            subst (λ (o : Option (List (Option Place))). IfSome o (AreMovesIn grid_site w updates.batches))
            (sym c.in-Ok.ensures.stays) tt;
        stays = λ is. c.in-Ok.ensures.stays;
      };
    }

pub returns-in-Ok-clause-frame : goal.returns-in-Ok-clause-frame
returns-in-Ok-clause-frame g c = reads_on _ _ _ c.in_ok-nav.ensures.frame c.read_still.ensures.frame

pub returns-in-Err-clause-frame : goal.returns-in-Err-clause-frame
returns-in-Err-clause-frame g c = reads_on _ _ _ c.in_ok-nav.ensures.frame c.read_still.ensures.frame
