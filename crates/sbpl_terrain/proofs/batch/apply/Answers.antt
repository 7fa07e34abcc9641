use Rattle.std.proofs.Common.{OnOk, sym, subst}
use Rattle.std.proofs.lemmas.Result.{on_ok_weaker}
use Rattle.sbpl_terrain.specs.ChangedEnds.{AreEndsOf}
use Rattle.sbpl_terrain.specs.Affected.{KeepArcsElsewhere}
use Rattle.sbpl_terrain.proofs.Touching.{ends_are_touched, arcs_kept_elsewhere}
use Rattle.sbpl_terrain.proofs.batch.apply.Goals as goal

pub returns-clause-touched : goal.returns-clause-touched
returns-clause-touched g c =
    let n = g.W.Graph.network in
    let cells = g.W.Terrain.cells in
    let w = c.args.world.now in
    let touched = c.add_changed_ends.new.ends.items in
    on_ok_weaker c.add_changed_ends.result
    (ends_are_touched n cells c.is_terrain.ensures.law c.args.end w (cells.map c.write_batch.new.world)
    c.map-map.ensures.kept (subst (λ l. cells.is_made l) c.write_batch.ensures.others c.write_batch.ensures.kept)
    c.args.batch.now c.in_ok-costs.costs touched c.in_ok-costs.ensures.noted c.write_batch.ensures.written)
    (subst (λ l. OnOk c.add_changed_ends.result (AreEndsOf n cells c.args.end l c.in_ok-costs.costs touched))
    c.write_batch.ensures.others c.add_changed_ends.ensures.ends)

pub returns-clause-same_arcs : goal.returns-clause-same_arcs
returns-clause-same_arcs g c =
    let n = g.W.Graph.network in
    let cells = g.W.Terrain.cells in
    let w = c.args.world.now in
    let touched = c.add_changed_ends.new.ends.items in
    on_ok_weaker c.add_changed_ends.result
    (λ are. subst (λ l. KeepArcsElsewhere c.args.end (n w) (n l) touched) (sym c.write_batch.ensures.others)
    (arcs_kept_elsewhere n cells c.is_terrain.ensures.law c.args.end w
    (cells.map c.write_batch.new.world) c.map-map.ensures.kept
    (subst (λ l. cells.is_made l) c.write_batch.ensures.others c.write_batch.ensures.kept) touched are))
    (returns-clause-touched g c)
