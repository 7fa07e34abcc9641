use Rattle.std.proofs.Common.{sym}
use Rattle.sbpl_terrain.proofs.Noting.{still_costs, still_noted}
use Rattle.sbpl_terrain.proofs.costs.note.Goals as goal

pub returns-in_ok-insert-clause-sound : goal.returns-in_ok-insert-clause-sound
returns-in_ok-insert-clause-sound g c =
    still_costs (g.W.Terrain.cells.map c.args.world.now) c.args.costs.now c.insert.new.self c.args.write.now.x
    c.args.write.now.y c.in-Some.cost (sym c.in-Some.ensures.value) c.requires.sound c.in_ok-insert.ensures.updates

pub returns-in_ok-insert-clause-kept : goal.returns-in_ok-insert-clause-kept
returns-in_ok-insert-clause-kept g c =
    still_noted c.args.costs.now c.insert.new.self c.args.write.now.x c.args.write.now.y c.in-Some.cost
    c.in_ok-insert.ensures.updates
