use Rattle.std.proofs.Common.{pos, Result, Ok, Err, subst}
use Rattle.std.specs.Prelude.{OnOk}
use Rattle.sbpl_cost.specs.Cells.{lattice_cells}
use Rattle.sbpl_cost.specs.Lattices.{network_of}
use Rattle.sbpl_cost.specs.sbpl_terrain.Reading.{AddsEnds}
use Rattle.sbpl_cost.specs.sbpl_terrain.declared.arc_end.ArcEnd.{ArcEnd}
use Rattle.sbpl_back.proofs.TurnedTerrain.{adds_back}
use Rattle.sbpl_back.proofs.reversed.ReversedTerrain.ends_reading.Goals as goal

-- what follows from what holds of a success
on_ok_so : {A E : Type 0} (r : Result A E) (P Q : Type 0) → (P → Q) → OnOk r P → OnOk r Q
on_ok_so (Ok x) P Q so h = so h
on_ok_so (Err e) P Q so h = tt

pub returns-clause-ends : goal.returns-clause-ends
returns-clause-ends c =
    rw (← c.self.view_is) (on_ok_so c.ends_reading.result _ _
    (λ adds. adds_back network_of lattice_cells c.self.inside.lattice c.states-states.ensures.sound
    c.states-states.ensures.tails c.args.end (pos c.args.x) (pos c.args.y) _ _
    (subst (λ (e : ArcEnd). AddsEnds network_of lattice_cells e c.self.inside.lattice (pos c.args.x) (pos c.args.y)
    c.args.into.now.items c.ends_reading.new.into.items) c.other.ensures.other adds)) c.ends_reading.ensures.ends)
