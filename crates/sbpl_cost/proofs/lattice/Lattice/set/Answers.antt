use Rattle.std.proofs.Common.{w64, sym}
use Rattle.std.proofs.lemmas.Int.{to_z-of_z}
use Rattle.std.proofs.lemmas.Result.{on_ok_weaker}
use Rattle.sbpl_cost.proofs.UnreadCosts.{unread_cost_the_same, still_world, maps_change_costs_alone}
use Rattle.sbpl_cost.proofs.lattice.Lattice.set.Goals as goal

pub invariant_of-self : goal.invariant_of-self
invariant_of-self c =
    let walls =
    c.note_wall.ensures.kept c.self.inside.map (sym c.set-was.ensures.width) (sym c.set-was.ensures.height)
    c.set-was.ensures.written c.self.invariant.walls in
    record {
      world =
          still_world _ c.set-was.new.self c.self.invariant.world c.width-width.ensures.kept c.set-was.ensures.width
          c.set-was.ensures.height;
      leaving = c.self.invariant.leaving;
      entering = c.self.invariant.entering;
      numbers = c.self.invariant.numbers;
      tail_numbers = c.self.invariant.tail_numbers;
      costs = c.self.invariant.costs;
      along = c.self.invariant.along;
      around = c.self.invariant.around;
      reaches = c.self.invariant.reaches;
      walls = walls;
      fractions = c.self.invariant.fractions;
    }

pub returns-clause-on_map : goal.returns-clause-on_map
returns-clause-on_map c =
    let there = rw (to_z-of_z w64 c.args.x c.ranges.x, to_z-of_z w64 c.args.y c.ranges.y) at c.set-was.ensures.on_map in
    rw (← c.self.view_is) there

pub returns-clause-old : goal.returns-clause-old
returns-clause-old c =
    let fits_x = c.ranges.x in
    let fits_y = c.ranges.y in
    let there = simp to_z-of_z at c.set-was.ensures.old in
    rw (← c.self.view_is) there

pub returns-clause-changes : goal.returns-clause-changes
returns-clause-changes c =
    let there =
    rw (to_z-of_z w64 c.args.x c.ranges.x, to_z-of_z w64 c.args.y c.ranges.y) at c.set-was.ensures.changes in
    rw (← c.self.view_is) there

pub returns-clause-unread : goal.returns-clause-unread
returns-clause-unread c =
    let there =
    rw (to_z-of_z w64 c.args.x c.ranges.x, to_z-of_z w64 c.args.y c.ranges.y) at c.set-was.ensures.changes in
    let world = c.self.invariant.world in
    let after =
    still_world _ c.set-was.new.self world c.width-width.ensures.kept c.set-was.ensures.width
    c.set-was.ensures.height in
    rw (← c.self.view_is) (on_ok_weaker c.set-was.result
    (unread_cost_the_same _ c.set-was.new.self c.args.x c.args.y c.args.c world after) there)

pub returns-clause-rest : goal.returns-clause-rest
returns-clause-rest c = rw (← c.self.view_is) (maps_change_costs_alone _ c.set-was.new.self)
