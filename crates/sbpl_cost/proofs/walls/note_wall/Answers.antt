use Rattle.std.proofs.Common.{nat_le, w64, ap, ◌∙◌}
use Rattle.std.proofs.lemmas.Int.{to_z-of_z}
use Rattle.sbpl_sweep.specs.sbpl_cfg.Environment.{Environment}
use Rattle.sbpl_cost.proofs.Walling.{none_noted, noted}
use Rattle.sbpl_cost.proofs.walls.note_wall.Goals as goal

pub returns-in-Some : goal.returns-in-Some
returns-in-Some c = record {
  kept = λ before width height written walls.
      let index =
      rw (to_z-of_z w64 c.args.x c.ranges.x, to_z-of_z w64 c.args.y c.ranges.y) at c.in-Some.ensures.value in
      let here = c.put.ensures.here ∙ ap (λ (e : Environment). nat_le e.obsthresh c.args.cost) c.env.view_is in
      noted c.args.env.now.obsthresh before c.args.map.now c.args.x c.args.y c.in-Some.index c.args.cost
      c.args.walls.now c.put.new.self width height written index c.in-Some.ensures.inside c.put.ensures.len here
      c.put.ensures.others walls;
}

pub returns-in_default : goal.returns-in_default
returns-in_default c = record {
  kept = λ before width height written walls.
      let index =
      rw (to_z-of_z w64 c.args.x c.ranges.x, to_z-of_z w64 c.args.y c.ranges.y) at c.in_default.ensures.value in
      none_noted c.args.env.now.obsthresh before c.args.map.now c.args.x c.args.y c.args.cost c.args.walls.now width
      height written index walls;
}
