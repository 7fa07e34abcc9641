use Rattle.std.proofs.Common.{pos, ◌-ℤ◌, arith}
use Rattle.std.proofs.lemmas.Int.{ints}
use Rattle.sbpl_cost.proofs.Plane.{same_place}
use Rattle.sbpl_cost.proofs.reading.source_of.Goals as goal

pub returns : goal.returns
returns c =
    let cell = c.args.cell in
    let near = c.requires.near in
    record {
      value =
          same_place c.args.env.now (pos c.args.x -ℤ cell.x) (pos c.args.y -ℤ cell.y) _ _ c.args.t _
          c.place_on_map.ensures.value (omega (arith, ints, near.0, near.1)) (omega (arith, ints, near.0, near.1));
    }
