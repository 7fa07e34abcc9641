use Rattle.std.proofs.Common.{pos, ◌-ℤ◌, arith}
use Rattle.std.proofs.lemmas.Int.{ints}
use Rattle.sbpl_cost.proofs.Plane.{same_state}
use Rattle.sbpl_cost.proofs.places.start_state.Goals as goal

pub returns : goal.returns
returns c =
    let p = c.args.target in
    let prim = c.args.prim.now in
    record {
      value =
          same_state c.args.env.now (pos p.x -ℤ prim.dx) (pos p.y -ℤ prim.dy) _ _ prim.from _ c.state_in.ensures.value
          (omega (arith, ints)) (omega (arith, ints));
    }
