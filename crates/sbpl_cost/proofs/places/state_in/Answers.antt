use Rattle.std.proofs.Common.{Some, ap, ◌∙◌, arith}
use Rattle.std.proofs.lemmas.Int.{ints}
use Rattle.sbpl_cost.proofs.Plane.{state_by_place}
use Rattle.sbpl_cost.proofs.places.state_in.Goals as goal

pub returns-in_err-place : goal.returns-in_err-place
returns-in_err-place c =
    record {
      value = c.from_residual.ensures
          ∙ state_by_place c.args.env.now c.args.t c.args.x c.args.y _ _ _ c.in_err-place.ensures.value
          (omega (arith, ints)) (omega (arith, ints));
    }

pub returns : goal.returns
returns c =
    let found =
    state_by_place c.args.env.now c.args.t c.args.x c.args.y _ _ _ c.in_ok-place.ensures.value (omega (arith, ints))
    (omega (arith, ints)) in
    record { value = ap (λ n. Some n) c.number_of.ensures.number ∙ found }
