use Rattle.std.proofs.Common.{ap, arith}
use Rattle.sbpl_cost.proofs.PlaceLaws.{place_of_state_number}
use Rattle.sbpl_cost.proofs.places.number_of.Goals as goal

pub returns-clause-back : goal.returns-clause-back
returns-clause-back c =
    rw (← c.env.view_is) (place_of_state_number _ c.env.invariant
    (record { x = c.args.x; y = c.args.y; t = c.args.t }) (record {
      x = omega (arith, c.requires.x, ap (λ e. e.width) c.env.view_is);
      y = omega (arith, c.requires.y, ap (λ e. e.height) c.env.view_is);
      t = omega (arith, c.requires.t, ap (λ e. e.headings) c.env.view_is);
    }))
