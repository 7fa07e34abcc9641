use Rattle.std.proofs.Common.{arith}
use Rattle.sbpl_nav2d.proofs.Networks.{states_are}
use Rattle.sbpl_nav2d.proofs.nav.Nav.state_at.Goals as goal

pub returns-clause-inside : goal.returns-clause-inside
returns-clause-inside c =
    let h = c.in_ok-index.ensures.inside in
    rw (← c.self.view_is, states_are) (omega (arith, h, c.self.invariant.map.cells))
