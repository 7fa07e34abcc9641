use Rattle.std.proofs.Common.{◌<◌, subst}
use Rattle.sbpl_nav2d.specs.Grids.{network_of}
use Rattle.sbpl_nav2d.specs.World.{GridWorld, IsGridWorld}
use Rattle.sbpl_nav2d.proofs.Networks.{states_of_env}
use Rattle.sbpl_nav2d.proofs.nav.Nav.env.Goals as goal

start_below : (w : GridWorld) → IsGridWorld w → w.env.start < (network_of w).states
start_below w is_world = subst (λ n. w.env.start < n) (states_of_env w is_world) is_world.env.start

end_below : (w : GridWorld) → IsGridWorld w → w.env.end < (network_of w).states
end_below w is_world = subst (λ n. w.env.end < n) (states_of_env w is_world) is_world.env.end

pub returns-clause-start : goal.returns-clause-start
returns-clause-start c = rw (← c.self.view_is) (start_below _ c.self.invariant)

pub returns-clause-end : goal.returns-clause-end
returns-clause-end c = rw (← c.self.view_is) (end_below _ c.self.invariant)
