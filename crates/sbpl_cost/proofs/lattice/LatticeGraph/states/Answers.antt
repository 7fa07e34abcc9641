use Rattle.std.proofs.Common.{sym, ◌∙◌}
use Rattle.sbpl_cost.proofs.LatticeLaws.{sound, gaps}
use Rattle.sbpl_cost.proofs.Tails.{exact_tails}
use Rattle.sbpl_cost.specs.Lattices.{states_are}
use Rattle.sbpl_cost.proofs.lattice.LatticeGraph.states.Goals as goal

pub returns-clause-value : goal.returns-clause-value
returns-clause-value c = rw (← c.self.view_is) (c.state_count.ensures.value ∙ sym (states_are _))

pub returns-clause-sound : goal.returns-clause-sound
returns-clause-sound c = rw (← c.self.view_is) (sound _ c.self.invariant.world)

pub returns-clause-tails : goal.returns-clause-tails
returns-clause-tails c = rw (← c.self.view_is) (exact_tails _ c.self.invariant.world)

pub returns-clause-gaps : goal.returns-clause-gaps
returns-clause-gaps c = rw (← c.self.view_is) (gaps _ c.self.invariant.world)
