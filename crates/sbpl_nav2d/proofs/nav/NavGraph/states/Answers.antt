use Rattle.std.proofs.Common.{refl}
use Rattle.sbpl_nav2d.proofs.GraphLaws.{sound, gaps}
use Rattle.sbpl_nav2d.proofs.Networks.{states_are}
use Rattle.sbpl_nav2d.proofs.Tails.{exact_tails}
use Rattle.sbpl_nav2d.proofs.nav.NavGraph.states.Goals as goal

pub returns-clause-value : goal.returns-clause-value
returns-clause-value c = rw (← c.self.view_is, states_are, c.width.ensures.value, c.height.ensures.value) refl

pub returns-clause-sound : goal.returns-clause-sound
returns-clause-sound c = rw (← c.self.view_is) (sound _ c.self.invariant)

pub returns-clause-tails : goal.returns-clause-tails
returns-clause-tails c = rw (← c.self.view_is) (exact_tails _ c.self.invariant)

pub returns-clause-gaps : goal.returns-clause-gaps
returns-clause-gaps c = rw (← c.self.view_is) (gaps _ c.self.invariant)
