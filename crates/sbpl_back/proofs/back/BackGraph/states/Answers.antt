use Rattle.sbpl_back.proofs.Turning.{reversed_has_gaps, reversed_has_tails, reversed_is_sound}
use Rattle.sbpl_back.proofs.back.BackGraph.states.Goals as goal

pub returns-clause-sound : goal.returns-clause-sound
returns-clause-sound c = rw (← c.self.view_is) (reversed_is_sound _ c.states.ensures.tails c.states.ensures.sound)

pub returns-clause-tails : goal.returns-clause-tails
returns-clause-tails c = rw (← c.self.view_is) (reversed_has_tails _ c.states.ensures.tails c.states.ensures.sound)

pub returns-clause-gaps : goal.returns-clause-gaps
returns-clause-gaps c = rw (← c.self.view_is) (reversed_has_gaps _ c.states.ensures.tails)
