-- What idle labels show.
use Rattle.sbpl_frontier_rules.specs.Laws.{IdleShows}
use Rattle.sbpl_frontier_rules.proofs.First.{idle_is_exact}

pub idle_shows : IdleShows
idle_shows q f low lawful kept idle is = record {
  supported = (idle_is_exact q f kept idle).1;
  consistent = lawful.consistent;
  at_goal = is.at_goal;
  unsettled = λ s inside differ. is.unsettled s (rw kept.states inside) differ;
}
