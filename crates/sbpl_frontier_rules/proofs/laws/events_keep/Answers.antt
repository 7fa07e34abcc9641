use Rattle.sbpl_frontier_rules.proofs.ArcsOnce.{each_arc_goes_once}
use Rattle.sbpl_frontier_rules.proofs.First.{first_kept, idle_is_exact}
use Rattle.sbpl_frontier_rules.proofs.Once.{each_opens_once}
use Rattle.sbpl_frontier_rules.proofs.Replaying.{events_kept}
use Rattle.sbpl_frontier_rules.proofs.Returning.{takes_come_back}
use Rattle.sbpl_frontier_rules.proofs.Showing.{idle_shows}
use Rattle.sbpl_frontier_rules.proofs.Marking.{opened_by_events}
use Rattle.sbpl_frontier_rules.proofs.Recounting.{counts_are_free}
use Rattle.sbpl_frontier_rules.proofs.SettledAtOne.{settled_at_one}
use Rattle.sbpl_frontier_rules.proofs.Starting.{start_stays_fresh}
use Rattle.sbpl_frontier_rules.proofs.Tickets.{tickets_go_once}
use Rattle.sbpl_frontier_rules.proofs.Walking.{opening_bounded}
use Rattle.sbpl_frontier_rules.proofs.laws.events_keep.Goals as goal

pub returns-clause-first : goal.returns-clause-first
returns-clause-first c = first_kept

pub returns-clause-each : goal.returns-clause-each
returns-clause-each c = events_kept opening_bounded

pub returns-clause-exact : goal.returns-clause-exact
returns-clause-exact c = idle_is_exact

pub returns-clause-settled : goal.returns-clause-settled
returns-clause-settled c = settled_at_one

pub returns-clause-once : goal.returns-clause-once
returns-clause-once c = each_opens_once opening_bounded

pub returns-clause-free : goal.returns-clause-free
returns-clause-free c = counts_are_free

pub returns-clause-marked : goal.returns-clause-marked
returns-clause-marked c = opened_by_events

pub returns-clause-start : goal.returns-clause-start
returns-clause-start c = start_stays_fresh

pub returns-clause-shows : goal.returns-clause-shows
returns-clause-shows c = idle_shows

pub returns-clause-back : goal.returns-clause-back
returns-clause-back c = takes_come_back opening_bounded

pub returns-clause-tickets : goal.returns-clause-tickets
returns-clause-tickets c = tickets_go_once

pub returns-clause-arcs : goal.returns-clause-arcs
returns-clause-arcs c = each_arc_goes_once
