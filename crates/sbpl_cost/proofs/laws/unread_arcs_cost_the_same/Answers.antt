use Rattle.sbpl_cost.proofs.UnreadCosts.{unread_arcs_cost_the_same, maps_change_costs_alone, maps_change_no_reads}
use Rattle.sbpl_cost.proofs.laws.unread_arcs_cost_the_same.Goals as goal

pub returns : goal.returns
returns c = record { costs = unread_arcs_cost_the_same; rest = maps_change_costs_alone; reads = maps_change_no_reads }
