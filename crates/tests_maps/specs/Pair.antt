-- A graph of two states.
use Rattle.std.specs.Prelude.{◌-◌, Some}
use Rattle.sbpl_plan.specs.sbpl_graph.Network.{Network}

-- each state has two arcs, which lead to the other and cost 1
abbrev pub pair : Network
pair = record {
  states = 2;
  fan = λ _. 2;
  head = λ s k. Some (1 - s);
  cost = λ s k. Some 1;
  tail_fan = λ _. 2;
  tail = λ t j. Some (1 - t, j);
  gap = λ a b. 0;
}
