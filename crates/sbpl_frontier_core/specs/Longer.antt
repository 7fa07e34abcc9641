-- How a journal grows.
use Rattle.std.specs.Prelude.{◌≡◌, List, ◌++◌}
use Rattle.sbpl_frontier_rules.specs.declared.event.Event.{Event}

-- the events of the one are the first of the other
pub record IsLonger (before after : List Event) : Type 0 where
  pub more : List Event
  pub is : after ≡ before ++ more
