-- A journal as contracts see it.
use Rattle.std.specs.Prelude.{ℕ, Bool, List}
use Rattle.sbpl_frontier_rules.specs.declared.event.Event.{Event}

-- the events in order, for how many more there is room, and whether they are kept
pub record Log : Type 0 where
  pub events : List Event
  pub spare : ℕ
  pub keeps : Bool
