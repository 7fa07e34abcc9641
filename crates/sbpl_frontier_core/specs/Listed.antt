-- A list of events by its last one.
use Rattle.std.specs.Prelude.{Option, Some, None, List, [], ◌∷◌, ◌++◌}
use Rattle.std.specs.declared.snapshot.Snapshot.{Snapshot}
use Rattle.sbpl_frontier_rules.specs.declared.event.Event.{Event}

-- the events of the earlier list, if there is one, and the last event
abbrev pub listed : {T : Type 0} → (T → List Event) → Option (Snapshot T) → Event → List Event
listed items None last = last ∷ []
listed items (Some before) last = items before.value ++ last ∷ []
