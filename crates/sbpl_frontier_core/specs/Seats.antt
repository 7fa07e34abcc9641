-- Who was handed the arcs of a pass.
use Rattle.std.specs.Prelude.{ℕ, ◌<◌, List, ⊤}
use Rattle.std.specs.List.{All}
use Rattle.sbpl_frontier_rules.specs.declared.event.Event.{Event}
use Rattle.sbpl_frontier_rules.specs.declared.event.Event.TheVariants.{Taken}

-- where an event hands out an arc, it is to an asker whose number is below this
abbrev pub IsTakenBelow : (seats : ℕ) → Event → Type 0
IsTakenBelow seats (Taken ticket asker state arc) = asker < seats
IsTakenBelow seats _ = ⊤

-- all arcs that these events hand out are
abbrev pub AreTakenBelow : (seats : ℕ) → List Event → Type 0
AreTakenBelow seats events = All (λ e. IsTakenBelow seats e) events
