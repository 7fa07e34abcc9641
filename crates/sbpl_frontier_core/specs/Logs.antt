-- What a journal in each of its two forms is.
use Rattle.std.specs.Prelude.{◌-◌, ◌^◌, true, false, Some, None, List, [], length, vec_capacity}
use Rattle.sbpl_frontier_core.specs.declared.journal.Form.{Form}
use Rattle.sbpl_frontier_core.specs.declared.journal.Form.TheVariants.{Kept, Seen}
use Rattle.sbpl_frontier_rules.specs.declared.event.Event.{Event}
use Rattle.sbpl_frontier_core.specs.Log.{Log}

abbrev pub log_of : {U : Type 0} → (U → List Event) → Form U → Log
log_of items (Kept events) = record { events = events.items; spare = vec_capacity events - length events.items; keeps = true }
log_of items (Seen None) = record { events = []; spare = 2 ^ 64; keeps = false }
log_of items (Seen (Some past)) = record { events = items past; spare = 2 ^ 64; keeps = false }
