-- Which table a queue is made of.
use Rattle.atomic_table.specs.Seated.{TableId}
use Rattle.crossbeam_queue.specs.declared.array_queue.Doing.{Doing}
use Rattle.crossbeam_queue.specs.declared.array_queue.Slotted.{Slotted}
use Rattle.std.specs.Prelude.{Option}

abbrev pub line_of : {T V Q A : Type 0} → Slotted (Option T) (Doing T V) Q A → TableId
line_of queue = queue.table.shared.table_id
