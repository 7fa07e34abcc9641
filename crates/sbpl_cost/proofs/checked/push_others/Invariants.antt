use Rattle.std.proofs.Common.{take}
use Rattle.sbpl_cost.specs.Checked.{AddsOthers}
use Rattle.sbpl_cost.proofs.checked.push_others.Given as goal

abbrev pub invariant-loop-cell : goal.invariant-loop-cell
invariant-loop-cell l = AddsOthers l.fn.list.items (take l.cell-index l.cells) l.known l.list.items
