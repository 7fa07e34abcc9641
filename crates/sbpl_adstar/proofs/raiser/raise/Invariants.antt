use Rattle.std.proofs.Common.{◌≡◌, ◌≢◌, ℕ, ◌≤◌, vec_capacity}
use Rattle.sbpl_ara.specs.sbpl_labels.Marks.{g_of}
use Rattle.sbpl_ara.specs.sbpl_serial.Raised.{IsRaising}
use Rattle.sbpl_ara.specs.sbpl_serial.Run.{IsUnder}
use Rattle.sbpl_adstar.specs.Listed.{AreListed}
use Rattle.sbpl_adstar.proofs.Joining.{AddsBelow}
use Rattle.sbpl_adstar.proofs.raiser.raise.Given as goal

abbrev pub invariant-loop-k : goal.invariant-loop-k
invariant-loop-k g l = record {
  raising : IsRaising (g.G.Graph.network l.graph) l.fn.labels l.labels l.s l.k;
  listed : AreListed l.labels l.list.items;
  added : AddsBelow l.fn.labels l.labels l.s l.k l.fn.list.items l.list.items;
  grown : (t : ℕ) → g_of l.fn.labels t ≤ g_of l.labels t;
  others : (t : ℕ) → t ≢ l.s → IsUnder l.fn.labels t → IsUnder l.labels t;
  room : vec_capacity l.list ≡ vec_capacity l.fn.list;
}
