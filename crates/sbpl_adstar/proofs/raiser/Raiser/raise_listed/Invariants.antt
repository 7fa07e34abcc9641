use Rattle.std.proofs.Common.{◌≡◌, ℕ, ◌-◌, vec_capacity}
use Rattle.sbpl_ara.specs.sbpl_labels.Marks.{states_of}
use Rattle.sbpl_ara.specs.sbpl_search.Ready.{AreUsable}
use Rattle.sbpl_adstar.proofs.Raising.{IsTurn}
use Rattle.sbpl_adstar.proofs.raiser.Raiser.raise_listed.Given as goal

abbrev pub invariant-raises : goal.invariant-raises
invariant-raises g l = record {
  turn : IsTurn (g.G.Graph.network l.graph) l.fn.labels l.labels l.self-inside.raised.items l.next;
  usable : (count : ℕ) → AreUsable (g.G.Graph.network l.graph) l.fn.labels count
      → AreUsable (g.G.Graph.network l.graph) l.labels count;
  room : vec_capacity l.self-inside.raised ≡ l.fn.self.room;
}

abbrev pub decreases-raises : goal.decreases-raises
decreases-raises g l = states_of l.fn.labels - l.next
