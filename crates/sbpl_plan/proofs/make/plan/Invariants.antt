use Rattle.std.proofs.Common.{◌≡◌, ◌+◌, ◌≤◌, length, vec_capacity}
use Rattle.sbpl_search.specs.sbpl_labels.Marks.{states_of}
use Rattle.sbpl_plan.specs.Observed.{AreTold}
use Rattle.sbpl_plan.specs.Passing.{inquiry_of}
use Rattle.sbpl_plan.proofs.Planning.{AreGoingOn}
use Rattle.sbpl_plan.proofs.make.plan.Given as goal

abbrev pub invariant-passes : goal.invariant-passes
invariant-passes g l = record {
  going_on : AreGoingOn g.S.Search.meaning (inquiry_of (g.G.Graph.network l.graph) (g.H.Guide.distance l.guide)
      (g.S.Search.state l.fn.search).goal (g.S.Search.state l.fn.search).workers l.ask) (g.S.Search.state l.fn.search) (g.S.Search.state l.search)
      l.fn.budget l.budget l.passes.items l.eps;
  low : 1000 ≤ l.eps;
  high : l.eps ≤ 100000;
  room : states_of (g.S.Search.state l.fn.search).labels ≤ vec_capacity l.arcs;
  serves : g.S.Search.serves l.search;
  number : l.number ≡ length l.passes.items;
  told : AreTold g.O.Observer.told 0 l.passes.items l.fn.observer l.observer;
  observed : g.O.Observer.room l.fn.observer ≤ g.O.Observer.room l.observer + length l.passes.items;
}

abbrev pub decreases-passes : goal.decreases-passes
decreases-passes g l = l.eps
