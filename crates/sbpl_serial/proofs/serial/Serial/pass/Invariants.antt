use Rattle.std.proofs.Common.{◌^◌, ◌-◌}
use Rattle.sbpl_search.specs.Query.{query}
use Rattle.sbpl_serial.proofs.Passing.{IsPassing}
use Rattle.sbpl_serial.proofs.serial.Serial.pass.Given as goal

abbrev pub invariant-expansions : goal.invariant-expansions
invariant-expansions g l =
    IsPassing (query (g.G.Graph.network l.graph) (g.H.Guide.distance l.guide) l.eps l.fn.self.goal) l.fn.self
    l.self l.fn.budget l.budget

abbrev pub decreases-expansions : goal.decreases-expansions
decreases-expansions g l = 2 ^ 30 - l.budget.run
