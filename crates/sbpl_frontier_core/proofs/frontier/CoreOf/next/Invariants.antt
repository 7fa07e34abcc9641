use Rattle.std.proofs.Common.{◌^◌, ◌-◌}
use Rattle.sbpl_frontier_core.specs.Answers.{OpensTo}
use Rattle.sbpl_frontier_core.proofs.frontier.CoreOf.next.Given as goal

abbrev pub invariant-openings : goal.invariant-openings
invariant-openings g l = OpensTo g.N.Pass.query l.fn.self l.self

abbrev pub decreases-openings : goal.decreases-openings
decreases-openings g l = 2 ^ 30 - l.self.frontier.counts.run
