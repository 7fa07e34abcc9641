use Rattle.std.proofs.Common.{arith}
use Rattle.tests_graphs.specs.Sample.{count_of}
use Rattle.tests_graphs.proofs.SampleTails.{exact_tails}
use Rattle.tests_graphs.proofs.table.TableGraph.states.Goals as goal

pub returns-clause-tails : goal.returns-clause-tails
returns-clause-tails c =
    exact_tails (count_of c.args.self.now.last) c.args.self.now.arcs c.args.self.now.heights (omega arith)
