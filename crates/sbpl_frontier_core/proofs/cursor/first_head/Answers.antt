use Rattle.std.proofs.Common.{◌≡◌, ◌∙◌, arith, false, is_some}
use Rattle.sbpl_frontier_core.proofs.Cursors.{arcs_skip_where}
use Rattle.sbpl_frontier_core.proofs.cursor.first_head.Goals as goal

pub loop-k-preserved : goal.loop-k-preserved
loop-k-preserved g c =
    let n = g.G.Graph.network c.args.graph.now in
    let fails : is_some c.head.result ≡ false = cc in
    c.loop-k.invariant ∙ arcs_skip_where n c.args.s c.loop-k.k c.head.result (omega arith) c.head.ensures.value fails
