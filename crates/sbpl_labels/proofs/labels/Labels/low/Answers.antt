use Rattle.std.proofs.Common.{◌≢◌, arith}
use Rattle.sbpl_labels.specs.Marks.{g_of, v_of}
use Rattle.sbpl_labels.proofs.Lowest.{low_kept, low_lowered, low_bounds}
use Rattle.sbpl_labels.proofs.labels.Labels.low.Goals as goal
use Rattle.sbpl_labels.proofs.labels.Labels.low.Goals.{then-v-g, else-v-g}

pub loop-s-preserved : goal.loop-s-preserved
loop-s-preserved g c =
    elim c.if-v-g.branch [
      | then-v-g w ↦
          let differ : v_of c.args.self.now c.loop-s.s ≢ g_of c.args.self.now c.loop-s.s =
          λ same. w.if-v-g.true (omega arith) in
          low_lowered c.if-v-g.low c.loop-s.invariant differ (omega arith)
      | else-v-g w ↦ low_kept c.if-v-g.low c.loop-s.invariant (omega arith) w.low-is
    ]

pub returns-clause-bound : goal.returns-clause-bound
returns-clause-bound g c = λ n same sound guides supported.
    low_bounds n c.args.self.now.start (omega arith) sound
    (g.met.H.Guide.consistent c.args.guide.now n c.args.goal guides)
    supported c.loop-s.invariant
