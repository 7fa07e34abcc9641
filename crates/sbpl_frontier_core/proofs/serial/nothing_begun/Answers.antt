use Rattle.sbpl_frontier_core.proofs.Finishing.{not_begun}
use Rattle.sbpl_frontier_core.proofs.serial.nothing_begun.Goals as goal

pub returns : goal.returns
returns g c = record {
  given_up =
      not_begun c.events_keep.ensures.first c.events_keep.ensures.once
      (record {
        sound = c.states-states.ensures.sound;
        gaps = c.states-states.ensures.gaps;
        consistent =
            g.met.H.Guide.consistent c.args.guide.now (g.G.Graph.network c.args.graph.now) c.args.goal c.requires.guide;
        inflation = c.requires.eps_low;
      })
      (record { labels = c.start-start.ensures.labels; ready = c.requires.ready; counts = c.used-used.ensures.counts });
}
