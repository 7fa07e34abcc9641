use Rattle.sbpl_frontier_core.proofs.Finishing.{finished, over_held}
use Rattle.sbpl_frontier_core.proofs.frontier.CoreOf.finish_parts.Goals as goal

pub returns : goal.returns
returns g c =
    let laws = c.events_keep.ensures in
    let idle = rw (← c.self.view_is) at c.requires.idle in
    record {
      finished = rw (← c.self.view_is)
          (finished c.self.invariant.5 laws.first laws.each laws.once laws.exact laws.shows laws.settled idle);
      over = over_held c.self.invariant.5;
    }
