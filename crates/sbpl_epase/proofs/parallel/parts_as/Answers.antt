use Rattle.std.proofs.Common.{refl}
use Rattle.sbpl_epase.proofs.parallel.parts_as.Goals as goal

pub returns-in-Ok : goal.returns-in-Ok
returns-in-Ok g c =
    let finished = c.finish_parts-parts.ensures.finished in
    record {
      left = record {
        finished = record {
          frontier = c.in-Ok.core.frontier;
          finished = rw (c.requires.labels, c.requires.budget, c.requires.keeps) (record {
            labels_are = finished.labels_are;
            counts_are = finished.counts_are;
            events = refl;
            keeps_are = finished.keeps_are;
            replay = rw finished.events finished.replay;
            again = finished.again;
            kept = finished.kept;
            supported = finished.supported;
            shows = finished.shows;
            once = rw finished.events finished.once;
            settled = finished.settled;
          });
          ends = c.in-Ok.ensures.ends;
        };
        seats = rw finished.events c.in-Ok.ensures.seats;
        over = c.finish_parts-parts.ensures.over;
        given_up = tt;
        over_left = tt;
      };
    }
