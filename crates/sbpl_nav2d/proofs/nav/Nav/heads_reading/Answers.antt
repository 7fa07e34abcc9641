use Rattle.std.proofs.Common.{pos}
use Rattle.std.proofs.lemmas.Result.{on_ok_weaker}
use Rattle.sbpl_terrain.specs.declared.arc_end.ArcEnd.TheVariants as end
use Rattle.sbpl_nav2d.specs.Directions.{by}
use Rattle.sbpl_nav2d.proofs.Adding.{adds_few_ends}
use Rattle.sbpl_nav2d.proofs.nav.Nav.heads_reading.Goals as goal

pub returns-clause-heads : goal.returns-clause-heads
returns-clause-heads c =
    on_ok_weaker c.add_ends.result
    (adds_few_ends end.Head c.args.self.now (by (pos c.args.x) (pos c.args.y)) c.args.into.now.items
    c.add_ends.new.into.items)
    c.add_ends.ensures.added
