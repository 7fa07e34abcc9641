use Rattle.std.proofs.Common.{refl}
use Rattle.sbpl_cost.specs.Strips.{cells_in}
use Rattle.sbpl_cost.proofs.Reaching.{within_on_map}
use Rattle.sbpl_cost.proofs.judging.are_clear.Goals as goal

pub are_clear_inside-requires-clause-inside : goal.are_clear_inside-requires-clause-inside
are_clear_inside-requires-clause-inside c =
    within_on_map c.args.map.now c.args.x c.args.y c.args.reach.now (cells_in c.args.strips.now)
    (c.if-is_inside.ensures.inside refl) c.requires.within
