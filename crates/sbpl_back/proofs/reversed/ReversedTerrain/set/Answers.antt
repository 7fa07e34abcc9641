use Rattle.std.proofs.Common.{w64}
use Rattle.std.proofs.lemmas.Int.{to_z-of_z}
use Rattle.sbpl_back.proofs.reversed.ReversedTerrain.set.Goals as goal

pub returns-clause-on_map : goal.returns-clause-on_map
returns-clause-on_map c =
    rw (← c.self.view_is)
    (rw (to_z-of_z w64 c.args.x c.ranges.x, to_z-of_z w64 c.args.y c.ranges.y) at c.set-was.ensures.on_map)
