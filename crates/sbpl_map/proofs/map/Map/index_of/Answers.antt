use Rattle.std.proofs.Common.{w64}
use Rattle.std.proofs.lemmas.Int.{to_z-of_z}
use Rattle.sbpl_map.proofs.Cells.{within}
use Rattle.sbpl_map.proofs.map.Map.index_of.Goals as goal

pub returns-clause-inside : goal.returns-clause-inside
returns-clause-inside c =
    let kept = rw c.self.view_is at c.self.invariant in
    let value = rw (to_z-of_z w64 c.args.x c.ranges.x, to_z-of_z w64 c.args.y c.ranges.y) at c.index_at.ensures.value in
    within c.args.self.now c.args.x c.args.y kept c.index_at.result value
