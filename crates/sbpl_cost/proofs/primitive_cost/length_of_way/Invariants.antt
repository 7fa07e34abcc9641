use Rattle.std.proofs.Common.{◌≡◌, ◌+◌, ◌-◌, ◌*◌, ◌≤◌, length, drop}
use Rattle.sbpl_cost.specs.PrimitiveCost.{way_length}
use Rattle.sbpl_cost.proofs.primitive_cost.length_of_way.Given as goal

abbrev pub invariant-loop-i : goal.invariant-loop-i
invariant-loop-i l =
    record {
      left : l.total + way_length (drop (l.i - 1) l.poses) ≡ way_length l.poses;
      small : l.total ≤ 3000000000000 * (l.i - 1);
      within : l.i ≤ length l.poses + 1;
    }
