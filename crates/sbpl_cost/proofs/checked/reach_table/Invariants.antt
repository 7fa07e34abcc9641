use Rattle.std.proofs.Common.{◌≡◌, List, slice_get, Some}
use Rattle.sbpl_sweep.specs.sbpl_mprim.declared.prim.Primitive.{Primitive}
use Rattle.sbpl_cost.specs.declared.strip.Strip.{Strip}
use Rattle.sbpl_cost.specs.Reaches.{IsReach, LieWithin}
use Rattle.sbpl_cost.specs.Strips.{cells_in}
use Rattle.sbpl_cost.proofs.Filling.{IsFilled}
use Rattle.sbpl_cost.proofs.checked.reach_table.Given as goal

abbrev pub invariant-loop-i : goal.invariant-loop-i
invariant-loop-i l =
    IsFilled
    (λ k r. (p : Primitive) (strips : List Strip) → slice_get l.prims.items k ≡ Some p
    → slice_get l.around k ≡ Some strips → IsReach r × LieWithin r (cells_in strips))
    l.table.items l.i
