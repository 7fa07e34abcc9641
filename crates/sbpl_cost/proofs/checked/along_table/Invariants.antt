use Rattle.std.proofs.Common.{◌≡◌, slice_get, Some}
use Rattle.sbpl_sweep.specs.sbpl_mprim.declared.prim.Primitive.{Primitive}
use Rattle.sbpl_cost.specs.Checked.{AreAlong}
use Rattle.sbpl_cost.proofs.Filling.{IsFilled}
use Rattle.sbpl_cost.proofs.checked.along_table.Given as goal

abbrev pub invariant-loop-i : goal.invariant-loop-i
invariant-loop-i l = IsFilled (λ k cells.
    (p : Primitive) → slice_get l.prims.items k ≡ Some p → AreAlong l.prims.cell p cells) l.table l.i
