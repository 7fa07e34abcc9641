use Rattle.std.proofs.Common.{◌≡◌}
use Rattle.sbpl_cost.specs.Lattices.{entering}
use Rattle.sbpl_cost.proofs.Filling.{IsFilled}
use Rattle.sbpl_cost.proofs.tables.entering_table.Given as goal

abbrev pub invariant-loop-t : goal.invariant-loop-t
invariant-loop-t l = IsFilled (λ k places. places ≡ entering l.prims.items k) l.table l.t
