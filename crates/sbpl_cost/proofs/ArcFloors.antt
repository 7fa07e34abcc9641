-- What an arc costs at least.
use Rattle.std.proofs.Common.{◌≡◌, ℕ, ◌≤◌, Some}
use Rattle.sbpl_sweep.specs.sbpl_mprim.declared.prim.Primitive.{Primitive}
use Rattle.sbpl_cost.specs.Arc.{IsArcBy}
use Rattle.sbpl_cost.specs.Lattices.{network_of}
use Rattle.sbpl_cost.specs.PrimitiveCost.{primitive_cost}
use Rattle.sbpl_cost.specs.World.{World, IsWorld}
use Rattle.sbpl_cost.proofs.Arcs.{arc_of}
use Rattle.sbpl_cost.proofs.ArcsRead.{found_by_arc}
use Rattle.sbpl_cost.proofs.LatticeLaws.{cost_of_free}

-- a free arc costs its primitive's cost or more
pub above_floor : (w : World) → IsWorld w → (s k place : ℕ) (p : Primitive) → IsArcBy w s k place p → (c : ℕ)
    → (network_of w).cost s k ≡ Some c → primitive_cost w.env p ≤ c
above_floor w is_world s k place p by c is =
    cost_of_free w is_world s c p
    (((arc_of w is_world s k place p (found_by_arc w is_world s k place p by)).cost c).0 is)
