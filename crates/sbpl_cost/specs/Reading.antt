-- Which arcs of a lattice read a cell.
use Rattle.std.specs.Prelude.{◌≡◌, ℕ, ℤ, pos, ◌+ℤ◌, ◌-ℤ◌, ◌<◌, ◌≤◌, ◌↔◌, List, length, slice_get, Option, Some, option_and_then, option_map}
use Rattle.sbpl_sweep.specs.sbpl_cfg.declared.pose.Place.{Place}
use Rattle.sbpl_sweep.specs.sbpl_cfg.Environment.{Environment}
use Rattle.sbpl_sweep.specs.sbpl_mprim.declared.prim.Primitive.{Primitive}
use Rattle.sbpl_sweep.specs.declared.reads.Read.{Read}
use Rattle.sbpl_terrain.specs.sbpl_map.CellMap.{CellMap, cost_at}
use Rattle.sbpl_terrain.specs.Cells.{DifferInCostsAlone}
use Rattle.sbpl_terrain.specs.Ends.{at_end}
use Rattle.sbpl_terrain.specs.Reading.{AddsEnds}
use Rattle.sbpl_terrain.specs.declared.arc_end.ArcEnd.{ArcEnd}
use Rattle.sbpl_cost.specs.Cells.{lattice_cells}
use Rattle.sbpl_cost.specs.Judging.{IsNear}
use Rattle.sbpl_cost.specs.Lattices.{network_of}
use Rattle.sbpl_cost.specs.Reads.{ReadsCell}
use Rattle.sbpl_cost.specs.States.{place_on_map, state_in, state_number}
use Rattle.sbpl_cost.specs.World.{World, IsWorld, over_map}

-- the states at this end of all arcs that read cell (x, y), and no other states, were appended to a list, no more of them than
-- there are pairs of a primitive and a cell that it reads
pub record AddsFewEnds (end : ArcEnd) (w : World) (x y : ℤ) (old new : List ℕ) : Type 0 where
  pub adds : AddsEnds network_of lattice_cells end w x y old new
  pub few : length adds.added ≤ length w.sweeps.reads

-- the state where the motion by p from a place ends, none off the map
abbrev pub end_of : Environment → Primitive → Place → Option ℕ
end_of e p source = state_in e (pos source.x +ℤ p.dx) (pos source.y +ℤ p.dy) p.to

-- the source and the head of the motion by p from a place, none where it ends off the map
abbrev pub ends_from : Environment → Primitive → Place → Option (ℕ × ℕ)
ends_from e p source = option_map (λ head. (state_number e source, head)) (end_of e p source)

-- the ends of the arc by p that reads cell (x, y) as this far from its source cell, none where there is no such arc
abbrev pub ends_by_offset : Environment → ℤ → ℤ → ℤ → ℤ → Primitive → Option (ℕ × ℕ)
ends_by_offset e x y dx dy p = option_and_then (ends_from e p) (place_on_map e (x -ℤ dx) (y -ℤ dy) p.from)

-- the ends of the arc that reads cell (x, y) by a read of the table, which names a primitive and how far a cell that it
-- reads lies from its source cell; none where there is no such arc, or it ends off the map
unfoldable pub ends_of_read : Environment → List Primitive → ℤ → ℤ → Read → Option (ℕ × ℕ)
ends_of_read e prims x y r = option_and_then (ends_by_offset e x y r.cell.x r.cell.y) (slice_get prims r.prim)

-- the one or the other of them
abbrev pub end_of_read : ArcEnd → Environment → List Primitive → ℤ → ℤ → Read → Option ℕ
end_of_read end e prims x y r = option_map (at_end end) (ends_of_read e prims x y r)

-- each read names a primitive, and its cell is one that a motion can touch
abbrev pub AreReadable : List Primitive → List Read → Type 0
AreReadable prims reads = (i : ℕ) (r : Read) → slice_get reads i ≡ Some r → (r.prim < length prims) × IsNear r.cell

-- where all cells that an arc reads cost the same on another map, so does the arc
abbrev pub UnreadArcsCostTheSame : Type 0
UnreadArcsCostTheSame = (w : World) (m : CellMap) (s k : ℕ) → IsWorld w → IsWorld (over_map w m) → ((x y : ℤ) → ReadsCell w s k x y → cost_at m x y ≡ cost_at w.map x y) → (network_of (over_map w m)).cost s k ≡ (network_of w).cost s k

-- another map changes costs alone
abbrev pub MapsChangeCostsAlone : Type 0
MapsChangeCostsAlone = (w : World) (m : CellMap) → DifferInCostsAlone (network_of (over_map w m)) (network_of w)

-- another map does not change which cells an arc reads
abbrev pub MapsChangeNoReads : Type 0
MapsChangeNoReads = (w : World) (m : CellMap) (s k : ℕ) (x y : ℤ) → ReadsCell (over_map w m) s k x y ↔ ReadsCell w s k x y

-- each arc that does not read cell (x, y) costs the same in two worlds
abbrev pub UnreadCostTheSame : World → World → ℤ → ℤ → Type 0
UnreadCostTheSame old new x y = (s k : ℕ) → (ReadsCell old s k x y → ⊥) → (network_of new).cost s k ≡ (network_of old).cost s k
