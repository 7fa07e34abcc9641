-- What a lattice is made of.
use Rattle.std.specs.Prelude.{◌≡◌, ℕ, ◌^◌, ◌≤◌, slice_get, Some}
use Rattle.sbpl_sweep.specs.sbpl_cfg.Environment.{Environment, IsEnvironment}
use Rattle.sbpl_sweep.specs.sbpl_mprim.declared.prim.Primitive.{Primitive}
use Rattle.sbpl_sweep.specs.sbpl_mprim.Primitives.{Primitives, ArePrimitives}
use Rattle.sbpl_sweep.specs.Swept.{Swept, AreSweepsOf}
use Rattle.sbpl_terrain.specs.sbpl_map.CellMap.{CellMap, IsCellMap}
use Rattle.sbpl_cost.specs.PrimitiveCost.{primitive_cost, most_cost}

-- an environment, primitives, the cells that these sweep for the robot's radius, and the present costs of the cells
pub record World : Type 0 where
  pub env : Environment
  pub prims : Primitives
  pub sweeps : Swept
  pub map : CellMap

-- the same lattice over another map
abbrev pub over_map : World → CellMap → World
over_map w m = record w { map = m }

-- the parts belong together, no primitive is too dear, and the radius is at most a kilometre
pub record IsWorld (w : World) : Type 0 where
  pub env : IsEnvironment w.env
  pub prims : ArePrimitives w.prims
  pub map : IsCellMap w.map
  pub cell : w.prims.cell ≡ w.env.cell
  pub headings : w.prims.headings ≡ w.env.headings
  pub width : w.map.width ≡ w.env.width
  pub height : w.map.height ≡ w.env.height
  pub sweeps : AreSweepsOf w.prims w.sweeps.radius w.sweeps
  pub radius : w.sweeps.radius ≤ 10 ^ 12
  pub costs : (i : ℕ) (p : Primitive) → slice_get w.prims.items i ≡ Some p → (1 ≤ primitive_cost w.env p) × (primitive_cost w.env p ≤ most_cost)
