-- The cells that a motion's judgement reads besides its source cell.
use Rattle.std.specs.Prelude.{◌≡◌, ℕ, ℤ, ◌⊎◌, List, slice_get, Some}
use Rattle.sbpl_sweep.specs.sbpl_mprim.declared.prim.Primitive.{Primitive}
use Rattle.sbpl_sweep.specs.sbpl_mprim.Primitives.{Primitives}
use Rattle.sbpl_sweep.specs.declared.cell.Cell.{Cell}
use Rattle.sbpl_cost.specs.Strips.{cells_in}
use Rattle.sbpl_cost.specs.declared.strip.Strip.{Strip}
use Rattle.sbpl_sweep.specs.ReadTables.{IsAmong}
use Rattle.sbpl_sweep.specs.Sweep.{IsCentre, IsSwept}

-- some of these cells were added to a list, among them all that are not known
pub record AddsOthers (old cells known new : List Cell) : Type 0 where
  pub kept : (c : Cell) → IsAmong old c → IsAmong new c
  pub each : (c : Cell) → IsAmong new c → IsAmong old c ⊎ IsAmong cells c
  pub all : (c : Cell) → IsAmong cells c → IsAmong new c ⊎ IsAmong known c

-- the cells along a motion are its centre cells, of which its end cell is one
pub record AreAlong (cell : ℤ) (p : Primitive) (cells : List Cell) : Type 0 where
  pub end : IsCentre cell p.poses p.dx p.dy
  pub each : (i : ℕ) (c : Cell) → slice_get cells i ≡ Some c → IsCentre cell p.poses c.x c.y
  pub all : (x y : ℤ) → IsCentre cell p.poses x y → (i : ℕ) × (slice_get cells i ≡ Some (record { y = y; x = x }))

-- strips have the cells that a motion sweeps, and no others
pub record AreAround (cell : ℤ) (radius : ℕ) (p : Primitive) (strips : List Strip) : Type 0 where
  pub each : (i : ℕ) (c : Cell) → slice_get (cells_in strips) i ≡ Some c → IsSwept cell radius p.poses c.x c.y
  pub all : (x y : ℤ) → IsSwept cell radius p.poses x y → (i : ℕ) × (slice_get (cells_in strips) i ≡ Some (record { y = y; x = x }))

-- each primitive has the cells along it
abbrev pub HaveAlong : Primitives → List (List Cell) → Type 0
HaveAlong prims table = (i : ℕ) (p : Primitive) → slice_get prims.items i ≡ Some p → (cells : List Cell) × (slice_get table i ≡ Some cells) × AreAlong prims.cell p cells

-- each primitive has the strips that it sweeps
abbrev pub HaveAround : Primitives → ℕ → List (List Strip) → Type 0
HaveAround prims radius table = (i : ℕ) (p : Primitive) → slice_get prims.items i ≡ Some p → (strips : List Strip) × (slice_get table i ≡ Some strips) × AreAround prims.cell radius p strips
