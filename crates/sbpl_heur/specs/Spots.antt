-- Where cells lie.
use Rattle.std.specs.Prelude.{◌≡◌, ℕ, ℤ, pos, ◌/◌, ◌%◌, ◌+ℤ◌, ◌≤ℤ◌, ◌<ℤ◌, List, slice_get, Some}
use Rattle.sbpl_cost.specs.sbpl_cfg.Environment.{Environment}
use Rattle.sbpl_heur.specs.declared.cells.Spot.{Spot}
use Rattle.sbpl_heur.specs.declared.cells.Reach.{Reach}
use Rattle.sbpl_heur.specs.declared.hop.Hop.{Hop}

-- a cell lies in this column and row
pub record IsSpot (e : Environment) (cell : ℕ) (spot : Spot) : Type 0 where
  pub column : spot.x ≡ cell % e.width
  pub row : spot.y ≡ cell / e.width

-- a number of cells leads from one of the cells of an axis to cell x of it
abbrev pub IsOver : ℕ → ℕ → ℤ → Type 0
IsOver count x d = (d ≤ℤ pos x) × (pos x <ℤ (pos count +ℤ d))

-- no hop leads farther along an axis
pub record IsReach (hops : List Hop) (reach : Reach) : Type 0 where
  pub column : (j : ℕ) (h : Hop) → slice_get hops j ≡ Some h → (h.dx ≤ℤ pos reach.x) × (pos 0 ≤ℤ (pos reach.x +ℤ h.dx))
  pub row : (j : ℕ) (h : Hop) → slice_get hops j ≡ Some h → (h.dy ≤ℤ pos reach.y) × (pos 0 ≤ℤ (pos reach.y +ℤ h.dy))

-- each hop leads here from a cell of the map
pub record IsInner (e : Environment) (hops : List Hop) (spot : Spot) : Type 0 where
  pub column : (j : ℕ) (h : Hop) → slice_get hops j ≡ Some h → IsOver e.width spot.x h.dx
  pub row : (j : ℕ) (h : Hop) → slice_get hops j ≡ Some h → IsOver e.height spot.y h.dy
