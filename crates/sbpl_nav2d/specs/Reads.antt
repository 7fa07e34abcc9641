-- Which cells an arc of a grid reads.
use Rattle.std.specs.Prelude.{◌≡◌, ℕ, ℤ, ◌+ℤ◌}
use Rattle.sbpl_nav2d.specs.Arc.{cell_of, IsReadAt}
use Rattle.sbpl_nav2d.specs.World.{GridWorld}

-- judging arc k of state s reads cell (x, y)
pub record ReadsCell (w : GridWorld) (s k : ℕ) (x y : ℤ) : Type 0 where
  pub dx : ℤ
  pub dy : ℤ
  pub read : IsReadAt k dx dy
  pub column : (cell_of w s).x +ℤ dx ≡ x
  pub row : (cell_of w s).y +ℤ dy ≡ y
