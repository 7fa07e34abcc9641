-- Which cells are obstacles.
use Rattle.std.specs.Prelude.{◌≡◌, ℕ, ◌<◌, nat_le, List, length, slice_index_or}
use Rattle.sbpl_sweep.specs.sbpl_lists.Flags.{Flags, is_set}

-- just the cells are set whose costs are a limit or more
pub record AreWalls (limit : ℕ) (costs : List ℕ) (walls : Flags) : Type 0 where
  pub len : walls.len ≡ length costs
  pub each : (i : ℕ) → i < length costs → is_set walls i ≡ nat_le limit (slice_index_or costs i 0)
