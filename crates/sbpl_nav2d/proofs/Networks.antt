-- The parts of a grid as a graph.
use Rattle.std.proofs.Common.{◌≡◌, ℕ, ◌+◌, ◌*◌, Option, Some, None, refl, ap, sym, ◌∙◌, option_map}
use Rattle.std.proofs.lemmas.Option.{none-some, same_Some}
use Rattle.sbpl_terrain.specs.sbpl_map.CellMap.{CellMap}
use Rattle.sbpl_nav2d.specs.declared.cell.Cell.{Cell}
use Rattle.sbpl_nav2d.specs.Directions.{direction, moved, moved_back, step_cost}
use Rattle.sbpl_nav2d.specs.Gap.{gap_of}
use Rattle.sbpl_nav2d.specs.World.{GridWorld, IsGridWorld}
use Rattle.sbpl_nav2d.specs.Arc.{cell_of}
use Rattle.sbpl_nav2d.specs.Grids.{network_of, state_at, greatest_read}

module _ (w : GridWorld) where
  pub states_are : (network_of w).states ≡ w.map.width * w.map.height
  unfolding network_of
  states_are = refl

  -- as many as the environment's size says
  pub states_of_env : IsGridWorld w → w.env.width * w.env.height ≡ (network_of w).states
  states_of_env is_world =
      ap (λ n. n * w.env.height) (sym is_world.width) ∙ ap (λ n. w.map.width * n) (sym is_world.height) ∙ sym states_are

  pub fan_is : (s : ℕ) → (network_of w).fan s ≡ 8
  unfolding network_of
  fan_is s = refl

  pub head_is : (s k : ℕ) → (network_of w).head s k ≡ state_at w.map (moved (cell_of w s) (direction k))
  unfolding network_of
  head_is s k = refl

  pub cost_is : (s k : ℕ)
      → (network_of w).cost s k ≡ option_map (λ greatest. step_cost k * (greatest + 1))
      (greatest_read w.env.obsthresh w.map (cell_of w s) k)
  unfolding network_of
  cost_is s k = refl

  pub tail_fan_is : (t : ℕ) → (network_of w).tail_fan t ≡ 8
  unfolding network_of
  tail_fan_is t = refl

  pub tail_is : (t j : ℕ)
      → (network_of w).tail t j ≡ option_map (λ s. (s, j)) (state_at w.map (moved_back (cell_of w t) (direction j)))
  unfolding network_of
  tail_is t j = refl

  pub gap_is : (a b : ℕ) → (network_of w).gap a b ≡ gap_of w.map.width a b
  unfolding network_of
  gap_is a b = refl

  -- the head and the tail of a state by its cell and the step
  pub head_by : (s k : ℕ) (cell step to : Cell) → cell ≡ cell_of w s → step ≡ direction k → to ≡ moved cell step
      → state_at w.map to ≡ (network_of w).head s k
  head_by s k cell step to at by is =
      ap (state_at w.map) (is ∙ ap (λ c. moved c step) at ∙ ap (moved (cell_of w s)) by) ∙ sym (head_is s k)

  pub tail_by : (t j : ℕ) (cell step from : Cell) → cell ≡ cell_of w t → step ≡ direction j
      → from ≡ moved_back cell step
      → option_map (λ s. (s, j)) (state_at w.map from) ≡ (network_of w).tail t j
  tail_by t j cell step from at by is =
      ap (λ c. option_map (λ s. (s, j)) (state_at w.map c))
      (is ∙ ap (λ c. moved_back c step) at ∙ ap (moved_back (cell_of w t)) by) ∙ sym (tail_is t j)

  pub cost_by : (s k limit : ℕ) (m : CellMap) (cell : Cell) → limit ≡ w.env.obsthresh → m ≡ w.map → cell ≡ cell_of w s
      → option_map (λ greatest. step_cost k * (greatest + 1)) (greatest_read limit m cell k) ≡ (network_of w).cost s k
  cost_by s k limit m cell low map at = rw (low, map, at) (sym (cost_is s k))

-- what an option's image says of the option
pub mapped_from : {A B : Type 0} (f : A → B) (o : Option A) (y : B) → option_map f o ≡ Some y
    → (x : A) × (o ≡ Some x) × (y ≡ f x)
mapped_from f None y e = absurd (none-some y e)
mapped_from f (Some x) y e = (x, refl, sym (same_Some (f x) y e))
