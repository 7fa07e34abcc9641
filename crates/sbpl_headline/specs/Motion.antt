-- The motions of a lattice, in plain words.
use Rattle.std.specs.Prelude.{◌≡◌, ◌⊎◌, ℕ, ℤ, pos, ◌+◌, ◌*◌, ◌≤◌, ◌+ℤ◌, min, List, [], ◌∷◌, slice_get, Some, None, MatchOption}
use Rattle.std.specs.List.{flat_map, last_or}
use Rattle.sbpl_promises.specs.sbpl_cfg.Environment.{Environment, IsPlaceOf}
use Rattle.sbpl_promises.specs.sbpl_cfg.declared.pose.Place.{Place}
use Rattle.sbpl_promises.specs.sbpl_mprim.declared.prim.Primitive.{Primitive}
use Rattle.sbpl_promises.specs.sbpl_sweep.Sweep.{IsCentre, IsSwept}
use Rattle.sbpl_headline.specs.Cost.{cost_of}
use Rattle.sbpl_headline.specs.Files.{ChangeLine, Cell, Start}
use Rattle.sbpl_headline.specs.Map.{Costs, IsBelow, Map}
use Rattle.sbpl_headline.specs.Path.{Step}

-- this far from the source cell lies a cell in which a pose of the motion by p lies, or its end cell
abbrev pub IsOn : Environment → Primitive → (x y : ℤ) → Type 0
IsOn e p x y = IsCentre e.cell p.poses x y ⊎ ((x ≡ p.dx) × (y ≡ p.dy))

-- from place s the motion by p pays for a cell of this cost: its source cell, or one that it is on
abbrev pub Pays : Environment → Map → Place → Primitive → ℕ → Type 0
Pays e m s p c = (x : ℤ) × (y : ℤ) × (((x ≡ pos 0) × (y ≡ pos 0)) ⊎ IsOn e p x y) × Costs m (pos s.x +ℤ x) (pos s.y +ℤ y) c

-- From place s a primitive of the file moves a robot of this radius to the place of a step, freely and at this cost. The cells that it is
-- on cost less than both thresholds, its source cell and those that the robot sweeps less than that of an obstacle.
pub record Moves (e : Environment) (prims : List Primitive) (radius : ℕ) (m : Map) (s : Place) (step : Step Place) (cost : ℕ) : Type 0 where
  pub p : Primitive
  pub stands : (i : ℕ) × (slice_get prims i ≡ Some p)
  pub id : p.id ≡ step.id
  pub headings : (p.from ≡ s.t) × (p.to ≡ step.place.t)
  pub column : pos step.place.x ≡ pos s.x +ℤ p.dx
  pub row : pos step.place.y ≡ pos s.y +ℤ p.dy
  pub source : IsBelow m e.obsthresh (pos s.x) (pos s.y)
  pub on : (x y : ℤ) → IsOn e p x y → IsBelow m (min e.inscribed e.obsthresh) (pos s.x +ℤ x) (pos s.y +ℤ y)
  pub swept : (x y : ℤ) → IsSwept e.cell radius p.poses x y → IsBelow m e.obsthresh (pos s.x +ℤ x) (pos s.y +ℤ y)
  pub greatest : ℕ
  pub paid : Pays e m s p greatest
  pub most : (c : ℕ) → Pays e m s p c → c ≤ greatest
  pub product : cost ≡ cost_of e p * (greatest + 1)

abbrev pub place_in : ChangeLine → List Place
place_in (Cell u v cost) = []
place_in (Start p) = p ∷ []

-- where a plan starts: at the last place that a line gives, or at the start's pose where there is none
abbrev pub Starts : Environment → Map → Place → Type 0
Starts e m s = MatchOption (last_or None (flat_map place_in m.changed)) (IsPlaceOf e e.start s) (λ p. s ≡ p)
