-- The steps of a grid and its environment file, in plain words.
use Rattle.std.specs.Prelude.{◌≡◌, ℕ, ℤ, pos, ◌+◌, ◌*◌, ◌<◌, ◌≤◌, ◌+ℤ◌, List, [], ◌∷◌, ◌++◌, map, codes}
use Rattle.sbpl_promises.specs.sbpl_nav2d.Arc.{IsReadAt}
use Rattle.sbpl_promises.specs.sbpl_nav2d.Directions.{direction, step_cost}
use Rattle.sbpl_headline.specs.Files.{Said, Says, word, number}
use Rattle.sbpl_headline.specs.Map.{Costs, IsBelow, Map}
use Rattle.sbpl_headline.specs.Path.{Step}

-- a cell of a grid
pub record Square : Type 0 where
  pub x : ℕ
  pub y : ℕ

abbrev pub said_square : Square → List Said
said_square c = number (pos c.x) ∷ number (pos c.y) ∷ []

abbrev pub IsGridText : (obsthresh : ℕ) → (start end : Square) → Map → List ℕ → Type 0
IsGridText obsthresh start end m text = Says
    (word (codes "discretization(cells):") ∷ number (pos m.width) ∷ number (pos m.height) ∷ word (codes "obsthresh:") ∷ number (pos obsthresh)
    ∷ word (codes "start(cells):") ∷ (said_square start ++ word (codes "end(cells):") ∷ (said_square end
    ++ word (codes "environment:") ∷ map (λ c. number (pos c)) m.cells))) text

-- from cell s one step in a direction, whose number is the step's, moves to its cell, freely and at this cost
pub record Moves (obsthresh : ℕ) (m : Map) (s : Square) (step : Step Square) (cost : ℕ) : Type 0 where
  pub direction_is : step.id < 8
  pub column : pos step.place.x ≡ pos s.x +ℤ (direction step.id).x
  pub row : pos step.place.y ≡ pos s.y +ℤ (direction step.id).y
  pub free : (x y : ℤ) → IsReadAt step.id x y → IsBelow m obsthresh (pos s.x +ℤ x) (pos s.y +ℤ y)
  pub greatest : ℕ
  pub read : (x : ℤ) × (y : ℤ) × IsReadAt step.id x y × Costs m (pos s.x +ℤ x) (pos s.y +ℤ y) greatest
  pub most : (x y : ℤ) (c : ℕ) → IsReadAt step.id x y → Costs m (pos s.x +ℤ x) (pos s.y +ℤ y) c → c ≤ greatest
  pub product : cost ≡ step_cost step.id * (greatest + 1)
