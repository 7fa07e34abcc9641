-- What going from one place to another costs at least, on every map.
use Rattle.std.specs.Prelude.{◌≡◌, ℕ, ℤ, pos, negsuc, ◌+◌, ◌-◌, ◌*◌, ◌/◌, ◌≤◌, ◌==◌, min, max, List, [], ◌∷◌, slice_get, Option, Some, None, unwrap_or, if◌then◌else◌}
use Rattle.sbpl_sweep.specs.sbpl_cfg.declared.pose.Place.{Place}
use Rattle.sbpl_sweep.specs.sbpl_cfg.Environment.{Environment}
use Rattle.sbpl_sweep.specs.sbpl_mprim.declared.prim.Primitive.{Primitive}
use Rattle.sbpl_cost.specs.declared.way.Way.{Way}
use Rattle.sbpl_cost.specs.declared.way.Way.TheVariants.{Right, Left, Up, Down, Round}
use Rattle.sbpl_cost.specs.PrimitiveCost.{primitive_cost, heading_gap}

-- the cells that a signed number of cells leads forwards, 0 where it leads backwards
abbrev pub positive_part : ℤ → ℕ
positive_part (pos n) = n
positive_part (negsuc n) = 0

-- the cells that a signed number of cells leads backwards, 0 where it leads forwards
abbrev pub negative_part : ℤ → ℕ
negative_part (pos n) = 0
negative_part (negsuc n) = n + 1

-- how many cells, or bins of a turn, a primitive goes this way
abbrev pub advance : ℕ → Way → Primitive → ℕ
advance headings Right p = positive_part p.dx
advance headings Left p = negative_part p.dx
advance headings Up p = positive_part p.dy
advance headings Down p = negative_part p.dy
advance headings Round p = heading_gap headings p.from p.to

-- the lesser of two numbers, either of which may be missing
abbrev pub lesser : Option ℕ → Option ℕ → Option ℕ
lesser None o = o
lesser (Some a) None = Some a
lesser (Some a) (Some b) = Some (min a b)

-- what n cells cost at this cost for this number of cells, rounded down; none where that number is 0
abbrev pub floor_for : ℕ → ℕ → ℕ → Option ℕ
floor_for cost cells n = if cells == 0 then None else Some (n * cost / cells)

-- what n cells to go in a way cost by a primitive's fraction of cost to cells; none where it does not go that way
abbrev pub floor_by : Environment → Way → ℕ → Primitive → Option ℕ
floor_by e way n p = floor_for (primitive_cost e p) (advance e.headings way p) n

-- the least of these over all primitives that go that way
abbrev pub least_floor : Environment → Way → ℕ → List Primitive → Option ℕ
least_floor e way n [] = None
least_floor e way n (p ∷ ps) = lesser (floor_by e way n p) (least_floor e way n ps)

-- what n cells to go in a way cost at least, 0 where no primitive goes that way
unfoldable pub way_bound : Environment → List Primitive → Way → ℕ → ℕ
way_bound e prims way n = unwrap_or (least_floor e way n prims) 0

-- what going from one place to another costs at least: the greatest of the bounds of the five ways
unfoldable pub gap_of : Environment → List Primitive → Place → Place → ℕ
gap_of e prims a b =
    max (max (way_bound e prims Right (b.x - a.x)) (way_bound e prims Left (a.x - b.x)))
    (max (max (way_bound e prims Up (b.y - a.y)) (way_bound e prims Down (a.y - b.y))) (way_bound e prims Round (heading_gap e.headings a.t b.t)))

-- this primitive's fraction of cost to cells is the least of all that go that way
pub record HasLeastFraction (e : Environment) (prims : List Primitive) (way : Way) (index : ℕ) (p : Primitive) : Type 0 where
  pub stands : slice_get prims index ≡ Some p
  pub goes : 1 ≤ advance e.headings way p
  pub least : (i : ℕ) (q : Primitive) → slice_get prims i ≡ Some q → 1 ≤ advance e.headings way q
      → primitive_cost e p * advance e.headings way q ≤ primitive_cost e q * advance e.headings way p

-- the bound of a way is the floor of the least fraction times the cells to go
abbrev pub BoundsAreFloors : Type 0
BoundsAreFloors = (e : Environment) (prims : List Primitive) (way : Way) (n index : ℕ) (p : Primitive) → HasLeastFraction e prims way index p
    → way_bound e prims way n ≡ n * primitive_cost e p / advance e.headings way p

-- the bound of a way that no primitive goes is 0
abbrev pub BoundsMayBeZero : Type 0
BoundsMayBeZero = (e : Environment) (prims : List Primitive) (way : Way) (n : ℕ) → ((i : ℕ) (p : Primitive) → slice_get prims i ≡ Some p → advance e.headings way p ≡ 0)
    → way_bound e prims way n ≡ 0
