-- Tests of one primitive: where its last pose lies, whether it moves, and whether its id is taken.
use Rattle.std.specs.Prelude.{◌≡◌, ◌⊎◌, ℕ, ℤ, pos, Bool, true, ◌&&◌, ◌||◌, ◌==◌, List, [], ◌∷◌, Some, slice_get, unsigned_abs}
use Rattle.std.specs.Int.{int_rem_euclid}
use Rattle.std.specs.List.{list_all, list_any}
use Rattle.std.specs.Ordering.{int_eq}
use Rattle.sbpl_cfg.specs.declared.pose.Pose.{Pose}
use Rattle.sbpl_cfg.specs.Place.{heading_of}
use Rattle.sbpl_mprim.specs.declared.prim.Primitive.{Primitive}
use Rattle.sbpl_mprim.specs.Primitives.{AreAtOnePoint, offset_cell}

-- an end heading as a file writes it, taken modulo the number of headings
abbrev pub heading_modulo : ℕ → ℤ → ℕ
heading_modulo headings t = unsigned_abs (int_rem_euclid t (pos headings))

-- a pose lies in a cell, counted from the source cell
abbrev pub is_in_cell : ℤ → ℤ → ℤ → Pose → Bool
is_in_cell cell dx dy p = int_eq (offset_cell cell p.x) dx && int_eq (offset_cell cell p.y) dy

-- a pose's angle lies in the bin of a heading
abbrev pub is_in_bin : ℕ → ℕ → Pose → Bool
is_in_bin headings to p = heading_of headings p.theta == to

abbrev pub is_same_point : Pose → Pose → Bool
is_same_point p q = int_eq p.x q.x && int_eq p.y q.y

-- no pose leaves the point of the first
abbrev pub are_at_one_point : List Pose → Bool
are_at_one_point [] = true
are_at_one_point (p ∷ ps) = list_all (is_same_point p) ps

-- a primitive costs nothing: its multiplier is 0, or it neither moves nor turns
abbrev pub costs_nothing : Primitive → Bool
costs_nothing prim = (prim.mult == 0) || ((prim.from == prim.to) && are_at_one_point prim.poses)

-- one of these has this start heading and this id
abbrev pub has_id : List Primitive → ℕ → ℕ → Bool
has_id prims from id = list_any (λ p. (p.from == from) && (p.id == id)) prims

-- a primitive of the list has this start heading and this id
abbrev pub HasId : List Primitive → ℕ → ℕ → Type 0
HasId prims from id = (i : ℕ) × (p : Primitive) × (slice_get prims i ≡ Some p) × (p.from ≡ from) × (p.id ≡ id)

-- the cost is 0, whatever the robot: the multiplier is 0, or all poses are at one point and the headings are equal
abbrev pub CostsNothing : Primitive → Type 0
CostsNothing prim = (prim.mult ≡ 0) ⊎ ((prim.from ≡ prim.to) × AreAtOnePoint prim.poses)
