-- The primitives: five for each of sixteen headings, for cells of 25 millimetres.
use Rattle.std.specs.Prelude.{ℕ, zero, suc, ◌+◌, ◌*◌, ◌/◌, ◌<◌, ℤ, pos, negsuc, neg_ℤ, ◌+ℤ◌, ◌-ℤ◌, ◌*ℤ◌, ◌≤ℤ◌, List, [], ◌∷◌, ◌++◌, get_or, map, codes, if◌then◌else◌, nat_eq}
use Rattle.std.specs.Fmt.{signed_decimal}
use Rattle.std.specs.List.{flat_map}
use Rattle.sbpl_fixed.specs.Printed.{point_text, lines_text}
use Rattle.sbpl_cost.specs.sbpl_cfg.declared.pose.Pose.{Pose}
use Rattle.sbpl_cost.specs.sbpl_mprim.declared.prim.Primitive.{Primitive}
use Rattle.sbpl_cost.specs.sbpl_mprim.Judging.{heading_modulo}
use Rattle.sbpl_cost.specs.sbpl_mprim.Primitives.{Primitives}
use Rattle.sbpl_cost.specs.sbpl_mprim.Printed.{field}
use Rattle.sbpl_demo.specs.declared.primitives.Motion.{Motion}
use Rattle.sbpl_demo.specs.declared.primitives.Way.{Way}

-- ten-thousandths with four decimals; a number that is 0 has no sign
abbrev pub parts_text : ℤ → List ℕ
parts_text (pos n) = point_text 4 n
parts_text (negsuc n) = 45 ∷ point_text 4 (n + 1)

-- ---- a primitive

-- the whole number nearest to n / 9
abbrev pub nearest_ninth : ℕ → ℕ
nearest_ninth n = (2 * n + 9) / 18

-- Pose j of ten on the straight way over `cells` cells, along an axis: it is at j ninths of the way, which is 250
-- ten-thousandths of a metre for each cell.
unfoldable pub along : ℤ → ℕ → ℤ
along (pos n) j = pos (nearest_ninth (250 * (n * j)))
along (negsuc n) j = neg_ℤ (pos (nearest_ninth (250 * ((n + 1) * j))))

-- the angle of a heading, in ten-thousandths
abbrev pub angle : ℤ → ℤ
angle heading = pos 3927 *ℤ heading

-- the last pose has the heading at the end
abbrev pub heading_at : Motion → ℕ → ℤ
heading_at m j = if nat_eq j 9 then m.to else pos m.from

abbrev pub pose_words : Motion → ℕ → List (List ℕ)
pose_words m j = parts_text (along m.way.x j) ∷ parts_text (along m.way.y j) ∷ parts_text (angle (heading_at m j)) ∷ []

-- the lines of the first n poses
unfoldable pub pose_lines : Motion → ℕ → List (List (List ℕ))
pose_lines m zero = []
pose_lines m (suc n) = pose_lines m n ++ pose_words m n ∷ []

abbrev pub end_words : Motion → List (List ℕ)
end_words m = codes "endpose_c:" ∷ signed_decimal m.way.x ∷ signed_decimal m.way.y ∷ signed_decimal m.to ∷ []

-- the lines before the poses
abbrev pub motion_head : Motion → List (List (List ℕ))
motion_head m =
    field (codes "primID:") m.id
    ∷ field (codes "startangle_c:") m.from
    ∷ end_words m
    ∷ field (codes "additionalactioncostmult:") m.mult
    ∷ field (codes "intermediateposes:") 10
    ∷ []

-- its lines, with ten poses
unfoldable pub motion_lines : Motion → List (List (List ℕ))
motion_lines m = motion_head m ++ pose_lines m 10

-- ---- the five primitives of a heading

abbrev pub way_of : ℤ → ℤ → Way
way_of x y = record { x = x; y = y }

-- the ways along the headings, in cells
abbrev pub ways : List Way
ways =
    way_of (pos 1) (pos 0) ∷ way_of (pos 2) (pos 1) ∷ way_of (pos 1) (pos 1) ∷ way_of (pos 1) (pos 2)
    ∷ way_of (pos 0) (pos 1) ∷ way_of (negsuc 0) (pos 2) ∷ way_of (negsuc 0) (pos 1) ∷ way_of (negsuc 1) (pos 1)
    ∷ way_of (negsuc 0) (pos 0) ∷ way_of (negsuc 1) (negsuc 0) ∷ way_of (negsuc 0) (negsuc 0) ∷ way_of (negsuc 0) (negsuc 1)
    ∷ way_of (pos 0) (negsuc 0) ∷ way_of (pos 1) (negsuc 1) ∷ way_of (pos 1) (negsuc 0) ∷ way_of (pos 2) (negsuc 0)
    ∷ []

-- the way along a heading
unfoldable pub way_along : ℕ → Way
way_along heading = get_or ways heading (way_of (pos 0) (pos 0))

abbrev pub forward : ℕ → Way → Motion
forward from along = record { id = 0; «from» = from; way = along; to = pos from; mult = 1 }

abbrev pub backward : ℕ → Way → Motion
backward from along = record { id = 1; «from» = from; way = way_of (neg_ℤ along.x) (neg_ℤ along.y); to = pos from; mult = 5 }

abbrev pub left : ℕ → Motion
left from = record { id = 2; «from» = from; way = way_of (pos 0) (pos 0); to = pos from +ℤ pos 1; mult = 1 }

abbrev pub right : ℕ → Motion
right from = record { id = 3; «from» = from; way = way_of (pos 0) (pos 0); to = pos from -ℤ pos 1; mult = 1 }

abbrev pub far : ℕ → Way → Motion
far from along = record { id = 4; «from» = from; way = way_of (pos 4 *ℤ along.x) (pos 4 *ℤ along.y); to = pos from; mult = 1 }

unfoldable pub motions_from : ℕ → List Motion
motions_from from =
    forward from (way_along from)
    ∷ backward from (way_along from)
    ∷ left from
    ∷ right from
    ∷ far from (way_along from)
    ∷ []

-- those of the first n headings
unfoldable pub motions : ℕ → List Motion
motions zero = []
motions (suc n) = motions n ++ motions_from n

-- ---- the file

abbrev pub head_lines : List (List (List ℕ))
head_lines =
    (codes "resolution_m:" ∷ codes "0.025000" ∷ [])
    ∷ field (codes "numberofangles:") 16
    ∷ field (codes "totalnumberofprimitives:") 80
    ∷ []

abbrev pub primitives_text : List ℕ
primitives_text = lines_text (head_lines ++ flat_map motion_lines (motions 16))

-- ---- what it says

-- ten-thousandths in billionths
abbrev pub nanos : ℤ → ℤ
nanos z = pos 100000 *ℤ z

abbrev pub pose : Motion → ℕ → Pose
pose m j = record { x = nanos (along m.way.x j); y = nanos (along m.way.y j); theta = nanos (angle (heading_at m j)) }

-- the first n poses
unfoldable pub poses : Motion → ℕ → List Pose
poses m zero = []
poses m (suc n) = poses m n ++ pose m n ∷ []

unfoldable pub primitive : Motion → Primitive
primitive m = record {
  id = m.id;
  «from» = m.from;
  dx = m.way.x;
  dy = m.way.y;
  to = heading_modulo 16 m.to;
  mult = m.mult;
  poses = poses m 10;
}

-- all eighty
abbrev pub primitives : Primitives
primitives = record { cell = pos 25000000; headings = 16; items = map primitive (motions 16) }

-- ---- the ranges

-- a way goes by at most two cells along an axis
pub record IsWithinTwoCells (w : Way) : Type 0 where
  pub x : (negsuc 1 ≤ℤ w.x) × (w.x ≤ℤ pos 2)
  pub y : (negsuc 1 ≤ℤ w.y) × (w.y ≤ℤ pos 2)

-- a primitive goes by at most eight cells along an axis, and turns by at most one heading
pub record IsMotion (m : Motion) : Type 0 where
  pub x : (negsuc 7 ≤ℤ m.way.x) × (m.way.x ≤ℤ pos 8)
  pub y : (negsuc 7 ≤ℤ m.way.y) × (m.way.y ≤ℤ pos 8)
  pub «from» : m.from < 16
  pub to : (negsuc 0 ≤ℤ m.to) × (m.to ≤ℤ pos 16)
