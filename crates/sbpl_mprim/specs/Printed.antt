-- The text of primitives. The words of a line are separated by one space, and every line ends with one line feed.
use Rattle.std.specs.Prelude.{ℕ, List, [], ◌∷◌, ◌++◌, length, map, codes, decimal}
use Rattle.std.specs.Fmt.{signed_decimal}
use Rattle.std.specs.List.{flat_map}
use Rattle.sbpl_cfg.specs.declared.pose.Pose.{Pose}
use Rattle.sbpl_fixed.specs.Printed.{lines_text, nano_text}
use Rattle.sbpl_mprim.specs.declared.prim.Primitive.{Primitive}
use Rattle.sbpl_mprim.specs.Primitives.{Primitives}

-- the line of a word and a number
abbrev pub field : List ℕ → ℕ → List (List ℕ)
field name n = name ∷ decimal n ∷ []

abbrev pub pose_line : Pose → List (List ℕ)
pose_line p = nano_text p.x ∷ nano_text p.y ∷ nano_text p.theta ∷ []

-- the line of a word and the end of a primitive
abbrev pub end_line : List ℕ → Primitive → List (List ℕ)
end_line name p = name ∷ signed_decimal p.dx ∷ signed_decimal p.dy ∷ decimal p.to ∷ []

-- the lines of a primitive without its poses
abbrev pub prim_head : Primitive → List (List (List ℕ))
prim_head p =
    field (codes "primID:") p.id ∷ field (codes "startangle_c:") p.from ∷ end_line (codes "endpose_c:") p
    ∷ field (codes "additionalactioncostmult:") p.mult ∷ field (codes "intermediateposes:") (length p.poses) ∷ []

abbrev pub prim_lines : Primitive → List (List (List ℕ))
prim_lines p = prim_head p ++ map pose_line p.poses

-- the lines before the first primitive
abbrev pub prims_head : Primitives → List (List (List ℕ))
prims_head ps =
    (codes "resolution_m:" ∷ nano_text ps.cell ∷ []) ∷ field (codes "numberofangles:") ps.headings
    ∷ field (codes "totalnumberofprimitives:") (length ps.items) ∷ []

abbrev pub prims_lines : Primitives → List (List (List ℕ))
prims_lines ps = prims_head ps ++ flat_map prim_lines ps.items

-- the text of primitives
unfoldable pub prims_text : Primitives → List ℕ
prims_text ps = lines_text (prims_lines ps)
