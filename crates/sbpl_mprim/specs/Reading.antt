-- The format of a primitive file.
use Rattle.std.specs.Prelude.{ℕ, ℤ, pos, negsuc, ◌+◌, ◌-◌, ◌==◌, nat_lt, not, if◌then◌else◌, List, [], ◌∷◌, ◌++◌, unsigned_abs, sum_by, codes}
use Rattle.std.specs.Ordering.{int_eq}
use Rattle.sbpl_fixed.specs.Formats.{Format, item, ended, wrong, done, fixed, whole, nano, and_then, turns}
use Rattle.sbpl_cfg.specs.declared.pose.Pose.{Pose}
use Rattle.sbpl_mprim.specs.declared.fault.PrimFault.{PrimFault}
use Rattle.sbpl_mprim.specs.declared.fault.PrimFault.TheVariants.{Resolution, Angles, EndCell, EndHeading, NoPose, SameId, ZeroCost, TooLarge}
use Rattle.sbpl_mprim.specs.declared.parts.PlacedPose.{PlacedPose}
use Rattle.sbpl_mprim.specs.declared.parts.Start.{Start}
use Rattle.sbpl_mprim.specs.declared.parts.End.{End}
use Rattle.sbpl_mprim.specs.declared.prim.Primitive.{Primitive}
use Rattle.sbpl_mprim.specs.Judging.{costs_nothing, has_id, heading_modulo, is_in_bin, is_in_cell}
use Rattle.sbpl_mprim.specs.Primitives.{pose_count}

-- ---- the poses of a primitive

unfoldable pub pose_format : Format PrimFault PlacedPose
pose_format =
    item (nano (negsuc 999999999999) (pos 1000000000000)) (λ x_place x.
    item (nano (negsuc 999999999999) (pos 1000000000000)) (λ _ y.
    item (nano (negsuc 999999999999999999) (pos 1000000000000000000)) (λ theta_place theta.
    done (record { pose = record { x = x; y = y; theta = theta }; x_place = x_place; theta_place = theta_place }))))

-- one more pose
unfoldable pub pose_turn : List Pose → Format PrimFault (List Pose)
pose_turn poses = and_then pose_format (λ p. done (poses ++ p.pose ∷ []))

-- all poses, and the last of them again with its offsets
unfoldable pub path_format : ℕ → Format PrimFault (List Pose × PlacedPose)
path_format count = and_then (turns (count - 1) pose_turn []) (λ poses. and_then pose_format (λ last. done (poses ++ last.pose ∷ [], last)))

-- ---- one primitive

-- the id and the start heading; no earlier primitive has both
unfoldable pub start_format : ℕ → List Primitive → Format PrimFault Start
start_format headings earlier =
    item (fixed (codes "primID:")) (λ _ _. item (whole (pos 0) (pos 65535)) (λ place id.
    item (fixed (codes "startangle_c:")) (λ _ _. item (whole (pos 0) (pos (headings - 1))) (λ _ from.
    if has_id earlier (unsigned_abs from) (unsigned_abs id) then wrong (SameId place)
    else done (record { id = unsigned_abs id; from = unsigned_abs from; place = place })))))

-- a number of cells, or a heading as a file writes it
unfoldable pub signed_format : Format PrimFault ℤ
signed_format = item (whole (negsuc 32766) (pos 32767)) (λ _ n. done n)

-- the end cell and the end heading
unfoldable pub end_format : ℕ → Format PrimFault End
end_format headings =
    item (fixed (codes "endpose_c:")) (λ _ _. and_then signed_format (λ dx. and_then signed_format (λ dy. and_then signed_format (λ t.
    done (record { dx = dx; dy = dy; to = heading_modulo headings t })))))

unfoldable pub mult_format : Format PrimFault ℕ
mult_format = item (fixed (codes "additionalactioncostmult:")) (λ _ _. item (whole (pos 0) (pos 16777215)) (λ _ mult. done (unsigned_abs mult)))

-- how many poses there are, where the earlier primitives have `before` poses
unfoldable pub count_format : ℕ → Format PrimFault ℕ
count_format before =
    item (fixed (codes "intermediateposes:")) (λ _ _. item (whole (pos 0) (pos 200000)) (λ place count.
    if unsigned_abs count == 0 then wrong (NoPose place)
    else (if nat_lt 200000 (before + unsigned_abs count) then wrong (TooLarge place) else done (unsigned_abs count))))

-- a primitive whose tokens were read: it ends where it says, and costs something
unfoldable pub judged : ℤ → ℕ → ℕ → PlacedPose → Primitive → Format PrimFault Primitive
judged cell headings id_place last prim =
    if not (is_in_cell cell prim.dx prim.dy last.pose) then wrong (EndCell last.x_place)
    else (if not (is_in_bin headings prim.to last.pose) then wrong (EndHeading last.theta_place)
    else (if costs_nothing prim then wrong (ZeroCost id_place) else done prim))

abbrev pub made : Start → End → ℕ → List Pose → Primitive
made s e mult poses = record { id = s.id; from = s.from; dx = e.dx; dy = e.dy; to = e.to; mult = mult; poses = poses }

-- what stands before the poses of a primitive
unfoldable pub front_format : ℕ → List Primitive → Format PrimFault (Start × End × ℕ)
front_format headings earlier =
    and_then (start_format headings earlier) (λ s. and_then (end_format headings) (λ e. and_then mult_format (λ mult. done (s, e, mult))))

-- one primitive after the earlier ones
unfoldable pub prim_format : ℤ → ℕ → List Primitive → Format PrimFault Primitive
prim_format cell headings earlier =
    and_then (front_format headings earlier) (λ f. and_then (count_format (sum_by pose_count earlier)) (λ count.
    and_then (path_format count) (λ path. judged cell headings f.0.place path.1 (made f.0 f.1 f.2 path.0))))

unfoldable pub prim_turn : ℤ → ℕ → List Primitive → Format PrimFault (List Primitive)
prim_turn cell headings earlier = and_then (prim_format cell headings earlier) (λ prim. done (earlier ++ prim ∷ []))

-- ---- the file

-- the cell size, which must be that of the environment
unfoldable pub resolution_format : ℤ → Format PrimFault ℤ
resolution_format cell =
    item (fixed (codes "resolution_m:")) (λ _ _. item (nano (pos 1) (pos 1000000000000)) (λ place r.
    if int_eq r cell then done r else wrong (Resolution place)))

-- the number of headings, which must be that of the environment
unfoldable pub angles_format : ℕ → Format PrimFault ℕ
angles_format headings =
    item (fixed (codes "numberofangles:")) (λ _ _. item (whole (pos 1) (pos 64)) (λ place n.
    if unsigned_abs n == headings then done (unsigned_abs n) else wrong (Angles place)))

-- how many primitives there are
unfoldable pub total_format : Format PrimFault ℕ
total_format = item (fixed (codes "totalnumberofprimitives:")) (λ _ _. item (whole (pos 0) (pos 4096)) (λ _ total. done (unsigned_abs total)))

unfoldable pub head_format : ℤ → ℕ → Format PrimFault ℕ
head_format cell headings = and_then (resolution_format cell) (λ _. and_then (angles_format headings) (λ _. total_format))

-- all of a file
unfoldable pub prims_format : ℤ → ℕ → Format PrimFault (List Primitive)
prims_format cell headings = and_then (head_format cell headings) (λ total. and_then (turns total (prim_turn cell headings) []) (λ prims. ended (done prims)))
