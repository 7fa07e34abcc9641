-- Primitives of a file, each for itself.
use Rattle.std.proofs.Common.{◌≡◌, ℕ, ◌≤◌, Some, length, ap, arith}
use Rattle.std.proofs.lemmas.List.Sums.{get_or-le-sum_by}
use Rattle.std.proofs.lemmas.Option.{get_or_from_slice_get, slice_get_within}
use Rattle.std.specs.List.{slice_get}
use Rattle.sbpl_mprim.specs.declared.prim.Primitive.{Primitive}
use Rattle.sbpl_mprim.specs.Primitives.{ArePrimitives, Primitives, pose_count}

-- no primitive of a file has more poses than all of them may have
pub few_poses : {ps : Primitives} → ArePrimitives ps → (i : ℕ) (p : Primitive)
    → slice_get ps.items i ≡ Some p → length p.poses ≤ 200000
few_poses {ps} kept i p at =
    let inside = slice_get_within ps.items i p at in
    let here = get_or_from_slice_get ps.items i p p at in
    omega (arith, kept.poses, ap pose_count here, get_or-le-sum_by pose_count ps.items i p inside)
