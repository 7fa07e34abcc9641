-- What the eighty primitives cost, at most, and how many cells they sweep.
use Rattle.std.proofs.Common.{◌≡◌, ℕ, ◌*◌, ◌<◌, ◌≤◌, ℤ, pos, negsuc, List, [], ◌∷◌, length, sum_by, Some}
use Rattle.std.proofs.Common.{max, subst, arith}
use Rattle.std.specs.Prelude.{drop, unsigned_abs, ◌-ℤ◌}
use Rattle.std.specs.List.{slice_get, zip, AllByRecursion}
use Rattle.std.proofs.lemmas.Int.{ints}
use Rattle.std.proofs.lemmas.List.Sums.{sum_by-cons}
use Rattle.std.proofs.lemmas.Nat.{mul-lt}
use Rattle.sbpl_cost.specs.sbpl_cfg.declared.pose.Pose.{Pose}
use Rattle.sbpl_cost.specs.sbpl_mprim.declared.prim.Primitive.{Primitive}
use Rattle.sbpl_cost.specs.sbpl_mprim.Primitives.{pose_count}
use Rattle.sbpl_cost.specs.sbpl_sweep.Widths.{FewPosesAreNarrow, NoneTooWide}
use Rattle.sbpl_cost.specs.PrimitiveCost.{DistancesRoundUp, angular_time, distance, heading_gap, linear_time}
use Rattle.sbpl_cost.specs.PrimitiveCost.{most_cost, primitive_cost, way_length}
use Rattle.sbpl_demo.specs.declared.primitives.Motion.{Motion}
use Rattle.sbpl_demo.specs.Environment.{environment}
use Rattle.sbpl_demo.specs.Primitives.{motions, poses, primitive, primitives}
use Rattle.sbpl_demo.proofs.Eighty.{all_at, IsNear, IsSound, are_sound, eight_hundred, from_motion, ten}

-- ---- cells

few_poses : (i : ℕ) (p : Primitive) → slice_get primitives.items i ≡ Some p → pose_count p ≤ 65536
unfolding primitive
few_poses i p at =
    let m = from_motion (motions 16) i p at in
    subst (λ (q : Primitive). pose_count q ≤ 65536) m.2 (omega (arith, ten m.0))

pub are_narrow : FewPosesAreNarrow → NoneTooWide primitives 0
are_narrow law = law primitives few_poses (omega (arith, eight_hundred))

-- ---- the way

apart : (a b : ℤ) → unsigned_abs a ≤ 200000000 → unsigned_abs b ≤ 200000000 → unsigned_abs (a -ℤ b) ≤ 400000000
apart (pos a) (pos b) h k = omega (arith, ints)
apart (pos a) (negsuc b) h k = omega (arith, ints)
apart (negsuc a) (pos b) h k = omega (arith, ints)
apart (negsuc a) (negsuc b) h k = omega (arith, ints)

small_square : (n : ℕ) → n ≤ 400000000 → n * n < 400000001 * 400000001
small_square n h = mul-lt n n 400000001 400000001 (omega arith) (omega arith)

module _ (law : DistancesRoundUp) where
  close : (p q : Pose) → IsNear p → IsNear q → distance p q ≤ 800000000
  close p q h k =
      let x = small_square (unsigned_abs (p.x -ℤ q.x)) (apart p.x q.x h.x k.x) in
      let y = small_square (unsigned_abs (p.y -ℤ q.y)) (apart p.y q.y h.y k.y) in
      (law p q).least 800000000 (omega (arith, x, y))

  steps_close : (ps qs : List Pose) → AllByRecursion IsNear ps → AllByRecursion IsNear qs
      → sum_by (λ (pair : Pose × Pose). distance pair.0 pair.1) (zip ps qs) ≤ 800000000 * length ps
  steps_close [] qs h k = omega arith
  steps_close (p ∷ ps) [] h k = omega arith
  steps_close (p ∷ ps) (q ∷ qs) h k =
      let first = close p q h.0 k.0 in
      let rest = steps_close ps qs h.1 k.1 in
      omega (arith, first, rest, sum_by-cons (λ (pair : Pose × Pose). distance pair.0 pair.1) (p, q) (zip ps qs))

  near_rest : (ps : List Pose) → AllByRecursion IsNear ps → AllByRecursion IsNear (drop 1 ps)
  near_rest [] h = tt
  near_rest (p ∷ ps) h = h.1

  way_short : (ps : List Pose) → AllByRecursion IsNear ps → length ps ≡ 10 → way_length ps ≤ 8000000000
  unfolding way_length
  way_short ps h ten = omega (arith, steps_close ps (drop 1 ps) h (near_rest ps h))

  -- ---- the cost

  gap_small : (from to : ℕ) → heading_gap 16 from to ≤ 16
  gap_small from to = omega arith

  costs_little : (width height : ℕ) (p : Primitive) → way_length p.poses ≤ 8000000000 → p.mult ≤ 5
      → primitive_cost (environment width height) p ≤ most_cost
  unfolding primitive_cost
  costs_little width height p way few =
      let gap = gap_small p.from p.to in
      let linear : linear_time (environment width height) p ≤ 16001 = omega (arith, way) in
      let angular : angular_time (environment width height) p ≤ 16001 = omega (arith, gap) in
      let time = max (linear_time (environment width height) p) (angular_time (environment width height) p) in
      let short : time < 16002 = omega (arith, linear, angular) in
      omega (arith, mul-lt p.mult time 6 16002 (omega arith) short)

  motion_cheap : (width height : ℕ) (m : Motion) → IsSound m
      → primitive_cost (environment width height) (primitive m) ≤ most_cost
  unfolding primitive
  motion_cheap width height m h =
      costs_little width height (primitive m) (way_short (poses m 10) h.near (ten m)) h.mult.1

  pub are_cheap : (width height i : ℕ) (p : Primitive) → slice_get primitives.items i ≡ Some p
      → primitive_cost (environment width height) p ≤ most_cost
  are_cheap width height i p at =
      let m = from_motion (motions 16) i p at in
      subst (λ (q : Primitive). primitive_cost (environment width height) q ≤ most_cost) m.2
      (motion_cheap width height m.0 (all_at IsSound (motions 16) are_sound i m.0 m.1))
