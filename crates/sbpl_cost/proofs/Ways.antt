-- Distances of poses, and the ways along them.
use Rattle.std.proofs.Common.{◌≡◌, ℕ, zero, suc, ℤ, pos, negsuc, ◌-ℤ◌, ◌+◌, ◌-◌, ◌*◌, ◌<◌, ◌≤◌, List, [], ◌∷◌, length}
use Rattle.std.proofs.Common.{get_or, drop, Some, slice_get, refl, ap, sym, ◌∙◌, arith}
use Rattle.std.specs.List.{zip}
use Rattle.std.specs.Int.RustNames.{unsigned_abs}
use Rattle.std.proofs.Math.Nat.{mul-le-mul}
use Rattle.std.proofs.lemmas.Int.{ints}
use Rattle.std.proofs.lemmas.Option.{slice_get-get_or}
use Rattle.std.proofs.lemmas.List.Sums.{sum_by-cons}
use Rattle.sbpl_sweep.specs.sbpl_cfg.declared.pose.Pose.{Pose}
use Rattle.sbpl_sweep.specs.sbpl_cfg.Environment.{IsWithin}
use Rattle.sbpl_sweep.specs.sbpl_mprim.Primitives.{AreAtOnePoint}
use Rattle.sbpl_cost.specs.PrimitiveCost.{squared_distance, distance, way_length}
use Rattle.sbpl_cost.proofs.RoundedUp.{root_above-least}

-- coordinates in range are at most 2000 metres apart
pub apart-le : (a b : ℤ) → IsWithin (negsuc 999999999999) (pos 1000000000000) a
    → IsWithin (negsuc 999999999999) (pos 1000000000000) b → unsigned_abs (a -ℤ b) ≤ 2000000000000
apart-le a b within_a within_b = omega (arith, ints)

-- a way goes to the second pose and on from there
pub way_length-cons : (p q : Pose) (rest : List Pose) → way_length (p ∷ q ∷ rest) ≡ distance p q + way_length (q ∷ rest)
unfolding way_length
way_length-cons p q rest = sum_by-cons (λ (pair : Pose × Pose). distance pair.0 pair.1) (p, q) (zip (q ∷ rest) rest)

-- along one pose or none the way is 0
pub way_length-short : (poses : List Pose) → length poses ≤ 1 → way_length poses ≡ 0
unfolding way_length
way_length-short [] short = refl
way_length-short (p ∷ []) short = refl
way_length-short (p ∷ q ∷ rest) short = absurd (omega arith)

-- the way from a place on is the distance to the next place and the way from there on
way_length-on : (poses : List Pose) (i : ℕ) (p q : Pose) → slice_get poses i ≡ Some p → slice_get poses (suc i) ≡ Some q
    → way_length (drop i poses) ≡ distance p q + way_length (drop (suc i) poses)
way_length-on [] i p q here next = absurd (cc)
way_length-on (x ∷ []) zero p q here next = absurd (cc)
way_length-on (x ∷ []) (suc i) p q here next = absurd (cc)
way_length-on (x ∷ y ∷ rest) zero p q here next =
    let a : x ≡ p = cc in let b : y ≡ q = cc in rw (← a, ← b) (way_length-cons x y rest)
way_length-on (x ∷ y ∷ rest) (suc i) p q here next = way_length-on (y ∷ rest) i p q here next

pub way_length-drop : (poses : List Pose) (i r : ℕ) (d : Pose) → 1 ≤ i → i < length poses
    → r ≡ distance (get_or poses (i - 1) d) (get_or poses i d)
    → way_length (drop (i - 1) poses) ≡ r + way_length (drop i poses)
way_length-drop poses zero r d some within is = absurd (omega arith)
way_length-drop poses (suc i) r d some within is =
    let e : suc i - 1 ≡ i = omega arith in
    let p = slice_get-get_or poses i d (omega arith) in
    let q = slice_get-get_or poses (suc i) d within in
    rw e (way_length-on poses i (get_or poses i d) (get_or poses (suc i) d) p q
    ∙ ap (λ n. n + way_length (drop (suc i) poses)) (sym (rw e at is)))

-- a number whose square is 0 is 0
no_square : (n : ℕ) → n * n ≤ 0 → n ≡ 0
no_square zero h = refl
no_square (suc n) h = absurd (let one : 1 ≤ suc n = omega arith in let s = mul-le-mul one one in omega (arith, s))

-- poses whose distance is 0 are at one point
at_one_point : (p q : Pose) → distance p q ≡ 0 → (p.x ≡ q.x) × (p.y ≡ q.y)
at_one_point p q none =
    let enough = (root_above-least (squared_distance p q)).holds in
    let nothing : squared_distance p q ≤ 0 = rw none at enough in
    let x = no_square (unsigned_abs (p.x -ℤ q.x)) (omega arith) in
    let y = no_square (unsigned_abs (p.y -ℤ q.y)) (omega arith) in
    (omega (arith, ints), omega (arith, ints))

all_at : (x : Pose) (rest : List Pose) → way_length (x ∷ rest) ≡ 0 → (i : ℕ) (p : Pose)
    → slice_get (x ∷ rest) i ≡ Some p → (x.x ≡ p.x) × (x.y ≡ p.y)
all_at x rest none zero p here = let e : x ≡ p = cc in (ap (λ (w : Pose). w.x) e, ap (λ (w : Pose). w.y) e)
all_at x [] none (suc i) p here = absurd (cc)
all_at x (y ∷ rest) none (suc i) p here =
    let parts = way_length-cons x y rest in
    let step = at_one_point x y (omega arith) in
    let on = all_at y rest (omega arith) i p here in
    (step.0 ∙ on.0, step.1 ∙ on.1)

-- where the way is 0, all poses are at one point
pub AreAtOnePoint-none : (poses : List Pose) → way_length poses ≡ 0 → AreAtOnePoint poses
AreAtOnePoint-none [] none = λ p q i j here there. absurd (cc)
AreAtOnePoint-none (x ∷ rest) none = λ p q i j here there.
    let a = all_at x rest none i p here in
    let b = all_at x rest none j q there in
    (sym a.0 ∙ b.0, sym a.1 ∙ b.1)
