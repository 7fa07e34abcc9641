-- What the eighty primitives are, by looking at each.
use Rattle.std.proofs.Common.{◌≡◌, ℕ, zero, suc, ◌+◌, ◌*◌, ◌≤◌, ◌<◌, ℤ, pos, negsuc, Bool, true, false, ◌&&◌, not, List}
use Rattle.std.proofs.Common.{[], ◌∷◌, ◌++◌, length, map, sum_by, Some, refl, sym, ap, subst, ◌∙◌, arith, length-append}
use Rattle.std.specs.Prelude.{nat_le, nat_lt, unsigned_abs, ◌==◌}
use Rattle.std.specs.List.{list_all, slice_get, AllByRecursion}
use Rattle.std.proofs.lemmas.Bool.{and_parts, not-true}
use Rattle.std.proofs.lemmas.Bool.Decides.{Decides-eqb, nat_tests}
use Rattle.std.proofs.lemmas.Int.{ints}
use Rattle.std.proofs.lemmas.Option.{get_or_from_slice_get}
use Rattle.std.proofs.Math.Seq.{get_or-append_seam}
use Rattle.sbpl_cost.specs.sbpl_cfg.Place.{heading_of}
use Rattle.sbpl_cost.specs.sbpl_cfg.declared.pose.Pose.{Pose}
use Rattle.sbpl_cost.specs.sbpl_mprim.declared.prim.Primitive.{Primitive}
use Rattle.sbpl_cost.specs.sbpl_mprim.Judging.{costs_nothing, heading_modulo, is_in_bin, is_in_cell}
use Rattle.sbpl_cost.specs.sbpl_cfg.Environment.{IsWithin}
use Rattle.sbpl_cost.specs.sbpl_mprim.Primitives.{ArePrimitives, IsOffsetInRange, IsPrimitive, pose_count}
use Rattle.sbpl_cost.proofs.JudgingLaws.{all_pass, costs_something, ends_at}
use Rattle.sbpl_demo.specs.declared.primitives.Motion.{Motion}
use Rattle.sbpl_demo.specs.Primitives.{along, motions, motions_from, pose, poses, primitive, primitives, way_along}

-- a pose is within two decimetres, and within two turns
abbrev is_near : Pose → Bool
is_near p =
    nat_le (unsigned_abs p.x) 200000000
    && (nat_le (unsigned_abs p.y) 200000000 && nat_le (unsigned_abs p.theta) 10000000000)

-- its numbers lie in their ranges, it ends where it says, it costs something, and its poses are near
abbrev looks : Motion → List Bool
looks m =
    nat_le m.id 4
    ∷ nat_lt m.from 16
    ∷ nat_le 1 m.mult
    ∷ nat_le m.mult 5
    ∷ nat_le (unsigned_abs m.way.x) 8
    ∷ nat_le (unsigned_abs m.way.y) 8
    ∷ nat_le (unsigned_abs m.to) 16
    ∷ nat_lt (heading_modulo 16 m.to) 16
    ∷ is_in_cell (pos 25000000) m.way.x m.way.y (pose m 9)
    ∷ is_in_bin 16 (heading_modulo 16 m.to) (pose m 9)
    ∷ not (costs_nothing (primitive m))
    ∷ list_all is_near (poses m 10)
    ∷ []

abbrev is_sound : Motion → Bool
is_sound m = list_all (λ b. b) (looks m)

-- from this number on each has the next number
abbrev are_numbered : ℕ → List Motion → Bool
are_numbered n [] = true
are_numbered n (m ∷ ms) = ((5 * m.from + m.id) == n) && are_numbered (n + 1) ms

all_sound : list_all is_sound (motions 16) ≡ true
unfolding motions motions_from way_along along poses primitive heading_of
all_sound = refl

all_numbered : are_numbered 0 (motions 16) ≡ true
unfolding motions motions_from way_along
all_numbered = refl

pub eighty : length primitives.items ≡ 80
unfolding motions motions_from
eighty = refl

pub eight_hundred : sum_by pose_count primitives.items ≡ 800
unfolding motions motions_from poses primitive
eight_hundred = refl

-- ---- what was looked at, in facts

pub all_at : {A : Type 0} (P : A → Type 0) (xs : List A) → AllByRecursion P xs → (i : ℕ) (x : A)
    → slice_get xs i ≡ Some x → P x
all_at P [] h i x e = absurd cc
all_at {A} P (y ∷ ys) h zero x e = let same : y ≡ x = cc in subst P same h.0
all_at P (y ∷ ys) h (suc i) x e = all_at P ys h.1 i x e

-- a pose is within two decimetres, and within two turns
pub record IsNear (p : Pose) : Type 0 where
  pub x : unsigned_abs p.x ≤ 200000000
  pub y : unsigned_abs p.y ≤ 200000000
  pub theta : unsigned_abs p.theta ≤ 10000000000

pub record IsSound (m : Motion) : Type 0 where
  pub id : m.id ≤ 4
  pub from : m.from < 16
  pub mult : (1 ≤ m.mult) × (m.mult ≤ 5)
  pub x : unsigned_abs m.way.x ≤ 8
  pub y : unsigned_abs m.way.y ≤ 8
  pub to : unsigned_abs m.to ≤ 16
  pub heading : heading_modulo 16 m.to < 16
  pub end_cell : is_in_cell (pos 25000000) m.way.x m.way.y (pose m 9) ≡ true
  pub end_bin : is_in_bin 16 (heading_modulo 16 m.to) (pose m 9) ≡ true
  pub moves : costs_nothing (primitive m) ≡ false
  pub near : AllByRecursion IsNear (poses m 10)

at_most : (a b : ℕ) → nat_le a b ≡ true → a ≤ b
at_most a b h = grind (arith, nat_tests)

below : (a b : ℕ) → nat_lt a b ≡ true → a < b
below a b h = grind (arith, nat_tests)

near : (p : Pose) → is_near p ≡ true → IsNear p
near p h =
    let a =
    and_parts (nat_le (unsigned_abs p.x) 200000000)
    (nat_le (unsigned_abs p.y) 200000000 && nat_le (unsigned_abs p.theta) 10000000000) h in
    let b = and_parts (nat_le (unsigned_abs p.y) 200000000) (nat_le (unsigned_abs p.theta) 10000000000) a.1 in
    record { x = at_most _ _ a.0; y = at_most _ _ b.0; theta = at_most _ _ b.1 }

all_near : (ps : List Pose) → list_all is_near ps ≡ true → AllByRecursion IsNear ps
all_near [] h = tt
all_near (p ∷ ps) h = let both = and_parts (is_near p) (list_all is_near ps) h in (near p both.0, all_near ps both.1)

sound : (m : Motion) → is_sound m ≡ true → IsSound m
sound m h =
    let seen = all_at (λ (b : Bool). b ≡ true) (looks m) (all_pass (λ b. b) (looks m) h) in
    record {
      id = at_most m.id 4 (seen 0 _ refl);
      from = below m.from 16 (seen 1 _ refl);
      mult = (at_most 1 m.mult (seen 2 _ refl), at_most m.mult 5 (seen 3 _ refl));
      x = at_most (unsigned_abs m.way.x) 8 (seen 4 _ refl);
      y = at_most (unsigned_abs m.way.y) 8 (seen 5 _ refl);
      to = at_most (unsigned_abs m.to) 16 (seen 6 _ refl);
      heading = below (heading_modulo 16 m.to) 16 (seen 7 _ refl);
      end_cell = seen 8 _ refl;
      end_bin = seen 9 _ refl;
      moves = not-true (costs_nothing (primitive m)) (seen 10 _ refl);
      near = all_near (poses m 10) (seen 11 _ refl);
    }

each_sound : (ms : List Motion) → AllByRecursion (λ m. is_sound m ≡ true) ms → AllByRecursion IsSound ms
each_sound [] h = tt
each_sound (m ∷ ms) h = (sound m h.0, each_sound ms h.1)

-- each of the eighty is as it must be
pub are_sound : AllByRecursion IsSound (motions 16)
are_sound = each_sound (motions 16) (all_pass is_sound (motions 16) all_sound)

-- ---- the primitives of a file

abbrev a_pose : Motion → ℕ → Pose
a_pose m j = pose m j

pub ten : (m : Motion) → length (poses m 10) ≡ 10
unfolding poses
ten m = refl

-- the last pose
last_pose : (m : Motion) → poses m 10 ≡ poses m 9 ++ pose m 9 ∷ []
unfolding poses
last_pose m = refl

-- a number between two bounds of opposite sign
within : (n : ℕ) (z : ℤ) → unsigned_abs z ≤ n → IsWithin (negsuc n) (pos (n + 1)) z
within n (pos k) h = (omega (arith, ints), omega (arith, ints))
within n (negsuc k) h = (omega (arith, ints), omega (arith, ints))

wider : (a b c d : ℕ) (z : ℤ) → a ≤ c → b ≤ d → IsWithin (negsuc a) (pos b) z → IsWithin (negsuc c) (pos d) z
wider a b c d z h k w = (omega (arith, ints, w.0), omega (arith, ints, w.1))

in_range : (p : Pose) → IsNear p → IsOffsetInRange p
in_range p h = record {
  x = wider 200000000 200000001 999999999999 1000000000000 p.x (omega arith) (omega arith) (within 200000000 p.x h.x);
  y = wider 200000000 200000001 999999999999 1000000000000 p.y (omega arith) (omega arith) (within 200000000 p.y h.y);
  theta =
      wider 10000000000 10000000001 999999999999999999 1000000000000000000 p.theta (omega arith) (omega arith)
      (within 10000000000 p.theta h.theta);
}

is_primitive : (m : Motion) → IsSound m → IsPrimitive (pos 25000000) 16 (primitive m)
unfolding primitive
is_primitive m h =
    let costs = costs_something (primitive m) h.moves in
    record {
      id = omega (arith, h.id);
      from = h.from;
      dx = wider 8 9 32766 32767 m.way.x (omega arith) (omega arith) (within 8 m.way.x h.x);
      dy = wider 8 9 32766 32767 m.way.y (omega arith) (omega arith) (within 8 m.way.y h.y);
      to = h.heading;
      mult = (h.mult.0, omega (arith, h.mult.1));
      some_pose = omega (arith, ten m);
      poses = λ i p at. in_range p (all_at IsNear (poses m 10) h.near i p at);
      end = λ p i last at.
          let index : i ≡ length (poses m 9) =
          omega (arith, last, ap length (last_pose m), length-append (poses m 9) (a_pose m 9 ∷ [])) in
          let same : p ≡ a_pose m 9 =
          sym (get_or_from_slice_get (poses m 10) i p p at)
          ∙ rw (last_pose m, index) (get_or-append_seam (poses m 9) (a_pose m 9) [] p) in
          ends_at (pos 25000000) 16 (primitive m) p (rw (same, h.end_cell) refl) (rw (same, h.end_bin) refl);
      moves = costs.1;
    }

-- the primitive at an index
pub from_motion : (ms : List Motion) (i : ℕ) (p : Primitive) → slice_get (map primitive ms) i ≡ Some p
    → (m : Motion) × (slice_get ms i ≡ Some m) × (primitive m ≡ p)
from_motion [] i p at = absurd cc
from_motion (m ∷ ms) zero p at = (m, refl, cc)
from_motion (m ∷ ms) (suc i) p at = from_motion ms i p at

-- the number of a primitive is its index
place_is : (n : ℕ) (ms : List Motion) → are_numbered n ms ≡ true → (i : ℕ) (m : Motion) → slice_get ms i ≡ Some m
    → 5 * m.from + m.id ≡ n + i
place_is n [] h i m at = absurd cc
place_is n (k ∷ ks) h zero m at =
    let both = and_parts ((5 * k.from + k.id) == n) (are_numbered (n + 1) ks) h in
    let here = (Decides-eqb (5 * k.from + k.id) n).0 both.0 in
    let same : k ≡ m = cc in
    subst (λ (l : Motion). 5 * l.from + l.id ≡ n + 0) same (omega (arith, here))
place_is n (k ∷ ks) h (suc i) m at =
    let both = and_parts ((5 * k.from + k.id) == n) (are_numbered (n + 1) ks) h in
    omega (arith, place_is (n + 1) ks both.1 i m at)

place_of : (i : ℕ) (p : Primitive) → slice_get (map primitive (motions 16)) i ≡ Some p → 5 * p.from + p.id ≡ i
unfolding primitive
place_of i p at =
    let m = from_motion (motions 16) i p at in
    let here = place_is 0 (motions 16) all_numbered i m.0 m.1 in
    subst (λ (q : Primitive). 5 * q.from + q.id ≡ i) m.2 (omega (arith, here))

pub are_primitives : ArePrimitives primitives
are_primitives = record {
  cell = (omega (arith, ints), omega (arith, ints));
  headings = (omega arith, omega arith);
  count = omega (arith, eighty);
  each = λ i p at.
      let m = from_motion (motions 16) i p at in
      subst (λ (q : Primitive). IsPrimitive (pos 25000000) 16 q) m.2
      (is_primitive m.0 (all_at IsSound (motions 16) are_sound i m.0 m.1));
  poses = omega (arith, eight_hundred);
  ids = λ i j p q less at_p at_q same_from same_id.
      omega (arith, place_of i p at_p, place_of j q at_q, same_from, same_id);
}
