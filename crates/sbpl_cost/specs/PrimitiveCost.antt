-- The cost of a motion primitive by itself: SBPL's rule, in whole numbers.
use Rattle.std.specs.Prelude.{◌≡◌, ℕ, zero, suc, ℤ, ◌+◌, ◌-◌, ◌*◌, ◌/◌, ◌%◌, ◌^◌, ◌<◌, ◌≤◌, ◌-ℤ◌, min, max, nat_le, if◌then◌else◌, ◌⊎◌, List, drop, sum_by, slice_get, Some}
use Rattle.std.specs.Int.{abs_diff}
use Rattle.std.specs.Int.RustNames.{unsigned_abs}
use Rattle.std.specs.List.{zip}
use Rattle.sbpl_sweep.specs.sbpl_cfg.declared.pose.Pose.{Pose}
use Rattle.sbpl_sweep.specs.sbpl_cfg.Environment.{Environment}
use Rattle.sbpl_sweep.specs.sbpl_mprim.declared.prim.Primitive.{Primitive}

-- the least whole number whose square is at least n
unfoldable pub root_above : ℕ → ℕ
root_above zero = 0
root_above (suc n) = if nat_le (suc n) (root_above n * root_above n) then root_above n else root_above n + 1

-- the least whole number that is at least a / b
abbrev pub ceiling : ℕ → ℕ → ℕ
ceiling a b = (a + (b - 1)) / b

abbrev pub squared : ℤ → ℕ
squared z = unsigned_abs z * unsigned_abs z

-- the squared distance of two poses, in square nanometres
abbrev pub squared_distance : Pose → Pose → ℕ
squared_distance p q = squared (p.x -ℤ q.x) + squared (p.y -ℤ q.y)

-- the distance of two poses in nanometres, rounded up
abbrev pub distance : Pose → Pose → ℕ
distance p q = root_above (squared_distance p q)

-- how far a motion along these poses goes: the distances of consecutive poses, together
unfoldable pub way_length : List Pose → ℕ
way_length poses = sum_by (λ pair. distance pair.0 pair.1) (zip poses (drop 1 poses))

-- by how many of n bins two headings differ, the shorter way round
abbrev pub heading_gap : ℕ → ℕ → ℕ → ℕ
heading_gap n from to = min (abs_diff from to) (n - abs_diff from to)

-- the milliseconds that the way takes at the nominal speed, rounded up
abbrev pub linear_time : Environment → Primitive → ℕ
linear_time e prim = ceiling (1000 * way_length prim.poses) (unsigned_abs e.speed)

-- the milliseconds that the turn takes, rounded up: a bin is 8 / n of the 45 degrees that are timed
abbrev pub angular_time : Environment → Primitive → ℕ
angular_time e prim = ceiling (8000 * heading_gap e.headings prim.from prim.to * unsigned_abs e.turn45) (e.headings * 10 ^ 9)

-- the cost of a primitive: its multiplier times the milliseconds of the way or of the turn, whichever are more
unfoldable pub primitive_cost : Environment → Primitive → ℕ
primitive_cost e prim = prim.mult * max (linear_time e prim) (angular_time e prim)

-- the greatest cost that a primitive may have
abbrev pub most_cost : ℕ
most_cost = 16777215

-- a primitive costs more than it may
abbrev pub IsTooDear : Environment → Primitive → Type 0
IsTooDear e prim = most_cost < primitive_cost e prim

-- the first of the primitives that costs more than it may stands at this index
pub record IsFirstTooDear (e : Environment) (prims : List Primitive) (index : ℕ) : Type 0 where
  pub here : (p : Primitive) × (slice_get prims index ≡ Some p) × IsTooDear e p
  pub before : (i : ℕ) (p : Primitive) → i < index → slice_get prims i ≡ Some p → primitive_cost e p ≤ most_cost

-- a number is the least of which a fact holds
pub record IsLeast (P : ℕ → Type 0) (n : ℕ) : Type 0 where
  pub holds : P n
  pub least : (m : ℕ) → P m → n ≤ m

-- a distance is rounded up to the next whole number
abbrev pub DistancesRoundUp : Type 0
DistancesRoundUp = (p q : Pose) → IsLeast (λ r. squared_distance p q ≤ r * r) (distance p q)

-- a quotient is rounded up to the next whole number
abbrev pub CeilingsRoundUp : Type 0
CeilingsRoundUp = (a b : ℕ) → 0 < b → IsLeast (λ q. a ≤ q * b) (ceiling a b)

-- two headings differ by the fewest bins that lead, either way round, from one to the other
abbrev pub GapsAreShortest : Type 0
GapsAreShortest = (n from to : ℕ) → from < n → to < n → IsLeast (λ d. ((from + d) % n ≡ to) ⊎ ((to + d) % n ≡ from)) (heading_gap n from to)
