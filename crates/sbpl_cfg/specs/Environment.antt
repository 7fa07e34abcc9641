-- An environment's numbers, and which of them an environment file may give.
use Rattle.std.specs.Prelude.{Bool, ◌&&◌, int_le, int_lt, ◌≡◌, ℕ, ℤ, pos, negsuc, ◌*◌, ◌≤◌, ◌≤ℤ◌, ◌<ℤ◌}
use Rattle.sbpl_cfg.specs.declared.pose.Place.{Place}
use Rattle.sbpl_cfg.specs.declared.pose.Pose.{Pose}
use Rattle.sbpl_cfg.specs.Place.{cell_of, heading_of}

-- the numbers of an environment file
pub record Environment : Type 0 where
  pub width : ℕ
  pub height : ℕ
  pub obsthresh : ℕ
  pub inscribed : ℕ
  pub circumscribed : ℤ
  pub cell : ℤ
  pub speed : ℤ
  pub turn45 : ℤ
  pub start : Pose
  pub end : Pose
  pub headings : ℕ

-- a number lies between two others
abbrev pub IsWithin : ℤ → ℤ → ℤ → Type 0
IsWithin low high z = (low ≤ℤ z) × (z ≤ℤ high)

-- the numbers of headings that an environment file may have
abbrev pub IsHeadingCount : ℕ → Type 0
IsHeadingCount n = (4 ≤ n) × (n ≤ 64)

-- the number of headings of a file that doesn't say one
abbrev pub usual_headings : ℕ
usual_headings = 16

-- a pose of an environment file lies in its ranges
pub record IsPoseInRange (p : Pose) : Type 0 where
  pub x : IsWithin (negsuc 999999999999999999) (pos 1000000000000000000) p.x
  pub y : IsWithin (negsuc 999999999999999999) (pos 1000000000000000000) p.y
  pub theta : IsWithin (negsuc 999999999999999999) (pos 1000000000000000000) p.theta

-- the cell of a coordinate is one of the `count` cells of its axis
abbrev pub IsOnAxis : ℤ → ℕ → ℤ → Type 0
IsOnAxis size count x = (pos 0 ≤ℤ cell_of size x) × (cell_of size x <ℤ pos count)

-- a test of that for both coordinates of a pose
abbrev pub is_on_axis : ℤ → ℕ → ℤ → Bool
is_on_axis size count x = int_le (pos 0) (cell_of size x) && int_lt (cell_of size x) (pos count)

abbrev pub is_on_map : ℤ → ℕ → ℕ → Pose → Bool
is_on_map size width height p = is_on_axis size width p.x && is_on_axis size height p.y

-- the cell of a pose is on the map
pub record IsPoseOnMap (e : Environment) (p : Pose) : Type 0 where
  pub x : IsOnAxis e.cell e.width p.x
  pub y : IsOnAxis e.cell e.height p.y

-- how many states an environment has
abbrev pub state_count : Environment → ℕ
state_count e = e.width * e.height * e.headings

-- each number lies in its range, there are at most 2 ^ 28 states, and both poses are on the map
pub record IsEnvironment (e : Environment) : Type 0 where
  pub width : (1 ≤ e.width) × (e.width ≤ 268435456)
  pub height : (1 ≤ e.height) × (e.height ≤ 268435456)
  pub obsthresh : e.obsthresh ≤ 255
  pub inscribed : e.inscribed ≤ 255
  pub circumscribed : IsWithin (negsuc 0) (pos 255) e.circumscribed
  pub cell : IsWithin (pos 1) (pos 1000000000000) e.cell
  pub speed : IsWithin (pos 1) (pos 1000000000000) e.speed
  pub turn45 : IsWithin (pos 1) (pos 1000000000000) e.turn45
  pub start_in_range : IsPoseInRange e.start
  pub end_in_range : IsPoseInRange e.end
  pub headings : IsHeadingCount e.headings
  pub states : e.width * e.height * e.headings ≤ 268435456
  pub start_on_map : IsPoseOnMap e e.start
  pub end_on_map : IsPoseOnMap e e.end

-- the cell and the heading of a pose
pub record IsPlaceOf (e : Environment) (p : Pose) (q : Place) : Type 0 where
  pub x : pos q.x ≡ cell_of e.cell p.x
  pub y : pos q.y ≡ cell_of e.cell p.y
  pub t : q.t ≡ heading_of e.headings p.theta
