-- The states of a lattice: places, as numbers.
use Rattle.std.specs.Prelude.{◌≡◌, ℕ, ℤ, pos, negsuc, ◌+◌, ◌*◌, ◌/◌, ◌%◌, ◌<◌, ◌&&◌, Option, Some, None, nat_lt, if◌then◌else◌}
use Rattle.sbpl_sweep.specs.sbpl_cfg.declared.pose.Place.{Place}
use Rattle.sbpl_sweep.specs.sbpl_cfg.Environment.{Environment}

-- how many states there are
abbrev pub state_count : Environment → ℕ
state_count e = e.width * e.height * e.headings

-- the cell lies on the map, and the heading is one of the environment's
pub record IsPlace (e : Environment) (p : Place) : Type 0 where
  pub x : p.x < e.width
  pub y : p.y < e.height
  pub t : p.t < e.headings

-- the number of the state at a place: row by row, and the headings of a cell side by side
abbrev pub state_number : Environment → Place → ℕ
state_number e p = (p.y * e.width + p.x) * e.headings + p.t

-- the place of a state
abbrev pub place_of : Environment → ℕ → Place
place_of e s = record { x = s / e.headings % e.width; y = s / e.headings / e.width; t = s % e.headings }

-- a coordinate is none of the cells of an axis
abbrev pub IsOff : ℕ → ℤ → Type 0
IsOff count x = (q : ℕ) → x ≡ pos q → q < count → ⊥

-- the state of a cell of the plane with a heading, none where the cell is off the map
abbrev pub state_in : Environment → ℤ → ℤ → ℕ → Option ℕ
state_in e (pos x) (pos y) t = if nat_lt x e.width && nat_lt y e.height then Some (state_number e (record { x = x; y = y; t = t })) else None
state_in e (pos x) (negsuc y) t = None
state_in e (negsuc x) y t = None

-- the place with a heading in a cell of the plane, none where the cell is off the map
abbrev pub place_on_map : Environment → ℤ → ℤ → ℕ → Option Place
place_on_map e (pos x) (pos y) t = if nat_lt x e.width && nat_lt y e.height then Some (record { x = x; y = y; t = t }) else None
place_on_map e (pos x) (negsuc y) t = None
place_on_map e (negsuc x) y t = None
