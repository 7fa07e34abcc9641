-- The environment that is drawn.
use Rattle.std.specs.Prelude.{ℕ, zero, suc, ◌+◌, ◌-◌, ◌*◌, ◌%◌, ℤ, pos, List, [], ◌∷◌, ◌++◌, set, if◌then◌else◌, nat_lt}
use Rattle.sbpl_cost.specs.sbpl_cfg.declared.pose.Pose.{Pose}
use Rattle.sbpl_cost.specs.sbpl_cfg.Environment.{Environment}
use Rattle.sbpl_demo.specs.Generator.{draw}

-- the cost of a cell, of its draw: fifteen of a hundred are obstacles, and fifteen are dear
unfoldable pub cost_of : ℕ → ℕ
cost_of drawn = if nat_lt (drawn % 100) 15 then 254 else if nat_lt (drawn % 100) 30 then 20 else 0

-- cell number i, of the first n, has the cost of draw number i
unfoldable pub costs_drawn : ℕ → ℕ → List ℕ
costs_drawn zero x = []
costs_drawn (suc n) x = costs_drawn n x ++ cost_of (draw n x) ∷ []

-- the number of a cell, row by row
abbrev pub cell_number : ℕ → ℕ → ℕ → ℕ
cell_number width x y = y * width + x

-- the costs of the map: as they were drawn, but the cells of the start and the end are free
abbrev pub costs : ℕ → ℕ → ℕ → List ℕ
costs width height x =
    set (set (costs_drawn (width * height) x) (cell_number width 1 1) 0) (cell_number width (width - 2) (height - 2)) 0

-- the centre of a cell along an axis, in nanometres
abbrev pub center : ℕ → ℤ
center cell = pos (25000000 * cell + 12500000)

-- the centre of a cell, with heading 0
abbrev pub center_pose : ℕ → ℕ → Pose
center_pose x y = record { x = center x; y = center y; theta = pos 0 }

-- from the cell after the first corner to the cell before the last
abbrev pub environment : ℕ → ℕ → Environment
environment width height = record {
  width = width;
  height = height;
  obsthresh = 254;
  inscribed = 253;
  circumscribed = pos 128;
  cell = pos 25000000;
  speed = pos 1000000000;
  turn45 = pos 2000000000;
  start = center_pose 1 1;
  end = center_pose (width - 2) (height - 2);
  headings = 16;
}
