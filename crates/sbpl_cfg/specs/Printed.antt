-- The text of an environment.
use Rattle.std.specs.Prelude.{ℕ, zero, suc, ◌==◌, if◌then◌else◌, List, [], ◌∷◌, ◌++◌, map, take, drop, codes}
use Rattle.std.specs.Fmt.{decimal, signed_decimal}
use Rattle.sbpl_fixed.specs.Printed.{lines_text, nano_text}
use Rattle.sbpl_cfg.specs.declared.pose.Pose.{Pose}
use Rattle.sbpl_cfg.specs.Environment.{Environment, usual_headings}
use Rattle.sbpl_cfg.specs.Format.{headings_word}

-- a pose, after its word
abbrev pub pose_words : List ℕ → Pose → List (List ℕ)
pose_words word p = word ∷ nano_text p.x ∷ nano_text p.y ∷ nano_text p.theta ∷ []

-- the map's size
abbrev pub size_lines : Environment → List (List (List ℕ))
size_lines e = (codes "discretization(cells):" ∷ decimal e.width ∷ decimal e.height ∷ []) ∷ []

-- the number of headings, where it isn't the usual one
abbrev pub heading_lines : Environment → List (List (List ℕ))
heading_lines e = if e.headings == usual_headings then [] else (headings_word ∷ decimal e.headings ∷ []) ∷ []

-- what costs mean
abbrev pub threshold_lines : Environment → List (List (List ℕ))
threshold_lines e =
    (codes "obsthresh:" ∷ decimal e.obsthresh ∷ [])
    ∷ (codes "cost_inscribed_thresh:" ∷ decimal e.inscribed ∷ [])
    ∷ (codes "cost_possibly_circumscribed_thresh:" ∷ signed_decimal e.circumscribed ∷ [])
    ∷ []

-- a cell's side, and the robot's speeds
abbrev pub rate_lines : Environment → List (List (List ℕ))
rate_lines e =
    (codes "cellsize(meters):" ∷ nano_text e.cell ∷ [])
    ∷ (codes "nominalvel(mpersecs):" ∷ nano_text e.speed ∷ [])
    ∷ (codes "timetoturn45degsinplace(secs):" ∷ nano_text e.turn45 ∷ [])
    ∷ []

-- the start, the end, and the word before the grid
abbrev pub end_lines : Environment → List (List (List ℕ))
end_lines e =
    pose_words (codes "start(meters,rads):") e.start
    ∷ pose_words (codes "end(meters,rads):") e.end
    ∷ (codes "environment:" ∷ [])
    ∷ []

-- a line for each row of the grid
unfoldable pub grid_lines : ℕ → ℕ → List ℕ → List (List (List ℕ))
grid_lines zero width cells = []
grid_lines (suc rows) width cells = map decimal (take width cells) ∷ grid_lines rows width (drop width cells)

-- all lines
abbrev pub environment_lines : Environment → List ℕ → List (List (List ℕ))
environment_lines e cells =
    size_lines e ++ (heading_lines e ++ (threshold_lines e ++ (rate_lines e ++ (end_lines e ++ grid_lines e.height e.width cells))))

abbrev pub environment_text : Environment → List ℕ → List ℕ
environment_text e cells = lines_text (environment_lines e cells)
