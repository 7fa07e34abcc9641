-- The environment file: which tokens stand in it, one after another, with their ranges and faults.
use Rattle.std.specs.Prelude.{ℕ, ℤ, pos, negsuc, nat_abs, ◌*◌, ◌++◌, ◌≤◌, nat_lt, Bool, false, bytes_eq, if◌then◌else◌, List, [], ◌∷◌, codes}
use Rattle.sbpl_fixed.specs.Formats.{Format, item, wrong, done, ended, fixed, whole, nano, and_then, turns}
use Rattle.sbpl_fixed.specs.Tokens.{Piece, tokens}
use Rattle.sbpl_fixed.specs.declared.placed.Placed.{Placed}
use Rattle.sbpl_cfg.specs.declared.fault.EnvFault.{EnvFault}
use Rattle.sbpl_cfg.specs.declared.fault.EnvFault.TheVariants.{TooLarge, StartOff, EndOff}
use Rattle.sbpl_cfg.specs.declared.pose.Pose.{Pose}
use Rattle.sbpl_cfg.specs.declared.parts.Ends.{Ends}
use Rattle.sbpl_cfg.specs.declared.parts.Extent.{Extent}
use Rattle.sbpl_cfg.specs.declared.parts.Header.{Header}
use Rattle.sbpl_cfg.specs.declared.parts.Rates.{Rates}
use Rattle.sbpl_cfg.specs.declared.parts.Size.{Size}
use Rattle.sbpl_cfg.specs.declared.parts.Thresholds.{Thresholds}
use Rattle.sbpl_cfg.specs.Environment.{Environment, is_on_map, usual_headings, IsHeadingCount, IsWithin}

-- ---- the word that a file may leave out

-- the word before the number of headings
abbrev pub headings_word : List ℕ
headings_word = codes "NumThetaDirs:"

-- whether it is the fourth token, the one after the height
abbrev pub is_fourth_token : List Piece → Bool
is_fourth_token (word ∷ width ∷ height ∷ t ∷ ts) = bytes_eq t.bytes headings_word
is_fourth_token _ = false

-- whether a text says its number of headings
abbrev pub says_headings : List ℕ → Bool
says_headings text = is_fourth_token (tokens text)

-- ---- what is read

-- whether a pose is on the map
abbrev pub is_on_map_of : Header → Pose → Bool
is_on_map_of h p = is_on_map h.rates.cell h.size.width h.size.height p

-- the numbers of a header lie in their ranges
pub record IsHeaderInRange (h : Header) : Type 0 where
  pub width : (1 ≤ h.size.width) × (h.size.width ≤ 268435456)
  pub height : (1 ≤ h.size.height) × (h.size.height ≤ 268435456)
  pub headings : IsHeadingCount h.size.headings
  pub states : h.size.width * h.size.height * h.size.headings ≤ 268435456
  pub obsthresh : h.thresholds.obsthresh ≤ 255
  pub inscribed : h.thresholds.inscribed ≤ 255
  pub circumscribed : IsWithin (negsuc 0) (pos 255) h.thresholds.circumscribed
  pub cell : IsWithin (pos 1) (pos 1000000000000) h.rates.cell
  pub speed : IsWithin (pos 1) (pos 1000000000000) h.rates.speed
  pub turn45 : IsWithin (pos 1) (pos 1000000000000) h.rates.turn45

-- the numbers that were read
abbrev pub environment_of : Header → Ends → Environment
environment_of h ends = record {
  width = h.size.width;
  height = h.size.height;
  obsthresh = h.thresholds.obsthresh;
  inscribed = h.thresholds.inscribed;
  circumscribed = h.thresholds.circumscribed;
  cell = h.rates.cell;
  speed = h.rates.speed;
  turn45 = h.rates.turn45;
  start = ends.start;
  end = ends.end;
  headings = h.size.headings;
}

-- ---- the file's parts

-- a word and a whole number after it
unfoldable pub whole_format : List ℕ → ℤ → ℤ → Format EnvFault ℤ
whole_format word low high = item (fixed word) (λ _ _. item (whole low high) (λ _ n. done n))

-- a word and a decimal after it
unfoldable pub nano_format : List ℕ → ℤ → ℤ → Format EnvFault ℤ
nano_format word low high = item (fixed word) (λ _ _. item (nano low high) (λ _ n. done n))

-- cells along x and along y, with the offset of the width; `states` is the limit
unfoldable pub extent_format : (states : ℕ) → Format EnvFault (Placed Extent)
extent_format states =
    item (fixed (codes "discretization(cells):")) (λ _ _.
    item (whole (pos 1) (pos states)) (λ place width.
    item (whole (pos 1) (pos states)) (λ _ height.
    done (record { value = record { width = nat_abs width; height = nat_abs height }; place = place }))))

-- the number of headings, where the file says it
unfoldable pub headings_format : Bool → Format EnvFault ℤ
headings_format said = if said then whole_format headings_word (pos 4) (pos 64) else done (pos usual_headings)

-- the lattice's size; its fault, where there are too many states, is at the width
unfoldable pub size_format : (states : ℕ) → Bool → Format EnvFault Size
size_format states said =
    and_then (extent_format states) (λ extent.
    and_then (headings_format said) (λ headings.
    if nat_lt states (extent.value.width * extent.value.height * nat_abs headings) then wrong (TooLarge extent.place)
    else done (record { width = extent.value.width; height = extent.value.height; headings = nat_abs headings })))

unfoldable pub obsthresh_format : Format EnvFault ℤ
obsthresh_format = whole_format (codes "obsthresh:") (pos 0) (pos 255)

unfoldable pub inscribed_format : Format EnvFault ℤ
inscribed_format = whole_format (codes "cost_inscribed_thresh:") (pos 0) (pos 255)

unfoldable pub circumscribed_format : Format EnvFault ℤ
circumscribed_format = whole_format (codes "cost_possibly_circumscribed_thresh:") (negsuc 0) (pos 255)

-- what costs mean
unfoldable pub thresholds_format : Format EnvFault Thresholds
thresholds_format =
    and_then obsthresh_format (λ obsthresh.
    and_then inscribed_format (λ inscribed.
    and_then circumscribed_format (λ circumscribed.
    done (record { obsthresh = nat_abs obsthresh; inscribed = nat_abs inscribed; circumscribed = circumscribed }))))

unfoldable pub cell_format : Format EnvFault ℤ
cell_format = nano_format (codes "cellsize(meters):") (pos 1) (pos 1000000000000)

unfoldable pub speed_format : Format EnvFault ℤ
speed_format = nano_format (codes "nominalvel(mpersecs):") (pos 1) (pos 1000000000000)

unfoldable pub turn45_format : Format EnvFault ℤ
turn45_format = nano_format (codes "timetoturn45degsinplace(secs):") (pos 1) (pos 1000000000000)

-- a cell's side, the speed and the time to turn
unfoldable pub rates_format : Format EnvFault Rates
rates_format =
    and_then cell_format (λ cell.
    and_then speed_format (λ speed.
    and_then turn45_format (λ turn45.
    done (record { cell = cell; speed = speed; turn45 = turn45 }))))

-- a number of a pose
abbrev pub coordinate : (ℕ → ℤ → Format EnvFault (Placed Pose)) → Format EnvFault (Placed Pose)
coordinate more = item (nano (negsuc 999999999999999999) (pos 1000000000000000000)) more

-- a word and a pose after it, with the offset of its x
unfoldable pub pose_format : List ℕ → Format EnvFault (Placed Pose)
pose_format word =
    item (fixed word) (λ _ _.
    coordinate (λ place x.
    coordinate (λ _ y.
    coordinate (λ _ theta.
    done (record { value = record { x = x; y = y; theta = theta }; place = place })))))

unfoldable pub start_pose_format : Format EnvFault (Placed Pose)
start_pose_format = pose_format (codes "start(meters,rads):")

unfoldable pub end_pose_format : Format EnvFault (Placed Pose)
end_pose_format = pose_format (codes "end(meters,rads):")

-- the start, which must be on the map
unfoldable pub start_format : Header → Format EnvFault Pose
start_format h = and_then start_pose_format (λ p. if is_on_map_of h p.value then done p.value else wrong (StartOff p.place))

-- the end, which must be on the map
unfoldable pub end_format : Header → Format EnvFault Pose
end_format h = and_then end_pose_format (λ p. if is_on_map_of h p.value then done p.value else wrong (EndOff p.place))

-- all but the poses and the costs
unfoldable pub header_format : (states : ℕ) → Bool → Format EnvFault Header
header_format states said =
    and_then (size_format states said) (λ size.
    and_then thresholds_format (λ thresholds.
    and_then rates_format (λ rates.
    done (record { size = size; thresholds = thresholds; rates = rates }))))

unfoldable pub ends_format : Header → Format EnvFault Ends
ends_format h =
    and_then (start_format h) (λ start.
    and_then (end_format h) (λ end.
    done (record { start = start; end = end })))

-- all numbers but the costs
unfoldable pub numbers_format : (states : ℕ) → Bool → Format EnvFault Environment
numbers_format states said =
    and_then (header_format states said) (λ h. and_then (ends_format h) (λ ends. done (environment_of h ends)))

-- one more cost
unfoldable pub cost_format : List ℕ → Format EnvFault (List ℕ)
cost_format cells = item (whole (pos 0) (pos 255)) (λ _ cost. done (cells ++ nat_abs cost ∷ []))

-- a word, and this many costs
unfoldable pub grid_format : ℕ → Format EnvFault (List ℕ)
grid_format count = item (fixed (codes "environment:")) (λ _ _. turns count cost_format [])

-- the whole file, with the number of headings or without it, where there may be this many states
unfoldable pub environment_format : (states : ℕ) → Bool → Format EnvFault (Environment × List ℕ)
environment_format states said =
    and_then (numbers_format states said) (λ e.
    and_then (grid_format (e.width * e.height)) (λ cells.
    ended (done (e, cells))))
