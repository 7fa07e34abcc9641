-- The environment file of a grid: which tokens stand in it, one after another, with their ranges and faults.
use Rattle.std.specs.Prelude.{ℕ, pos, nat_abs, ◌+◌, ◌-◌, ◌*◌, nat_lt, Bool, ◌&&◌, if◌then◌else◌, List, [], ◌∷◌, ◌++◌, codes}
use Rattle.sbpl_fixed.specs.Formats.{Format, item, wrong, done, ended, fixed, whole, and_then, turns}
use Rattle.sbpl_fixed.specs.declared.placed.Placed.{Placed}
use Rattle.sbpl_terrain.specs.sbpl_cfg.declared.fault.EnvFault.{EnvFault}
use Rattle.sbpl_terrain.specs.sbpl_cfg.declared.fault.EnvFault.TheVariants.{TooLarge, StartOff, EndOff}
use Rattle.sbpl_nav2d.specs.declared.parts.Size.{Size}
use Rattle.sbpl_nav2d.specs.declared.parts.GridCell.{GridCell}
use Rattle.sbpl_nav2d.specs.Environment.{NavEnvironment}

-- whether a cell is on a map of this size
abbrev pub is_on_map : Size → GridCell → Bool
is_on_map size p = nat_lt p.x size.width && nat_lt p.y size.height

-- the state of a cell
abbrev pub state_of : Size → GridCell → ℕ
state_of size p = p.y * size.width + p.x

-- the map's size; its fault, where there are more states than the limit, is at the width
unfoldable pub size_format : (states : ℕ) → Format EnvFault Size
size_format states =
    item (fixed (codes "discretization(cells):")) (λ _ _.
    item (whole (pos 1) (pos states)) (λ place width.
    item (whole (pos 1) (pos states)) (λ _ height.
    if nat_lt states (nat_abs width * nat_abs height) then wrong (TooLarge place)
    else done (record { width = nat_abs width; height = nat_abs height }))))

-- the cost from which a cell is an obstacle
unfoldable pub obsthresh_format : Format EnvFault ℕ
obsthresh_format =
    item (fixed (codes "obsthresh:")) (λ _ _.
    item (whole (pos 0) (pos 255)) (λ _ value.
    done (nat_abs value)))

-- a word and a cell after it, with the offset of its x
unfoldable pub grid_cell_format : (states : ℕ) → List ℕ → Format EnvFault (Placed GridCell)
grid_cell_format states word =
    item (fixed word) (λ _ _.
    item (whole (pos 0) (pos (states - 1))) (λ place x.
    item (whole (pos 0) (pos (states - 1))) (λ _ y.
    done (record { value = record { x = nat_abs x; y = nat_abs y }; place = place }))))

unfoldable pub start_grid_cell_format : (states : ℕ) → Format EnvFault (Placed GridCell)
start_grid_cell_format states = grid_cell_format states (codes "start(cells):")

unfoldable pub end_grid_cell_format : (states : ℕ) → Format EnvFault (Placed GridCell)
end_grid_cell_format states = grid_cell_format states (codes "end(cells):")

-- the start, which must be on the map
unfoldable pub start_format : (states : ℕ) → Size → Format EnvFault ℕ
start_format states size =
    and_then (start_grid_cell_format states) (λ p.
    if is_on_map size p.value then done (state_of size p.value) else wrong (StartOff p.place))

-- the end, which must be on the map
unfoldable pub end_format : (states : ℕ) → Size → Format EnvFault ℕ
end_format states size =
    and_then (end_grid_cell_format states) (λ p.
    if is_on_map size p.value then done (state_of size p.value) else wrong (EndOff p.place))

-- all numbers but the costs
unfoldable pub numbers_format : (states : ℕ) → Format EnvFault NavEnvironment
numbers_format states =
    and_then (size_format states) (λ size.
    and_then obsthresh_format (λ obsthresh.
    and_then (start_format states size) (λ start.
    and_then (end_format states size) (λ end.
    done (record { width = size.width; height = size.height; obsthresh = obsthresh; start = start; end = end })))))

-- one more cost
unfoldable pub cost_format : List ℕ → Format EnvFault (List ℕ)
cost_format cells = item (whole (pos 0) (pos 255)) (λ _ cost. done (cells ++ nat_abs cost ∷ []))

-- a word, and this many costs
unfoldable pub grid_format : ℕ → Format EnvFault (List ℕ)
grid_format count = item (fixed (codes "environment:")) (λ _ _. turns count cost_format [])

-- the whole file, where there may be this many states
unfoldable pub environment_format : (states : ℕ) → Format EnvFault (NavEnvironment × List ℕ)
environment_format states =
    and_then (numbers_format states) (λ e.
    and_then (grid_format (e.width * e.height)) (λ cells.
    ended (done (e, cells))))
