-- The faults of the text of a grid's environment are its own: running out of memory is none of them.
use Rattle.std.proofs.Common.{ℕ, List, [], length}
use Rattle.std.specs.Prelude.{◌≢◌, nat_abs}
use Rattle.sbpl_fixed.specs.Formats.{done}
use Rattle.sbpl_fixed.specs.Tokens.{tokens}
use Rattle.sbpl_fixed.specs.declared.fault.TextFault.{TextFault}
use Rattle.sbpl_fixed.specs.declared.fault.TextFault.TheVariants as common
use Rattle.sbpl_fixed.specs.OwnFaults.{Spares, and_then_spares, done_spares, right_spares}
use Rattle.sbpl_fixed.specs.OwnFaults.{spared, turns_spare, wrong_spares}
use Rattle.sbpl_terrain.specs.sbpl_cfg.declared.fault.EnvFault.{EnvFault}
use Rattle.sbpl_terrain.specs.sbpl_cfg.declared.fault.EnvFault.TheVariants.{NoMemory, TooLarge, StartOff, EndOff}
use Rattle.sbpl_nav2d.specs.declared.parts.Size.{Size}
use Rattle.sbpl_terrain.specs.sbpl_cfg.Faults.{told}
use Rattle.sbpl_nav2d.specs.Format.{size_format, obsthresh_format, grid_cell_format, start_grid_cell_format}
use Rattle.sbpl_nav2d.specs.Format.{end_grid_cell_format, start_format, end_format, numbers_format}
use Rattle.sbpl_nav2d.specs.Format.{cost_format, grid_format, environment_format}
use Rattle.sbpl_nav2d.specs.Text.{HasFault}

told_spares : (t : TextFault) → told t ≢ NoMemory
told_spares (common.Word p) q = cc
told_spares (common.Number p) q = cc
told_spares (common.Range p) q = cc
told_spares (common.Ended p) q = cc
told_spares (common.Trailing p) q = cc

size_spares : (states : ℕ) → Spares NoMemory (size_format states)
unfolding Spares size_format
size_spares states = λ _ _ place width _ height.
    let size : Size = record { width = nat_abs width; height = nat_abs height } in
    wrong_spares NoMemory _ (TooLarge place) (done size) (λ q. cc) (done_spares NoMemory size)

obsthresh_spares : Spares NoMemory obsthresh_format
unfolding Spares obsthresh_format
obsthresh_spares = λ _ _ _ _. tt

grid_cell_spares : (states : ℕ) (w : List ℕ) → Spares NoMemory (grid_cell_format states w)
unfolding Spares grid_cell_format
grid_cell_spares states w = λ _ _ _ _ _ _. tt

start_spares : (states : ℕ) (size : Size) → Spares NoMemory (start_format states size)
unfolding start_format start_grid_cell_format
start_spares states size = and_then_spares NoMemory (start_grid_cell_format states) _ (grid_cell_spares states _)
    (λ p. right_spares NoMemory _ (StartOff p.place) (done _) (λ q. cc) (done_spares NoMemory _))

end_spares : (states : ℕ) (size : Size) → Spares NoMemory (end_format states size)
unfolding end_format end_grid_cell_format
end_spares states size = and_then_spares NoMemory (end_grid_cell_format states) _ (grid_cell_spares states _)
    (λ p. right_spares NoMemory _ (EndOff p.place) (done _) (λ q. cc) (done_spares NoMemory _))

numbers_spare : (states : ℕ) → Spares NoMemory (numbers_format states)
unfolding numbers_format
numbers_spare states =
    and_then_spares NoMemory (size_format states) _ (size_spares states) (λ size.
    and_then_spares NoMemory obsthresh_format _ obsthresh_spares (λ _.
    and_then_spares NoMemory (start_format states size) _ (start_spares states size) (λ _.
    and_then_spares NoMemory (end_format states size) _ (end_spares states size) (λ _. done_spares NoMemory _))))

cost_spares : (cells : List ℕ) → Spares NoMemory (cost_format cells)
unfolding Spares cost_format
cost_spares cells = λ _ _. tt

grid_spares : (count : ℕ) → Spares NoMemory (grid_format count)
unfolding Spares grid_format
grid_spares count = λ _ _. turns_spare NoMemory count cost_format [] cost_spares

environment_spares : (states : ℕ) → Spares NoMemory (environment_format states)
unfolding Spares environment_format
environment_spares states =
    and_then_spares NoMemory (numbers_format states) _ (numbers_spare states) (λ _.
    and_then_spares NoMemory (grid_format _) _ (grid_spares _) (λ _. tt))

pub no_memory_is_no_fault : (states : ℕ) (text : List ℕ) (f : EnvFault) → HasFault states text f → f ≢ NoMemory
no_memory_is_no_fault states text f h =
    spared NoMemory told (environment_format states) (length text) (tokens text) f told_spares (environment_spares states) h
