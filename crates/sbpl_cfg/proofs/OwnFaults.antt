-- The faults of an environment's text are its own: running out of memory is none of them.
use Rattle.std.proofs.Common.{ℕ, ℤ, Bool, true, false, List, [], length}
use Rattle.std.specs.Prelude.{◌≢◌}
use Rattle.sbpl_fixed.specs.Formats.{done}
use Rattle.sbpl_fixed.specs.Tokens.{tokens}
use Rattle.sbpl_fixed.specs.declared.fault.TextFault.{TextFault}
use Rattle.sbpl_fixed.specs.declared.fault.TextFault.TheVariants as common
use Rattle.sbpl_fixed.specs.OwnFaults.{Spares, and_then_spares, done_spares, right_spares}
use Rattle.sbpl_fixed.specs.OwnFaults.{spared, turns_spare, wrong_spares}
use Rattle.sbpl_cfg.specs.declared.fault.EnvFault.{EnvFault}
use Rattle.sbpl_cfg.specs.declared.fault.EnvFault.TheVariants.{NoMemory, TooLarge, StartOff, EndOff}
use Rattle.sbpl_cfg.specs.declared.parts.Header.{Header}
use Rattle.sbpl_cfg.specs.Faults.{told}
use Rattle.sbpl_cfg.specs.Format.{whole_format, nano_format, extent_format, headings_format, says_headings, size_format}
use Rattle.sbpl_cfg.specs.Format.{obsthresh_format, inscribed_format, circumscribed_format, thresholds_format}
use Rattle.sbpl_cfg.specs.Format.{cell_format, speed_format, turn45_format, rates_format, pose_format}
use Rattle.sbpl_cfg.specs.Format.{start_pose_format, end_pose_format, start_format, end_format, header_format}
use Rattle.sbpl_cfg.specs.Format.{ends_format, numbers_format, cost_format, grid_format, environment_format}
use Rattle.sbpl_cfg.specs.Text.{HasFault}

told_spares : (t : TextFault) → told t ≢ NoMemory
told_spares (common.Word p) q = cc
told_spares (common.Number p) q = cc
told_spares (common.Range p) q = cc
told_spares (common.Ended p) q = cc
told_spares (common.Trailing p) q = cc

whole_spares : (w : List ℕ) (low high : ℤ) → Spares NoMemory (whole_format w low high)
unfolding Spares whole_format
whole_spares w low high = λ _ _ _ _. tt

nano_spares : (w : List ℕ) (low high : ℤ) → Spares NoMemory (nano_format w low high)
unfolding Spares nano_format
nano_spares w low high = λ _ _ _ _. tt

pose_spares : (w : List ℕ) → Spares NoMemory (pose_format w)
unfolding Spares pose_format
pose_spares w = λ _ _ _ _ _ _ _ _. tt

extent_spares : (states : ℕ) → Spares NoMemory (extent_format states)
unfolding Spares extent_format
extent_spares states = λ _ _ _ _ _ _. tt

headings_spare : (said : Bool) → Spares NoMemory (headings_format said)
unfolding Spares headings_format
headings_spare true = whole_spares _ _ _
headings_spare false = tt

size_spares : (states : ℕ) (said : Bool) → Spares NoMemory (size_format states said)
unfolding size_format
size_spares states said =
    and_then_spares NoMemory (extent_format states) _ (extent_spares states) (λ x.
    and_then_spares NoMemory (headings_format said) _ (headings_spare said) (λ _.
    wrong_spares NoMemory _ (TooLarge x.place) (done _) (λ q. cc) (done_spares NoMemory _)))

header_spares : (states : ℕ) (said : Bool) → Spares NoMemory (header_format states said)
unfolding header_format thresholds_format rates_format obsthresh_format inscribed_format circumscribed_format
    cell_format speed_format turn45_format
header_spares states said =
    and_then_spares NoMemory (size_format states said) _ (size_spares states said) (λ _.
    and_then_spares NoMemory thresholds_format _
    (and_then_spares NoMemory obsthresh_format _ (whole_spares _ _ _)
    (λ _. and_then_spares NoMemory inscribed_format _ (whole_spares _ _ _)
    (λ _. and_then_spares NoMemory circumscribed_format _ (whole_spares _ _ _) (λ _. done_spares NoMemory _))))
    (λ _. and_then_spares NoMemory rates_format _
    (and_then_spares NoMemory cell_format _ (nano_spares _ _ _)
    (λ _. and_then_spares NoMemory speed_format _ (nano_spares _ _ _)
    (λ _. and_then_spares NoMemory turn45_format _ (nano_spares _ _ _) (λ _. done_spares NoMemory _))))
    (λ _. done_spares NoMemory _)))

ends_spare : (h : Header) → Spares NoMemory (ends_format h)
unfolding ends_format start_format end_format start_pose_format end_pose_format
ends_spare h =
    and_then_spares NoMemory (start_format h) _ (and_then_spares NoMemory start_pose_format _ (pose_spares _)
    (λ p. right_spares NoMemory _ (StartOff p.place) (done _) (λ q. cc) (done_spares NoMemory _))) (λ _.
    and_then_spares NoMemory (end_format h) _ (and_then_spares NoMemory end_pose_format _ (pose_spares _)
    (λ p. right_spares NoMemory _ (EndOff p.place) (done _) (λ q. cc) (done_spares NoMemory _)))
    (λ _. done_spares NoMemory _))

cost_spares : (cells : List ℕ) → Spares NoMemory (cost_format cells)
unfolding Spares cost_format
cost_spares cells = λ _ _. tt

grid_spares : (count : ℕ) → Spares NoMemory (grid_format count)
unfolding Spares grid_format
grid_spares count = λ _ _. turns_spare NoMemory count cost_format [] cost_spares

environment_spares : (states : ℕ) (said : Bool) → Spares NoMemory (environment_format states said)
unfolding Spares environment_format numbers_format
environment_spares states said =
    and_then_spares NoMemory (numbers_format states said) _ (and_then_spares NoMemory (header_format states said) _
    (header_spares states said) (λ h. and_then_spares NoMemory (ends_format h) _ (ends_spare h) (λ _. tt))) (λ e.
    and_then_spares NoMemory (grid_format _) _ (grid_spares _) (λ _. tt))

pub no_memory_is_no_fault : (states : ℕ) (text : List ℕ) (f : EnvFault) → HasFault states text f → f ≢ NoMemory
no_memory_is_no_fault states text f h =
    spared NoMemory told (environment_format states (says_headings text)) (length text) (tokens text) f told_spares
    (environment_spares states (says_headings text)) h
