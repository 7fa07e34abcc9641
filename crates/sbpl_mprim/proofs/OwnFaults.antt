-- The faults of a primitive file are its own: running out of memory is none of them.
use Rattle.std.proofs.Common.{ℕ, ℤ, List, [], length}
use Rattle.std.specs.Prelude.{◌≢◌}
use Rattle.sbpl_fixed.specs.Formats.{turns}
use Rattle.sbpl_fixed.specs.Tokens.{tokens}
use Rattle.sbpl_fixed.specs.declared.fault.TextFault.{TextFault}
use Rattle.sbpl_fixed.specs.declared.fault.TextFault.TheVariants as common
use Rattle.sbpl_fixed.specs.OwnFaults.{Spares, and_then_spares, done_spares, item_spares, right_spares}
use Rattle.sbpl_fixed.specs.OwnFaults.{spared, turns_spare, wrong_spares}
use Rattle.sbpl_mprim.specs.declared.fault.PrimFault.{PrimFault}
use Rattle.sbpl_mprim.specs.declared.fault.PrimFault.TheVariants.{NoMemory, Resolution, Angles, EndCell, EndHeading}
use Rattle.sbpl_mprim.specs.declared.fault.PrimFault.TheVariants.{NoPose, SameId, ZeroCost, TooLarge}
use Rattle.sbpl_mprim.specs.declared.parts.PlacedPose.{PlacedPose}
use Rattle.sbpl_mprim.specs.declared.prim.Primitive.{Primitive}
use Rattle.sbpl_mprim.specs.Faults.{told}
use Rattle.sbpl_mprim.specs.Reading.{angles_format, count_format, end_format, front_format, head_format, judged}
use Rattle.sbpl_mprim.specs.Reading.{mult_format, path_format, pose_format, pose_turn, prim_format, prim_turn}
use Rattle.sbpl_mprim.specs.Reading.{prims_format, resolution_format, signed_format, start_format, total_format}
use Rattle.sbpl_mprim.specs.Text.{HasFault}

told_spares : (t : TextFault) → told t ≢ NoMemory
told_spares (common.Word p) q = cc
told_spares (common.Number p) q = cc
told_spares (common.Range p) q = cc
told_spares (common.Ended p) q = cc
told_spares (common.Trailing p) q = cc

-- ---- poses

pose_spares : Spares NoMemory pose_format
unfolding Spares pose_format
pose_spares = λ _ _ _ _ _ _. tt

pose_turn_spares : (poses : List _) → Spares NoMemory (pose_turn poses)
unfolding pose_turn
pose_turn_spares poses = and_then_spares NoMemory pose_format _ pose_spares (λ _. done_spares NoMemory _)

path_spares : (count : ℕ) → Spares NoMemory (path_format count)
unfolding path_format
path_spares count =
    and_then_spares NoMemory (turns _ pose_turn []) _ (turns_spare NoMemory _ pose_turn [] pose_turn_spares)
    (λ _. and_then_spares NoMemory pose_format _ pose_spares (λ _. done_spares NoMemory _))

-- ---- a primitive

start_spares : (headings : ℕ) (earlier : List Primitive) → Spares NoMemory (start_format headings earlier)
unfolding start_format
start_spares headings earlier =
    item_spares NoMemory _ _ (λ _ _. item_spares NoMemory _ _ (λ place _. item_spares NoMemory _ _ (λ _ _.
    item_spares NoMemory _ _ (λ _ _. wrong_spares NoMemory _ (SameId place) _ (λ q. cc) (done_spares NoMemory _)))))

signed_spares : Spares NoMemory signed_format
unfolding Spares signed_format
signed_spares = λ _ _. tt

end_spares : (headings : ℕ) → Spares NoMemory (end_format headings)
unfolding Spares end_format
end_spares headings = λ _ _. and_then_spares NoMemory signed_format _ signed_spares (λ _. and_then_spares NoMemory
    signed_format _ signed_spares (λ _. and_then_spares NoMemory signed_format _ signed_spares (λ _. tt)))

mult_spares : Spares NoMemory mult_format
unfolding Spares mult_format
mult_spares = λ _ _ _ _. tt

count_spares : (before : ℕ) → Spares NoMemory (count_format before)
unfolding count_format
count_spares before =
    item_spares NoMemory _ _ (λ _ _. item_spares NoMemory _ _ (λ place _. wrong_spares NoMemory _ (NoPose place) _
    (λ q. cc) (wrong_spares NoMemory _ (TooLarge place) _ (λ q. cc) (done_spares NoMemory _))))

judged_spares : (cell : ℤ) (headings place : ℕ) (last : PlacedPose) (prim : Primitive)
    → Spares NoMemory (judged cell headings place last prim)
unfolding judged
judged_spares cell headings place last prim =
    wrong_spares NoMemory _ (EndCell last.x_place) _ (λ q. cc) (wrong_spares NoMemory _ (EndHeading last.theta_place) _
    (λ q. cc) (wrong_spares NoMemory _ (ZeroCost place) _ (λ q. cc) (done_spares NoMemory prim)))

front_spares : (headings : ℕ) (earlier : List Primitive) → Spares NoMemory (front_format headings earlier)
unfolding front_format
front_spares headings earlier =
    and_then_spares NoMemory (start_format headings earlier) _ (start_spares headings earlier)
    (λ _. and_then_spares NoMemory (end_format headings) _ (end_spares headings)
    (λ _. and_then_spares NoMemory mult_format _ mult_spares (λ _. done_spares NoMemory _)))

prim_spares : (cell : ℤ) (headings : ℕ) (earlier : List Primitive) → Spares NoMemory (prim_format cell headings earlier)
unfolding prim_format
prim_spares cell headings earlier =
    and_then_spares NoMemory (front_format headings earlier) _ (front_spares headings earlier)
    (λ _. and_then_spares NoMemory (count_format _) _ (count_spares _) (λ _.
    and_then_spares NoMemory (path_format _) _ (path_spares _) (λ _. judged_spares cell headings _ _ _)))

prim_turn_spares : (cell : ℤ) (headings : ℕ) (earlier : List Primitive)
    → Spares NoMemory (prim_turn cell headings earlier)
unfolding prim_turn
prim_turn_spares cell headings earlier =
    and_then_spares NoMemory (prim_format cell headings earlier) _ (prim_spares cell headings earlier)
    (λ _. done_spares NoMemory _)

-- ---- the file

resolution_spares : (cell : ℤ) → Spares NoMemory (resolution_format cell)
unfolding resolution_format
resolution_spares cell =
    item_spares NoMemory _ _ (λ _ _. item_spares NoMemory _ _
    (λ place _. right_spares NoMemory _ (Resolution place) _ (λ q. cc) (done_spares NoMemory _)))

angles_spares : (headings : ℕ) → Spares NoMemory (angles_format headings)
unfolding angles_format
angles_spares headings =
    item_spares NoMemory _ _ (λ _ _.
    item_spares NoMemory _ _ (λ place _. right_spares NoMemory _ (Angles place) _ (λ q. cc) (done_spares NoMemory _)))

total_spares : Spares NoMemory total_format
unfolding Spares total_format
total_spares = λ _ _ _ _. tt

prims_spare : (cell : ℤ) (headings : ℕ) → Spares NoMemory (prims_format cell headings)
unfolding Spares prims_format head_format
prims_spare cell headings =
    and_then_spares NoMemory (head_format cell headings) _
    (and_then_spares NoMemory (resolution_format cell) _ (resolution_spares cell)
    (λ _. and_then_spares NoMemory (angles_format headings) _ (angles_spares headings) (λ _. total_spares)))
    (λ _. and_then_spares NoMemory (turns _ (prim_turn cell headings) []) _
    (turns_spare NoMemory _ (prim_turn cell headings) [] (prim_turn_spares cell headings)) (λ _. tt))

pub no_memory_is_no_fault : (cell : ℤ) (headings : ℕ) (text : List ℕ) (f : PrimFault)
    → HasFault cell headings text f → f ≢ NoMemory
no_memory_is_no_fault cell headings text f h =
    spared NoMemory told (prims_format cell headings) (length text) (tokens text) f told_spares
    (prims_spare cell headings) h
