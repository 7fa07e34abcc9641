-- The faults of a section are its own: running out of memory is none of them.
use Rattle.std.proofs.Common.{ℕ, List, []}
use Rattle.std.specs.Prelude.{◌≢◌, if◌then◌else◌, ◌==◌, codes, unsigned_abs}
use Rattle.sbpl_fixed.specs.Formats.{Format, and_then, done, turns, IsFaulty}
use Rattle.sbpl_fixed.specs.Tokens.{Piece}
use Rattle.sbpl_fixed.specs.declared.fault.TextFault.{TextFault}
use Rattle.sbpl_fixed.specs.declared.fault.TextFault.TheVariants as common
use Rattle.sbpl_fixed.specs.OwnFaults.{Spares, and_then_spares, either_spares, right_spares, spared, turns_spare}
use Rattle.sbpl_cert.specs.declared.fault.LabelFault.{LabelFault}
use Rattle.sbpl_cert.specs.declared.fault.LabelFault.TheVariants.{NoMemory, Count}
use Rattle.sbpl_cert.specs.declared.outcome.Outcome.{Outcome}
use Rattle.sbpl_cert.specs.declared.outcome.Outcome.TheVariants as outcome
use Rattle.sbpl_cert.specs.declared.row.Row.{Row}
use Rattle.sbpl_cert.specs.Faults.{told}
use Rattle.sbpl_cert.specs.declared.sparse_row.SparseRow.{SparseRow}
use Rattle.sbpl_cert.specs.declared.section.Section.{Section}
use Rattle.sbpl_cert.specs.declared.section.Section.TheVariants.{Full, Sparse}
use Rattle.sbpl_cert.specs.Format.{title_format, count_format, low_format, head_format, rows_format, sparse_head_format}
use Rattle.sbpl_cert.specs.Format.{arc_turn, path_format, outcome_format, row_format, row_turn, sparse_row_format}
use Rattle.sbpl_cert.specs.Format.{sparse_turn, full_format, sparse_format, front_format, section_format}

told_spares : (t : TextFault) → told t ≢ NoMemory
told_spares (common.Word p) q = cc
told_spares (common.Number p) q = cc
told_spares (common.Range p) q = cc
told_spares (common.Ended p) q = cc
told_spares (common.Trailing p) q = cc

title_spares : Spares NoMemory title_format
unfolding Spares title_format
title_spares = λ _ _ _ _. tt

count_spares : (word : List ℕ) (n : ℕ) → Spares NoMemory (count_format word n)
unfolding Spares count_format
count_spares word n = λ _ _ place k. right_spares NoMemory _ (Count place) (done tt) (λ q. cc) tt

low_spares : Spares NoMemory low_format
unfolding Spares low_format
low_spares = λ _ _ _ _. tt

head_spares : (plan states : ℕ) → Spares NoMemory (head_format plan states)
unfolding head_format
head_spares plan states =
    and_then_spares NoMemory (count_format (codes "plan") plan) _ (count_spares (codes "plan") plan)
    (λ _. and_then_spares NoMemory (count_format (codes "states") states) _
    (count_spares (codes "states") states) (λ _. low_spares))

row_count_spares : (states : ℕ) → Spares NoMemory (rows_format states)
unfolding Spares rows_format
row_count_spares states = λ _ _ _ _. tt

sparse_head_spares : (plan states : ℕ) → Spares NoMemory (sparse_head_format plan states)
unfolding Spares sparse_head_format
sparse_head_spares plan states =
    and_then_spares NoMemory (count_format (codes "plan") plan) _ (count_spares (codes "plan") plan)
    (λ _. and_then_spares NoMemory (count_format (codes "states") states) _ (count_spares (codes "states") states)
    (λ _. and_then_spares NoMemory (rows_format states) _ (row_count_spares states)
    (λ _. and_then_spares NoMemory low_format _ low_spares (λ _. tt))))

arc_spares : (arcs : List ℕ) → Spares NoMemory (arc_turn arcs)
unfolding Spares arc_turn
arc_spares arcs = λ _ _. tt

path_spares : Spares NoMemory path_format
unfolding Spares path_format
path_spares = λ _ _ _ _ _ n.
    and_then_spares NoMemory (turns _ arc_turn []) _ (turns_spare NoMemory _ arc_turn [] arc_spares) (λ _. tt)

abbrev Said : Type 0
Said = Outcome × List ℕ

no_path : Format LabelFault Said
no_path = done (outcome.NoPath, [])

unknown : Format LabelFault Said
unknown = done (outcome.Unknown, [])

outcome_spares : Spares NoMemory outcome_format
unfolding Spares outcome_format no_path unknown
outcome_spares =
    λ _ k. either_spares NoMemory {A = Said} (unsigned_abs k == 0) path_format (if unsigned_abs k == 1 then no_path
    else unknown) path_spares (either_spares NoMemory {A = Said} (unsigned_abs k == 1) no_path unknown tt tt)

row_spares : Spares NoMemory row_format
unfolding Spares row_format
row_spares = λ _ _ _ _ _ _. tt

next_row_spares : (rows : List Row) → Spares NoMemory (row_turn rows)
unfolding Spares row_turn
next_row_spares rows = and_then_spares NoMemory row_format _ row_spares (λ _. tt)

sparse_row_spares : (least states : ℕ) → Spares NoMemory (sparse_row_format least states)
unfolding Spares sparse_row_format
sparse_row_spares least states = λ _ _ _ _ _ _. tt

next_sparse_row_spares : (states : ℕ) (before : ℕ × List SparseRow) → Spares NoMemory (sparse_turn states before)
unfolding Spares sparse_turn
next_sparse_row_spares states before =
    and_then_spares NoMemory (sparse_row_format before.0 states) _ (sparse_row_spares before.0 states) (λ _. tt)

full_spares : (plan states : ℕ) → Spares NoMemory (full_format plan states)
unfolding Spares full_format
full_spares plan states =
    and_then_spares NoMemory (head_format plan states) _ (head_spares plan states)
    (λ _. and_then_spares NoMemory outcome_format _ outcome_spares
    (λ _. and_then_spares NoMemory (turns states row_turn []) _
    (turns_spare NoMemory states row_turn [] next_row_spares) (λ _. tt)))

sparse_spares : (plan states : ℕ) → Spares NoMemory (sparse_format plan states)
unfolding Spares sparse_format
sparse_spares plan states =
    and_then_spares NoMemory (sparse_head_format plan states) _ (sparse_head_spares plan states)
    (λ head. and_then_spares NoMemory outcome_format _ outcome_spares
    (λ _. and_then_spares NoMemory (turns head.0 (sparse_turn states) (0, [])) _
    (turns_spare NoMemory head.0 (sparse_turn states) (0, []) (next_sparse_row_spares states)) (λ _. tt)))

in_full : (plan states : ℕ) → Format LabelFault Section
in_full plan states = and_then (full_format plan states) (λ s. done (Full s))

in_sparse : (plan states : ℕ) → Format LabelFault Section
in_sparse plan states = and_then (sparse_format plan states) (λ s. done (Sparse s))

front_spares : (plan states : ℕ) → Spares NoMemory (front_format plan states)
unfolding Spares front_format in_full in_sparse
front_spares plan states =
    and_then_spares NoMemory title_format _ title_spares
    (λ version. either_spares NoMemory {A = Section} (version == 1) (in_full plan states) (in_sparse plan states)
    (and_then_spares NoMemory (full_format plan states) _ (full_spares plan states) (λ _. tt))
    (and_then_spares NoMemory (sparse_format plan states) _ (sparse_spares plan states) (λ _. tt)))

section_spares : (plan states : ℕ) → Spares NoMemory (section_format plan states)
unfolding Spares section_format
section_spares plan states =
    and_then_spares NoMemory (front_format plan states) _ (front_spares plan states) (λ _ _ _. tt)

pub no_memory_is_no_fault : (plan states end : ℕ) (ts : List Piece) (e : LabelFault)
    → IsFaulty told (section_format plan states) end ts e → e ≢ NoMemory
no_memory_is_no_fault plan states end ts e h =
    spared NoMemory told (section_format plan states) end ts e told_spares (section_spares plan states) h
