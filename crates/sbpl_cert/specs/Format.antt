-- The format of a section of a label text.
use Rattle.std.specs.Prelude.{ℕ, ℤ, pos, ◌+◌, ◌^◌, ◌==◌, nat_le, bytes_eq, if◌then◌else◌, List, [], ◌∷◌, ◌++◌, unsigned_abs, codes, Result, Ok, Err}
use Rattle.sbpl_labels.specs.sbpl_graph.declared.TheConstants.{FAR}
use Rattle.sbpl_fixed.specs.Formats.{Miss, no_word, no_number, out_of_range, Item, Format, item, wrong, done, fixed, and_then, turns}
use Rattle.sbpl_fixed.specs.Unsigned.{digits_of, milli_of}
use Rattle.sbpl_fixed.specs.declared.fault.NumFault.{NumFault}
use Rattle.sbpl_fixed.specs.declared.fault.NumFault.TheVariants.{Form, Size}
use Rattle.sbpl_cert.specs.declared.fault.LabelFault.{LabelFault}
use Rattle.sbpl_cert.specs.declared.fault.LabelFault.TheVariants.{Count}
use Rattle.sbpl_cert.specs.declared.outcome.Outcome.{Outcome}
use Rattle.sbpl_cert.specs.declared.outcome.Outcome.TheVariants as outcome
use Rattle.sbpl_cert.specs.declared.row.Row.{Row}
use Rattle.sbpl_cert.specs.declared.sparse_row.SparseRow.{SparseRow}
use Rattle.sbpl_cert.specs.declared.section.Section.{Section}
use Rattle.sbpl_cert.specs.declared.section.Section.TheVariants.{Full, Sparse}
use Rattle.sbpl_cert.specs.Sections.{FullSection}
use Rattle.sbpl_cert.specs.Sparse.{SparseSection}

-- ---- items

-- a number that was read
abbrev pub as_number : Result ℕ NumFault → Result ℤ Miss
as_number (Ok n) = Ok (pos n)
as_number (Err Form) = Err no_number
as_number (Err Size) = Err out_of_range

-- digits, and the number below a limit
abbrev pub digits : ℕ → Item
digits end bytes = as_number (digits_of end bytes)

-- such a number, or a minus alone for infinity
abbrev pub label : ℕ → Item
label end bytes = if bytes_eq bytes (codes "-") then Ok (pos FAR) else digits end bytes

-- a number that was read, and is no less than this
abbrev pub as_at_least : ℕ → Result ℕ NumFault → Result ℤ Miss
as_at_least least (Ok n) = if nat_le least n then Ok (pos n) else Err out_of_range
as_at_least least (Err Form) = Err no_number
as_at_least least (Err Size) = Err out_of_range

-- digits, a point and three digits, for 1.000 and more
abbrev pub bound : Item
bound bytes = as_at_least 1000 (milli_of (2 ^ 100) bytes)

-- digits, and the number from one limit to below another
abbrev pub digits_from : ℕ → ℕ → Item
digits_from least end bytes = as_at_least least (digits_of end bytes)

-- the version of the text
abbrev pub version_word : Item
version_word bytes =
    if bytes_eq bytes (codes "1") then Ok (pos 1)
    else (if bytes_eq bytes (codes "2") then Ok (pos 2) else Err no_word)

-- the word of an outcome: 0 of a path, 1 of none, 2 where nothing is known
abbrev pub outcome_word : Item
outcome_word bytes =
    if bytes_eq bytes (codes "path") then Ok (pos 0)
    else (if bytes_eq bytes (codes "nopath") then Ok (pos 1)
    else (if bytes_eq bytes (codes "unknown") then Ok (pos 2) else Err no_word))

-- ---- the first line

-- the first word, and the version
unfoldable pub title_format : Format LabelFault ℕ
title_format = item (fixed (codes "labels")) (λ _ _. item version_word (λ _ v. done (unsigned_abs v)))

-- a word, and a number that must be this one
unfoldable pub count_format : List ℕ → ℕ → Format LabelFault (Unit {0})
count_format word n =
    item (fixed word) (λ _ _. item (digits (2 ^ 32)) (λ place k. if unsigned_abs k == n then done tt else wrong (Count place)))

unfoldable pub low_format : Format LabelFault ℕ
low_format = item (fixed (codes "low")) (λ _ _. item (label (2 ^ 63)) (λ _ low. done (unsigned_abs low)))

-- the plan, the number of states and the low
unfoldable pub head_format : ℕ → ℕ → Format LabelFault ℕ
head_format plan states = and_then (count_format (codes "plan") plan) (λ _. and_then (count_format (codes "states") states) (λ _. low_format))

-- how many rows there are, which are no more than states
unfoldable pub rows_format : ℕ → Format LabelFault ℕ
rows_format states = item (fixed (codes "rows")) (λ _ _. item (digits (states + 1)) (λ _ r. done (unsigned_abs r)))

-- the plan, the number of states, the number of rows and the low
unfoldable pub sparse_head_format : ℕ → ℕ → Format LabelFault (ℕ × ℕ)
sparse_head_format plan states =
    and_then (count_format (codes "plan") plan) (λ _. and_then (count_format (codes "states") states)
    (λ _. and_then (rows_format states) (λ r. and_then low_format (λ low. done (r, low)))))

-- ---- the outcome

-- one more arc number
unfoldable pub arc_turn : List ℕ → Format LabelFault (List ℕ)
arc_turn arcs = item (digits 4096) (λ _ k. done (arcs ++ unsigned_abs k ∷ []))

-- the cost, the bound, how many arcs there are, and their numbers
unfoldable pub path_format : Format LabelFault (Outcome × List ℕ)
path_format =
    item (digits (2 ^ 62)) (λ _ cost. item bound (λ _ b. item (digits (2 ^ 28)) (λ _ n.
    and_then (turns (unsigned_abs n) arc_turn []) (λ arcs. done (outcome.Path (unsigned_abs cost) (unsigned_abs b), arcs)))))

unfoldable pub outcome_format : Format LabelFault (Outcome × List ℕ)
outcome_format =
    item outcome_word (λ _ k. if unsigned_abs k == 0 then path_format
    else (if unsigned_abs k == 1 then done (outcome.NoPath, []) else done (outcome.Unknown, [])))

-- ---- rows

unfoldable pub row_format : Format LabelFault Row
row_format =
    item (label (2 ^ 62)) (λ _ g. item (label (2 ^ 62)) (λ _ v. item (digits (2 ^ 55)) (λ _ h.
    done (record { g = unsigned_abs g; v = unsigned_abs v; h = unsigned_abs h }))))

-- one more row
unfoldable pub row_turn : List Row → Format LabelFault (List Row)
row_turn rows = and_then row_format (λ row. done (rows ++ row ∷ []))

-- the row of a state from one limit to below another
unfoldable pub sparse_row_format : ℕ → ℕ → Format LabelFault SparseRow
sparse_row_format least states =
    item (digits_from least states) (λ _ s. item (label (2 ^ 62)) (λ _ g. item (label (2 ^ 62)) (λ _ v.
    done (record { state = unsigned_abs s; g = unsigned_abs g; v = unsigned_abs v }))))

-- one more row, of a state after that of the row before
unfoldable pub sparse_turn : ℕ → ℕ × List SparseRow → Format LabelFault (ℕ × List SparseRow)
sparse_turn states before = and_then (sparse_row_format before.0 states) (λ row. done (row.state + 1, before.1 ++ row ∷ []))

-- ---- a section

-- all that stands between the version and the last word, in full
unfoldable pub full_format : ℕ → ℕ → Format LabelFault FullSection
full_format plan states =
    and_then (head_format plan states) (λ low. and_then outcome_format (λ o. and_then (turns states row_turn []) (λ rows.
    done (record { plan = plan; low = low; outcome = o.0; arcs = o.1; labels = rows }))))

-- and sparse
unfoldable pub sparse_format : ℕ → ℕ → Format LabelFault SparseSection
sparse_format plan states =
    and_then (sparse_head_format plan states) (λ head. and_then outcome_format (λ o. and_then (turns head.0 (sparse_turn states) (0, [])) (λ rows.
    done (record { plan = plan; states = states; low = head.1; outcome = o.0; arcs = o.1; rows = rows.1 }))))

-- all that stands before the last word
unfoldable pub front_format : ℕ → ℕ → Format LabelFault Section
front_format plan states =
    and_then title_format (λ version. if version == 1 then and_then (full_format plan states) (λ s. done (Full s))
    else and_then (sparse_format plan states) (λ s. done (Sparse s)))

-- the section of a plan, of this number of states
unfoldable pub section_format : ℕ → ℕ → Format LabelFault Section
section_format plan states = and_then (front_format plan states) (λ s. item (fixed (codes "end")) (λ _ _. done s))
