-- The text of a section. The words of a line are separated by one space, and every line ends with one line feed.
use Rattle.std.specs.Prelude.{◌≡◌, ℕ, List, [], ◌∷◌, ◌++◌, length, take, map, codes, decimal, if◌then◌else◌, ◌==◌}
use Rattle.std.specs.List.{flat_map}
use Rattle.sbpl_labels.specs.sbpl_graph.declared.TheConstants.{FAR}
use Rattle.sbpl_fixed.specs.Printed.{line_text, milli_text}
use Rattle.sbpl_cert.specs.declared.outcome.Outcome.{Outcome}
use Rattle.sbpl_cert.specs.declared.outcome.Outcome.TheVariants as outcome
use Rattle.sbpl_cert.specs.declared.row.Row.{Row}
use Rattle.sbpl_cert.specs.declared.sparse_row.SparseRow.{SparseRow}
use Rattle.sbpl_cert.specs.declared.section.Section.{Section}
use Rattle.sbpl_cert.specs.declared.section.Section.TheVariants.{Full, Sparse}
use Rattle.sbpl_cert.specs.Sections.{FullSection}
use Rattle.sbpl_cert.specs.Sparse.{SparseSection}

-- a number, or a minus alone for infinity
abbrev pub label_text : ℕ → List ℕ
label_text x = if x == FAR then codes "-" else decimal x

-- the version of the text, the plan, the number of states and the low
abbrev pub head_line : FullSection → List (List ℕ)
head_line s =
    codes "labels" ∷ codes "1" ∷ codes "plan" ∷ decimal s.plan ∷ codes "states" ∷ decimal (length s.labels) ∷ codes "low" ∷ label_text s.low ∷ []

-- the cost, the bound, and how many arcs there are, with their numbers
abbrev pub outcome_line : Outcome → List ℕ → List (List ℕ)
outcome_line (outcome.Path cost bound) arcs = codes "path" ∷ decimal cost ∷ milli_text bound ∷ decimal (length arcs) ∷ map decimal arcs
outcome_line outcome.NoPath arcs = codes "nopath" ∷ []
outcome_line outcome.Unknown arcs = codes "unknown" ∷ []

-- the labels of a state, and its guide's value
abbrev pub row_line : Row → List (List ℕ)
row_line r = label_text r.g ∷ label_text r.v ∷ decimal r.h ∷ []

abbrev pub row_text : Row → List ℕ
row_text r = line_text (row_line r)

-- the text of a section in full
unfoldable pub full_text : FullSection → List ℕ
full_text s = line_text (head_line s) ++ (line_text (outcome_line s.outcome s.arcs) ++ (flat_map row_text s.labels ++ codes "end\n"))

-- the version of the text, the plan, the number of states, the number of rows and the low
abbrev pub sparse_head_line : SparseSection → List (List ℕ)
sparse_head_line s =
    codes "labels" ∷ codes "2" ∷ codes "plan" ∷ decimal s.plan ∷ codes "states" ∷ decimal s.states ∷ codes "rows" ∷ decimal (length s.rows)
    ∷ codes "low" ∷ label_text s.low ∷ []

-- a state and its labels
abbrev pub sparse_row_line : SparseRow → List (List ℕ)
sparse_row_line r = decimal r.state ∷ label_text r.g ∷ label_text r.v ∷ []

abbrev pub sparse_row_text : SparseRow → List ℕ
sparse_row_text r = line_text (sparse_row_line r)

-- the text of a sparse section
unfoldable pub sparse_text : SparseSection → List ℕ
sparse_text s = line_text (sparse_head_line s) ++ (line_text (outcome_line s.outcome s.arcs) ++ (flat_map sparse_row_text s.rows ++ codes "end\n"))

-- the text of a section
abbrev pub section_text : Section → List ℕ
section_text (Full s) = full_text s
section_text (Sparse s) = sparse_text s

-- a text begins with what stood there before
abbrev pub BeginsWith : List ℕ → List ℕ → Type 0
BeginsWith old new = take (length old) new ≡ old
