-- Which tokens stand for a section, one by one and with no reading in it.
use Rattle.std.specs.Prelude.{◌≡◌, ◌≢◌, ◌+◌, ◌-◌, ◌*◌, ◌<◌, ◌⊎◌, ℕ, List, [], ◌∷◌, ◌++◌, length, codes}
use Rattle.std.specs.List.{flat_map}
use Rattle.sbpl_labels.specs.sbpl_graph.declared.TheConstants.{FAR}
use Rattle.sbpl_fixed.specs.Numbers.{number_of}
use Rattle.sbpl_fixed.specs.Unsigned.{IsDigits, IsMilli}
use Rattle.sbpl_fixed.specs.Formats.{Left, IsFaulty}
use Rattle.sbpl_fixed.specs.Tokens.{Piece, tokens_from}
use Rattle.sbpl_cert.specs.declared.fault.LabelFault.{LabelFault}
use Rattle.sbpl_cert.specs.declared.fault.LabelFault.TheVariants.{NoMemory}
use Rattle.sbpl_cert.specs.declared.outcome.Outcome.{Outcome}
use Rattle.sbpl_cert.specs.declared.outcome.Outcome.TheVariants as outcome
use Rattle.sbpl_cert.specs.declared.row.Row.{Row}
use Rattle.sbpl_cert.specs.Faults.{told}
use Rattle.sbpl_cert.specs.Format.{section_format}
use Rattle.sbpl_cert.specs.declared.sparse_row.SparseRow.{SparseRow}
use Rattle.sbpl_cert.specs.declared.section.Section.{Section}
use Rattle.sbpl_cert.specs.declared.section.Section.TheVariants.{Full, Sparse}
use Rattle.sbpl_cert.specs.Sections.{FullSection}
use Rattle.sbpl_cert.specs.Sparse.{SparseSection}
use Rattle.sbpl_cert.specs.Versions.{IsOf, IsSection}

-- what a token says: this word, this number, this label, or this number of thousandths
pub data Saying : Type 0 where
  a_word : List ℕ → Saying
  a_number : ℕ → Saying
  a_label : ℕ → Saying
  a_milli : ℕ → Saying

-- digits, with no sign and with leading zeros or none, that write the number
abbrev pub MeansNumber : ℕ → List ℕ → Type 0
MeansNumber n bytes = IsDigits bytes × (number_of bytes ≡ n)

-- The bytes of a token say it. A label is a number, or a minus alone, which is infinity.
abbrev pub Means : Saying → List ℕ → Type 0
Means (a_word word) bytes = bytes ≡ word
Means (a_number n) bytes = MeansNumber n bytes
Means (a_label x) bytes = ((bytes ≡ codes "-") × (x ≡ FAR)) ⊎ (MeansNumber x bytes × (x < FAR))
Means (a_milli n) bytes = (whole : List ℕ) × (decimals : List ℕ) × IsMilli bytes whole decimals × (number_of whole * 1000 + number_of decimals ≡ n)

-- the first tokens say these, one for one, and the rest is left
unfoldable pub AreMeant : List Saying → List Piece → List Piece → Type 0
AreMeant [] ts rest = rest ≡ ts
AreMeant (s ∷ ss) [] rest = ⊥
AreMeant (s ∷ ss) (t ∷ ts) rest = Means s t.bytes × AreMeant ss ts rest

abbrev pub spelled_head : FullSection → List Saying
spelled_head s =
    a_word (codes "labels") ∷ a_word (codes "1") ∷ a_word (codes "plan") ∷ a_number s.plan ∷ a_word (codes "states") ∷ a_number (length s.labels)
    ∷ a_word (codes "low") ∷ a_label s.low ∷ []

abbrev pub spelled_arc : ℕ → List Saying
spelled_arc k = a_number k ∷ []

abbrev pub spelled_outcome : Outcome → List ℕ → List Saying
spelled_outcome (outcome.Path cost bound) arcs = a_word (codes "path") ∷ a_number cost ∷ a_milli bound ∷ a_number (length arcs) ∷ flat_map spelled_arc arcs
spelled_outcome outcome.NoPath arcs = a_word (codes "nopath") ∷ []
spelled_outcome outcome.Unknown arcs = a_word (codes "unknown") ∷ []

abbrev pub spelled_row : Row → List Saying
spelled_row r = a_label r.g ∷ a_label r.v ∷ a_number r.h ∷ []

-- the tokens of a section in full
unfoldable pub spelled_full : FullSection → List Saying
spelled_full s = spelled_head s ++ (spelled_outcome s.outcome s.arcs ++ (flat_map spelled_row s.labels ++ a_word (codes "end") ∷ []))

abbrev pub spelled_sparse_head : SparseSection → List Saying
spelled_sparse_head s =
    a_word (codes "labels") ∷ a_word (codes "2") ∷ a_word (codes "plan") ∷ a_number s.plan ∷ a_word (codes "states") ∷ a_number s.states
    ∷ a_word (codes "rows") ∷ a_number (length s.rows) ∷ a_word (codes "low") ∷ a_label s.low ∷ []

abbrev pub spelled_sparse_row : SparseRow → List Saying
spelled_sparse_row r = a_number r.state ∷ a_label r.g ∷ a_label r.v ∷ []

-- the tokens of a sparse section
unfoldable pub spelled_sparse : SparseSection → List Saying
spelled_sparse s = spelled_sparse_head s ++ (spelled_outcome s.outcome s.arcs ++ (flat_map spelled_sparse_row s.rows ++ a_word (codes "end") ∷ []))

-- the tokens of a section
abbrev pub spelled : Section → List Saying
spelled (Full s) = spelled_full s
spelled (Sparse s) = spelled_sparse s

-- the tokens begin with the section's, each value of it in its range, and the rest is left
pub record AreTokensOf (ts : List Piece) (s : Section) (rest : List Piece) : Type 0 where
  pub tokens : AreMeant (spelled s) ts rest
  pub fits : IsSection s

-- the tokens begin with some section of the plan, of this number of states
abbrev pub AreTokens : ℕ → ℕ → List Piece → Type 0
AreTokens plan states ts = (s : Section) × (rest : List Piece) × IsOf plan states s × AreTokensOf ts s rest

-- a section, and the tokens after it
abbrev pub with_rest : Section → List Piece → Section × List Piece
with_rest s rest = (s, rest)

-- a list ends with another
abbrev pub EndsWith : List Piece → List Piece → Type 0
EndsWith ts rest = (before : List Piece) × (ts ≡ before ++ rest)

-- of the tokens from `at` on, the last that begins before the offset is a section's last word, and the offset is the one right after it
abbrev pub IsAfterEnd : List ℕ → ℕ → ℕ → Type 0
IsAfterEnd text at offset = EndsWith (tokens_from text at) (record { place = offset - 3; bytes = codes "end" } ∷ tokens_from text offset)

-- Up to the fault's place the tokens are what the format calls for, and there they fail in the way that the fault names. A token that is missing is missed at the end.
abbrev pub HasFault : ℕ → ℕ → Left → LabelFault → Type 0
HasFault plan states left f = IsFaulty told (section_format plan states) left.end left.tokens f

abbrev pub HasSomeFault : ℕ → ℕ → Left → Type 0
HasSomeFault plan states left = (f : LabelFault) × (f ≢ NoMemory) × HasFault plan states left f
