-- What the format of a section says, and its tokens one by one.
use Rattle.std.proofs.Common.{◌≡◌, ℕ, zero, suc, ◌+◌, ◌^◌, ◌<◌, ◌≤◌, ◌⊎◌, inl, inr, List, [], ◌∷◌, ◌++◌, length, get_or}
use Rattle.std.proofs.Common.{eqb, ℤ, pos, refl, sym, ap, subst, ◌∙◌, append_assoc, arith, eq-eqb}
use Rattle.std.specs.Prelude.{◌==◌, codes, if◌then◌else◌, unsigned_abs}
use Rattle.std.specs.List.{flat_map, AllByRecursion}
use Rattle.std.proofs.lemmas.Bool.{cases_Bool, eqb-true}
use Rattle.std.proofs.lemmas.List.{append-nil}
use Rattle.sbpl_fixed.specs.Numbers.{number_of}
use Rattle.sbpl_fixed.specs.Formats.{Format, item, done, fixed, and_then, turns, Says}
use Rattle.sbpl_fixed.specs.Parts.{says_parts, says_both}
use Rattle.sbpl_fixed.specs.Tokens.{Piece}
use Rattle.sbpl_fixed.specs.Unsigned.{NumbersAreTheirDigits}
use Rattle.sbpl_cert.specs.declared.fault.LabelFault.{LabelFault}
use Rattle.sbpl_cert.specs.declared.outcome.Outcome.{Outcome}
use Rattle.sbpl_cert.specs.declared.outcome.Outcome.TheVariants as outcome
use Rattle.sbpl_cert.specs.declared.row.Row.{Row}
use Rattle.sbpl_cert.specs.declared.sparse_row.SparseRow.{SparseRow}
use Rattle.sbpl_cert.specs.declared.section.Section.{Section}
use Rattle.sbpl_cert.specs.declared.section.Section.TheVariants.{Full, Sparse}
use Rattle.sbpl_cert.specs.Sections.{FullSection, IsFullSection, IsRow, AreRows, IsLowest}
use Rattle.sbpl_cert.specs.Sections.{IsOutcomeInRange, AreArcs, HasArcs}
use Rattle.sbpl_cert.specs.Sparse.{IsSparseRow, IsSparseSection, SparseSection}
use Rattle.sbpl_cert.specs.Versions.{IsOf, IsSection}
use Rattle.sbpl_cert.specs.Format.{digits, title_format, count_format, low_format, head_format}
use Rattle.sbpl_cert.specs.Format.{rows_format, sparse_head_format, arc_turn, path_format, outcome_format}
use Rattle.sbpl_cert.specs.Format.{row_format, row_turn, sparse_row_format, sparse_turn, full_format}
use Rattle.sbpl_cert.specs.Format.{sparse_format, front_format, section_format}
use Rattle.sbpl_cert.specs.Text.{Saying, a_word, a_number, a_label, a_milli, AreMeant, spelled_head, spelled_outcome}
use Rattle.sbpl_cert.specs.Text.{spelled_row, spelled_arc, spelled_full, spelled_sparse_head, spelled_sparse_row}
use Rattle.sbpl_cert.specs.Text.{spelled_sparse, spelled, AreTokensOf}
use Rattle.sbpl_cert.proofs.ItemLaws.{word_out, word_in, digits_out, digits_in, digits_from_out, digits_from_in}
use Rattle.sbpl_cert.proofs.ItemLaws.{label_out, label_in, bound_out, bound_in, version_out, one_in, two_in}
use Rattle.sbpl_cert.proofs.ItemLaws.{outcome_word_out, path_in, no_path_in, unknown_in}
use Rattle.sbpl_cert.proofs.UpFrom.{AreUpFrom, up_from_zero, rows_up_from}

-- ---- tokens in parts

pub meant_both : (ss vs : List Saying) (ts mid rest : List Piece) → AreMeant ss ts mid → AreMeant vs mid rest
    → AreMeant (ss ++ vs) ts rest
unfolding AreMeant
meant_both [] vs ts mid rest g h = subst (λ (l : List Piece). AreMeant vs l rest) g h
meant_both (s ∷ ss) vs [] mid rest g h = absurd g
meant_both (s ∷ ss) vs (t ∷ ts) mid rest g h = (g.0, meant_both ss vs ts mid rest g.1 h)

pub meant_parts : (ss vs : List Saying) (ts rest : List Piece) → AreMeant (ss ++ vs) ts rest
    → (mid : List Piece) × AreMeant ss ts mid × AreMeant vs mid rest
unfolding AreMeant
meant_parts [] vs ts rest h = (ts, refl, h)
meant_parts (s ∷ ss) vs [] rest h = absurd h
meant_parts (s ∷ ss) vs (t ∷ ts) rest h = let p = meant_parts ss vs ts rest h.1 in (p.0, (h.0, p.1), p.2)

-- ---- rounds that collect a list

abbrev round : {X : Type 0} → Format LabelFault X → List X → Format LabelFault (List X)
round f before = and_then f (λ x. done (before ++ x ∷ []))

module _ {X : Type 0} (f : Format LabelFault X) (Holds : X → Type 0) (spell : X → List Saying)
    (out : (x : X) (ts rest : List Piece) → Says f ts x rest → Holds x × AreMeant (spell x) ts rest)
    (into : (x : X) (ts rest : List Piece) → Holds x → AreMeant (spell x) ts rest → Says f ts x rest) where
  pub rounds_out : (n : ℕ) (before all : List X) (ts rest : List Piece) → Says (turns n (round f) before) ts all rest
      → (xs : List X) × (all ≡ before ++ xs) × (length xs ≡ n) × AllByRecursion Holds xs
      × AreMeant (flat_map spell xs) ts rest
  unfolding Says turns and_then AreMeant
  rounds_out zero before all ts rest h = ([], h.0 ∙ sym (append-nil before), refl, tt, h.1)
  rounds_out (suc n) before all ts rest h =
      let both = says_parts (round f before) (turns n (round f)) ts rest all h in
      let one = says_parts f (λ x. done (before ++ x ∷ [])) ts both.1 both.0 both.2 in
      let x = one.0 in
      let state : both.0 ≡ before ++ x ∷ [] = one.3.0 in
      let place : both.1 ≡ one.1 = one.3.1 in
      let more = rounds_out n (before ++ x ∷ []) all one.1 rest
      (subst (λ (m : List Piece). Says (turns n (round f) (before ++ x ∷ [])) m all rest) place
      (subst (λ (s : List X). Says (turns n (round f) s) both.1 all rest) state both.3)) in
      let first = out x ts one.1 one.2 in (
        x ∷ more.0,
        more.1 ∙ append_assoc before (x ∷ []) more.0,
        ap suc more.2,
        (first.0, more.3),
        meant_both (spell x) (flat_map spell more.0) ts one.1 rest first.1 more.4,
      )

  pub rounds_in : (n : ℕ) (before xs : List X) (ts rest : List Piece) → length xs ≡ n → AllByRecursion Holds xs
      → AreMeant (flat_map spell xs) ts rest
      → Says (turns n (round f) before) ts (before ++ xs) rest
  unfolding Says turns and_then AreMeant
  rounds_in zero before [] ts rest len holds h = (append-nil before, h)
  rounds_in zero before (x ∷ xs) ts rest len holds h = absurd cc
  rounds_in (suc n) before [] ts rest len holds h = absurd cc
  rounds_in (suc n) before (x ∷ xs) ts rest len holds h =
      let p = meant_parts (spell x) (flat_map spell xs) ts rest h in
      let one =
      says_both f (λ y. done (before ++ y ∷ [])) ts p.0 p.0 x (before ++ x ∷ [])
      (into x ts p.0 holds.0 p.1) (refl, refl) in
      let more = rounds_in n (before ++ x ∷ []) xs p.0 rest (omega arith) holds.1 p.2 in
      says_both (round f before) (turns n (round f)) ts p.0 rest (before ++ x ∷ []) (before ++ x ∷ xs) one
      (subst (λ (all : List X). Says (turns n (round f) (before ++ x ∷ [])) p.0 all rest)
      (append_assoc before (x ∷ []) xs) more)

module _ (numbers : NumbersAreTheirDigits) where
  -- ---- rows

  abbrev row_of : ℕ → ℕ → ℕ → Row
  row_of g v h = record { g = g; v = v; h = h }

  row_made : (r : Row) (a b c : ℤ) (g v h : ℕ) → r ≡ row_of (unsigned_abs a) (unsigned_abs b) (unsigned_abs c)
      → a ≡ pos g → b ≡ pos v → c ≡ pos h → r ≡ row_of g v h
  row_made r a b c g v h is one two three = is ∙ rw (one, two, three) refl

  pub row_out : (r : Row) (ts rest : List Piece) → Says row_format ts r rest
      → IsRow r × AreMeant (spelled_row r) ts rest
  unfolding Says row_format AreMeant
  row_out r [] rest h = absurd h
  row_out r (a ∷ []) rest h = absurd h.2
  row_out r (a ∷ b ∷ []) rest h = absurd h.2.2
  row_out r (a ∷ b ∷ c ∷ ts) rest h =
      let g = label_out numbers (2 ^ 62) a.bytes h.0 (omega arith) h.1 in
      let v = label_out numbers (2 ^ 62) b.bytes h.2.0 (omega arith) h.2.1 in
      let d = digits_out numbers (2 ^ 55) c.bytes h.2.2.0 h.2.2.1 in
      let is = row_made r h.0 h.2.0 h.2.2.0 g.0 v.0 (number_of c.bytes) h.2.2.2.0 g.1 v.1 d.0 in
      rw is (record { g = g.3; v = v.3; h = d.1 }, (g.2, (v.2, ((d.2, refl), h.2.2.2.1))))

  pub row_in : (r : Row) (ts rest : List Piece) → IsRow r → AreMeant (spelled_row r) ts rest → Says row_format ts r rest
  unfolding Says row_format AreMeant
  row_in r [] rest fits h = absurd h
  row_in r (a ∷ []) rest fits h = absurd h.1
  row_in r (a ∷ b ∷ []) rest fits h = absurd h.1.1
  row_in r (a ∷ b ∷ c ∷ ts) rest fits h = (
    pos r.g,
    label_in numbers (2 ^ 62) r.g a.bytes (omega arith) h.0 fits.g,
    (
      pos r.v,
      label_in numbers (2 ^ 62) r.v b.bytes (omega arith) h.1.0 fits.v,
      (pos r.h, digits_in numbers (2 ^ 55) r.h c.bytes h.1.1.0 fits.h, (refl, h.1.1.1)),
    ),
  )

  -- each of a list, by recursion and by its place
  each_row : (rows : List Row) → AllByRecursion IsRow rows → AreRows rows
  each_row [] all s lt = absurd (omega arith)
  each_row (r ∷ rows) all zero lt = all.0
  each_row (r ∷ rows) all (suc s) lt = each_row rows all.1 s (omega arith)

  all_rows : (rows : List Row) → AreRows rows → AllByRecursion IsRow rows
  all_rows [] each = tt
  all_rows (r ∷ rows) each = (each 0 (omega arith), all_rows rows (λ s lt. each (suc s) (omega arith)))

  rows_out : (n : ℕ) (rows : List Row) (ts rest : List Piece) → Says (turns n row_turn []) ts rows rest
      → (length rows ≡ n) × AreRows rows × AreMeant (flat_map spelled_row rows) ts rest
  unfolding row_turn
  rows_out n rows ts rest h =
      let w = rounds_out row_format IsRow spelled_row row_out row_in n [] rows ts rest h in
      rw w.1 (w.2, each_row w.0 w.3, w.4)

  rows_in : (rows : List Row) (ts rest : List Piece) → AreRows rows → AreMeant (flat_map spelled_row rows) ts rest
      → Says (turns (length rows) row_turn []) ts rows rest
  unfolding row_turn
  rows_in rows ts rest each h =
      rounds_in row_format IsRow spelled_row row_out row_in (length rows) [] rows ts rest refl (all_rows rows each) h

  -- ---- arcs

  abbrev arc_format : Format LabelFault ℕ
  arc_format = item (digits 4096) (λ _ k. done (unsigned_abs k))

  abbrev IsArcNumber : ℕ → Type 0
  IsArcNumber k = k < 4096

  arc_out : (k : ℕ) (ts rest : List Piece) → Says arc_format ts k rest
      → IsArcNumber k × AreMeant (spelled_arc k) ts rest
  unfolding Says AreMeant
  arc_out k [] rest h = absurd h
  arc_out k (a ∷ ts) rest h =
      let d = digits_out numbers 4096 a.bytes h.0 h.1 in
      let is : k ≡ number_of a.bytes = h.2.0 ∙ ap unsigned_abs d.0 in
      rw is (d.1, ((d.2, refl), h.2.1))

  arc_in : (k : ℕ) (ts rest : List Piece) → IsArcNumber k → AreMeant (spelled_arc k) ts rest → Says arc_format ts k rest
  unfolding Says AreMeant
  arc_in k [] rest fits h = absurd h
  arc_in k (a ∷ ts) rest fits h = (pos k, digits_in numbers 4096 k a.bytes h.0 fits, (refl, h.1))

  each_arc : (arcs : List ℕ) → AllByRecursion IsArcNumber arcs → (i : ℕ) → i < length arcs → get_or arcs i 0 < 4096
  each_arc [] all i lt = absurd (omega arith)
  each_arc (k ∷ ks) all zero lt = all.0
  each_arc (k ∷ ks) all (suc i) lt = each_arc ks all.1 i (omega arith)

  all_arcs : (arcs : List ℕ) → ((i : ℕ) → i < length arcs → get_or arcs i 0 < 4096) → AllByRecursion IsArcNumber arcs
  all_arcs [] each = tt
  all_arcs (k ∷ ks) each = (each 0 (omega arith), all_arcs ks (λ i lt. each (suc i) (omega arith)))

  arcs_out : (n : ℕ) (arcs : List ℕ) (ts rest : List Piece) → Says (turns n arc_turn []) ts arcs rest
      → (length arcs ≡ n) × ((i : ℕ) → i < length arcs → get_or arcs i 0 < 4096)
      × AreMeant (flat_map spelled_arc arcs) ts rest
  unfolding arc_turn and_then
  arcs_out n arcs ts rest h =
      let w = rounds_out arc_format IsArcNumber spelled_arc arc_out arc_in n [] arcs ts rest h in
      rw w.1 (w.2, each_arc w.0 w.3, w.4)

  arcs_in : (arcs : List ℕ) (ts rest : List Piece) → ((i : ℕ) → i < length arcs → get_or arcs i 0 < 4096)
      → AreMeant (flat_map spelled_arc arcs) ts rest
      → Says (turns (length arcs) arc_turn []) ts arcs rest
  unfolding arc_turn and_then
  arcs_in arcs ts rest each h =
      rounds_in arc_format IsArcNumber spelled_arc arc_out arc_in (length arcs) [] arcs ts rest
      refl (all_arcs arcs each) h

  -- ---- the outcome

  abbrev pathed : ℕ → ℕ → List ℕ → Outcome × List ℕ
  pathed cost b arcs = (outcome.Path cost b, arcs)

  path_made : (o : Outcome × List ℕ) (x y : ℤ) (cost b : ℕ) (arcs : List ℕ)
      → o ≡ pathed (unsigned_abs x) (unsigned_abs y) arcs → x ≡ pos cost → y ≡ pos b → o ≡ pathed cost b arcs
  path_made o x y cost b arcs is one two = is ∙ rw (one, two) refl

  abbrev OutcomeOut : Outcome × List ℕ → List Piece → List Piece → Type 0
  OutcomeOut o ts rest = IsOutcomeInRange o.0 × HasArcs o.0 o.1 × AreMeant (spelled_outcome o.0 o.1) ts rest

  path_out : (o : Outcome × List ℕ) (t : Piece) (ts rest : List Piece) → t.bytes ≡ codes "path"
      → Says path_format ts o rest → OutcomeOut o (t ∷ ts) rest
  unfolding Says path_format AreMeant
  path_out o t [] rest is h = absurd h
  path_out o t (a ∷ []) rest is h = absurd h.2
  path_out o t (a ∷ b ∷ []) rest is h = absurd h.2.2
  path_out o t (a ∷ b ∷ c ∷ ts) rest is h =
      let cost = digits_out numbers (2 ^ 62) a.bytes h.0 h.1 in
      let m = bound_out numbers b.bytes h.2.0 h.2.1 in
      let n = digits_out numbers (2 ^ 28) c.bytes h.2.2.0 h.2.2.1 in
      let parts =
      says_parts (turns (unsigned_abs h.2.2.0) arc_turn [])
      (λ arcs. done (pathed (unsigned_abs h.0) (unsigned_abs h.2.0) arcs)) ts rest o h.2.2.2 in
      let arcs = arcs_out (unsigned_abs h.2.2.0) parts.0 ts parts.1 parts.2 in
      let made = path_made o h.0 h.2.0 (number_of a.bytes) m.0 parts.0 parts.3.0 cost.0 m.1 in
      let count : length parts.0 ≡ number_of c.bytes = arcs.0 ∙ ap unsigned_abs n.0 in
      rw made (
        (cost.1, m.3, m.4),
        record { few = omega (arith, n.1); small = arcs.1 },
        (
          is,
          (
            (cost.2, refl),
            (
              m.2,
              (
                (n.2, sym count),
                subst (λ (l : List Piece). AreMeant (flat_map spelled_arc parts.0) ts l) (sym parts.3.1) arcs.2,
              ),
            ),
          ),
        ),
      )

  path_in_ : (cost b : ℕ) (arcs : List ℕ) (ts rest : List Piece) → IsOutcomeInRange (outcome.Path cost b) → AreArcs arcs
      → AreMeant (a_number cost ∷ a_milli b ∷ a_number (length arcs) ∷ flat_map spelled_arc arcs) ts rest
      → Says path_format ts (pathed cost b arcs) rest
  unfolding Says path_format AreMeant
  path_in_ cost b arcs [] rest fits small h = absurd h
  path_in_ cost b arcs (x ∷ []) rest fits small h = absurd h.1
  path_in_ cost b arcs (x ∷ y ∷ []) rest fits small h = absurd h.1.1
  path_in_ cost b arcs (x ∷ y ∷ z ∷ ts) rest fits small h = (
    pos cost,
    digits_in numbers (2 ^ 62) cost x.bytes h.0 fits.0,
    (
      pos b,
      bound_in numbers b y.bytes h.1.0 fits.1 fits.2,
      (
        pos (length arcs),
        digits_in numbers (2 ^ 28) (length arcs) z.bytes h.1.1.0 small.few,
        says_both (turns (length arcs) arc_turn []) (λ ks. done (pathed cost b ks)) ts rest rest arcs
            (pathed cost b arcs) (arcs_in arcs ts rest small.small h.1.1.1) (refl, refl),
      ),
    ),
  )

  pub outcome_out : (o : Outcome × List ℕ) (ts rest : List Piece) → Says outcome_format ts o rest → OutcomeOut o ts rest
  unfolding Says outcome_format AreMeant
  outcome_out o [] rest h = absurd h
  outcome_out o (t ∷ ts) rest h =
      elim (outcome_word_out t.bytes h.0 h.1) [
        | inl w ↦ path_out o t ts rest w.0 (rw w.1 at h.2)
        | inr v ↦ elim v [
          | inl w ↦
              (let k : Says {E = LabelFault} (done (outcome.NoPath, [])) ts o rest = rw w.1 at h.2 in
              rw k.0 (tt, refl, (w.0, k.1)))
          | inr w ↦
              (let k : Says {E = LabelFault} (done (outcome.Unknown, [])) ts o rest = rw w.1 at h.2 in
              rw k.0 (tt, refl, (w.0, k.1)))
        ]
      ]

  pub outcome_in : (x : Outcome) (arcs : List ℕ) (ts rest : List Piece) → IsOutcomeInRange x → HasArcs x arcs
      → AreMeant (spelled_outcome x arcs) ts rest → Says outcome_format ts (x, arcs) rest
  unfolding Says outcome_format AreMeant
  outcome_in (outcome.Path cost b) arcs [] rest fits has h = absurd h
  outcome_in (outcome.Path cost b) arcs (t ∷ ts) rest fits has h =
      (pos 0, path_in t.bytes h.0, path_in_ cost b arcs ts rest fits has h.1)
  outcome_in outcome.NoPath arcs [] rest fits has h = absurd h
  outcome_in outcome.NoPath arcs (t ∷ ts) rest fits has h =
      (pos 1, no_path_in t.bytes h.0, (ap (λ (ks : List ℕ). (outcome.NoPath, ks)) has, h.1))
  outcome_in outcome.Unknown arcs [] rest fits has h = absurd h
  outcome_in outcome.Unknown arcs (t ∷ ts) rest fits has h =
      (pos 2, unknown_in t.bytes h.0, (ap (λ (ks : List ℕ). (outcome.Unknown, ks)) has, h.1))

  -- ---- sparse rows

  sparse_row_made : (r : SparseRow) (a b c : ℤ) (s g v : ℕ)
      → r ≡ record { state = unsigned_abs a; g = unsigned_abs b; v = unsigned_abs c }
      → a ≡ pos s → b ≡ pos g → c ≡ pos v
      → r ≡ record { state = s; g = g; v = v }
  sparse_row_made r a b c s g v is one two three = is ∙ rw (one, two, three) refl

  sparse_row_out : (least states : ℕ) (r : SparseRow) (ts rest : List Piece)
      → Says (sparse_row_format least states) ts r rest
      → (least ≤ r.state) × IsSparseRow states r × AreMeant (spelled_sparse_row r) ts rest
  unfolding Says sparse_row_format AreMeant
  sparse_row_out least states r [] rest h = absurd h
  sparse_row_out least states r (a ∷ []) rest h = absurd h.2
  sparse_row_out least states r (a ∷ b ∷ []) rest h = absurd h.2.2
  sparse_row_out least states r (a ∷ b ∷ c ∷ ts) rest h =
      let d = digits_from_out numbers least states a.bytes h.0 h.1 in
      let g = label_out numbers (2 ^ 62) b.bytes h.2.0 (omega arith) h.2.1 in
      let v = label_out numbers (2 ^ 62) c.bytes h.2.2.0 (omega arith) h.2.2.1 in
      let is = sparse_row_made r h.0 h.2.0 h.2.2.0 (number_of a.bytes) g.0 v.0 h.2.2.2.0 d.0 g.1 v.1 in
      rw is (d.1, record { inside = d.2; g = g.3; v = v.3 }, ((d.3, refl), (g.2, (v.2, h.2.2.2.1))))

  sparse_row_in : (least states : ℕ) (r : SparseRow) (ts rest : List Piece) → least ≤ r.state → IsSparseRow states r
      → AreMeant (spelled_sparse_row r) ts rest
      → Says (sparse_row_format least states) ts r rest
  unfolding Says sparse_row_format AreMeant
  sparse_row_in least states r [] rest up fits h = absurd h
  sparse_row_in least states r (a ∷ []) rest up fits h = absurd h.1
  sparse_row_in least states r (a ∷ b ∷ []) rest up fits h = absurd h.1.1
  sparse_row_in least states r (a ∷ b ∷ c ∷ ts) rest up fits h = (
    pos r.state,
    digits_from_in numbers least states r.state a.bytes h.0 up fits.inside,
    (
      pos r.g,
      label_in numbers (2 ^ 62) r.g b.bytes (omega arith) h.1.0 fits.g,
      (pos r.v, label_in numbers (2 ^ 62) r.v c.bytes (omega arith) h.1.1.0 fits.v, (refl, h.1.1.1)),
    ),
  )

  -- what is read so far: the state after the last row's, and the rows
  abbrev Read : Type 0
  Read = ℕ × List SparseRow

  abbrev so_far : ℕ → List SparseRow → Read
  so_far least rows = (least, rows)

  abbrev row_read : List SparseRow → SparseRow → Format LabelFault Read
  row_read before row = done (so_far (row.state + 1) (before ++ row ∷ []))

  sparse_rounds_out : (states n least : ℕ) (before : List SparseRow) (all : Read) (ts rest : List Piece)
      → Says (turns n (sparse_turn states) (so_far least before)) ts all rest
      → (xs : List SparseRow) × (all.1 ≡ before ++ xs) × (length xs ≡ n) × AreUpFrom least xs
      × AllByRecursion (IsSparseRow states) xs × AreMeant (flat_map spelled_sparse_row xs) ts rest
  unfolding Says turns sparse_turn and_then AreMeant
  sparse_rounds_out states zero least before all ts rest h =
      ([], ap (λ (r : Read). r.1) h.0 ∙ sym (append-nil before), refl, tt, tt, h.1)
  sparse_rounds_out states (suc n) least before all ts rest h =
      let both = says_parts (sparse_turn states (so_far least before)) (turns n (sparse_turn states)) ts rest all h in
      let one = says_parts (sparse_row_format least states) (row_read before) ts both.1 both.0 both.2 in
      let row = one.0 in
      let state : both.0 ≡ so_far (row.state + 1) (before ++ row ∷ []) = one.3.0 in
      let place : both.1 ≡ one.1 = one.3.1 in
      let more = sparse_rounds_out states n (row.state + 1) (before ++ row ∷ []) all one.1 rest
      (subst (λ (m : List Piece).
      Says (turns n (sparse_turn states) (so_far (row.state + 1) (before ++ row ∷ []))) m all rest) place
      (subst (λ (s : Read). Says (turns n (sparse_turn states) s) both.1 all rest) state both.3)) in
      let first = sparse_row_out least states row ts one.1 one.2 in (
        row ∷ more.0,
        more.1 ∙ append_assoc before (row ∷ []) more.0,
        ap suc more.2,
        (first.0, more.3),
        (first.1, more.4),
        meant_both (spelled_sparse_row row) (flat_map spelled_sparse_row more.0) ts one.1 rest first.2 more.5,
      )

  sparse_rounds_in : (states n least : ℕ) (before xs : List SparseRow) (ts rest : List Piece) → length xs ≡ n
      → AreUpFrom least xs → AllByRecursion (IsSparseRow states) xs
      → AreMeant (flat_map spelled_sparse_row xs) ts rest
      → (last : ℕ) × Says (turns n (sparse_turn states) (so_far least before)) ts (so_far last (before ++ xs)) rest
  unfolding Says turns sparse_turn and_then AreMeant
  sparse_rounds_in states zero least before [] ts rest len up holds h =
      (least, (ap (so_far least) (append-nil before), h))
  sparse_rounds_in states zero least before (x ∷ xs) ts rest len up holds h = absurd cc
  sparse_rounds_in states (suc n) least before [] ts rest len up holds h = absurd cc
  sparse_rounds_in states (suc n) least before (x ∷ xs) ts rest len up holds h =
      let p = meant_parts (spelled_sparse_row x) (flat_map spelled_sparse_row xs) ts rest h in
      let one =
      says_both (sparse_row_format least states) (row_read before) ts p.0 p.0 x
      (so_far (x.state + 1) (before ++ x ∷ [])) (sparse_row_in least states x ts p.0 up.0 holds.0 p.1) (refl, refl) in
      let more =
      sparse_rounds_in states n (x.state + 1) (before ++ x ∷ []) xs p.0 rest (omega arith) up.1 holds.1 p.2 in (
        more.0,
        says_both (sparse_turn states (so_far least before)) (turns n (sparse_turn states)) ts p.0 rest
            (so_far (x.state + 1) (before ++ x ∷ [])) (so_far more.0 (before ++ x ∷ xs)) one
            (subst (λ (all : List SparseRow).
            Says (turns n (sparse_turn states) (so_far (x.state + 1) (before ++ x ∷ []))) p.0 (so_far more.0 all) rest)
            (append_assoc before (x ∷ []) xs) more.1),
      )

  -- ---- the first line

  abbrev title : List ℕ → List Saying
  title version = a_word (codes "labels") ∷ a_word version ∷ []

  title_out : (v : ℕ) (ts rest : List Piece) → Says title_format ts v rest
      → ((v ≡ 1) × AreMeant (title (codes "1")) ts rest) ⊎ ((v ≡ 2) × AreMeant (title (codes "2")) ts rest)
  unfolding Says title_format AreMeant
  title_out v [] rest h = absurd h
  title_out v (a ∷ []) rest h = absurd h.2
  title_out v (a ∷ b ∷ ts) rest h = elim (version_out b.bytes h.2.0 h.2.1) [
    | inl w ↦ inl (h.2.2.0 ∙ ap unsigned_abs w.1, (word_out (codes "labels") a.bytes h.0 h.1, (w.0, h.2.2.1)))
    | inr w ↦ inr (h.2.2.0 ∙ ap unsigned_abs w.1, (word_out (codes "labels") a.bytes h.0 h.1, (w.0, h.2.2.1)))
  ]

  title_one_in : (ts rest : List Piece) → AreMeant (title (codes "1")) ts rest → Says title_format ts 1 rest
  unfolding Says title_format AreMeant
  title_one_in [] rest h = absurd h
  title_one_in (a ∷ []) rest h = absurd h.1
  title_one_in (a ∷ b ∷ ts) rest h =
      (pos 0, word_in (codes "labels") a.bytes h.0, (pos 1, one_in b.bytes h.1.0, (refl, h.1.1)))

  title_two_in : (ts rest : List Piece) → AreMeant (title (codes "2")) ts rest → Says title_format ts 2 rest
  unfolding Says title_format AreMeant
  title_two_in [] rest h = absurd h
  title_two_in (a ∷ []) rest h = absurd h.1
  title_two_in (a ∷ b ∷ ts) rest h =
      (pos 0, word_in (codes "labels") a.bytes h.0, (pos 2, two_in b.bytes h.1.0, (refl, h.1.1)))

  count_out : (word : List ℕ) (n : ℕ) (x : Unit {0}) (ts rest : List Piece) → Says (count_format word n) ts x rest
      → AreMeant (a_word word ∷ a_number n ∷ []) ts rest
  unfolding Says count_format AreMeant
  count_out word n x [] rest h = absurd h
  count_out word n x (a ∷ []) rest h = absurd h.2
  count_out word n x (a ∷ b ∷ ts) rest h =
      let d = digits_out numbers (2 ^ 32) b.bytes h.2.0 h.2.1 in
      let w = word_out word a.bytes h.0 h.1 in
      elim (cases_Bool (eqb (unsigned_abs h.2.0) n)) [
        | inl e ↦ (
            let is : number_of b.bytes ≡ n = sym (ap unsigned_abs d.0) ∙ eqb-true (unsigned_abs h.2.0) n e in
            let k : Says {E = LabelFault} (done x) ts x rest = (refl, (rw e at h.2.2).1) in
            (w, ((d.2, is), k.1))
            )
        | inr e ↦ absurd (rw e at h.2.2)
      ]

  count_in : (word : List ℕ) (n : ℕ) (ts rest : List Piece) → n < 2 ^ 32
      → AreMeant (a_word word ∷ a_number n ∷ []) ts rest → Says (count_format word n) ts tt rest
  unfolding Says count_format AreMeant
  count_in word n [] rest lt h = absurd h
  count_in word n (a ∷ []) rest lt h = absurd h.1
  count_in word n (a ∷ b ∷ ts) rest lt h = (
    pos 0,
    word_in word a.bytes h.0,
    (pos n, digits_in numbers (2 ^ 32) n b.bytes h.1.0 lt, rw (eq-eqb n n refl) (refl, h.1.1)),
  )

  low_out : (low : ℕ) (ts rest : List Piece) → Says low_format ts low rest
      → IsLowest low × AreMeant (a_word (codes "low") ∷ a_label low ∷ []) ts rest
  unfolding Says low_format AreMeant
  low_out low [] rest h = absurd h
  low_out low (a ∷ []) rest h = absurd h.2
  low_out low (a ∷ b ∷ ts) rest h =
      let l = label_out numbers (2 ^ 63) b.bytes h.2.0 (omega arith) h.2.1 in
      let is : low ≡ l.0 = h.2.2.0 ∙ ap unsigned_abs l.1 in
      rw is (l.3, (word_out (codes "low") a.bytes h.0 h.1, (l.2, h.2.2.1)))

  low_in : (low : ℕ) (ts rest : List Piece) → IsLowest low → AreMeant (a_word (codes "low") ∷ a_label low ∷ []) ts rest
      → Says low_format ts low rest
  unfolding Says low_format AreMeant
  low_in low [] rest fits h = absurd h
  low_in low (a ∷ []) rest fits h = absurd h.1
  low_in low (a ∷ b ∷ ts) rest fits h = (
    pos 0,
    word_in (codes "low") a.bytes h.0,
    (pos low, label_in numbers (2 ^ 63) low b.bytes (omega arith) h.1.0 fits, (refl, h.1.1)),
  )

  abbrev counted : List ℕ → ℕ → List Saying
  counted word n = a_word word ∷ a_number n ∷ []

  abbrev lowest : ℕ → List Saying
  lowest low = a_word (codes "low") ∷ a_label low ∷ []

  head_out : (plan states low : ℕ) (ts rest : List Piece) → Says (head_format plan states) ts low rest
      → IsLowest low × AreMeant (counted (codes "plan") plan ++ (counted (codes "states") states ++ lowest low)) ts rest
  unfolding head_format
  head_out plan states low ts rest h =
      let two =
      says_parts (count_format (codes "plan") plan)
      (λ _. and_then (count_format (codes "states") states) (λ _. low_format)) ts rest low h in
      let three = says_parts (count_format (codes "states") states) (λ _. low_format) two.1 rest low two.3 in
      let last = low_out low three.1 rest three.3 in (
        last.0,
        meant_both (counted (codes "plan") plan) (counted (codes "states") states ++ lowest low) ts two.1 rest
            (count_out (codes "plan") plan two.0 ts two.1 two.2)
            (meant_both (counted (codes "states") states) (lowest low) two.1 three.1 rest
            (count_out (codes "states") states three.0 two.1 three.1 three.2) last.1),
      )

  head_in : (plan states low : ℕ) (ts rest : List Piece) → plan < 2 ^ 32 → states < 2 ^ 32 → IsLowest low
      → AreMeant (counted (codes "plan") plan ++ (counted (codes "states") states ++ lowest low)) ts rest
      → Says (head_format plan states) ts low rest
  unfolding head_format
  head_in plan states low ts rest p s fits h =
      let two = meant_parts (counted (codes "plan") plan) (counted (codes "states") states ++ lowest low) ts rest h in
      let three = meant_parts (counted (codes "states") states) (lowest low) two.0 rest two.2 in
      says_both (count_format (codes "plan") plan)
      (λ _. and_then (count_format (codes "states") states) (λ _. low_format)) ts two.0 rest tt low
      (count_in (codes "plan") plan ts two.0 p two.1)
      (says_both (count_format (codes "states") states) (λ _. low_format) two.0 three.0 rest tt low
      (count_in (codes "states") states two.0 three.0 s three.1) (low_in low three.0 rest fits three.2))

  row_count_out : (states r : ℕ) (ts rest : List Piece) → Says (rows_format states) ts r rest
      → (r ≤ states) × AreMeant (counted (codes "rows") r) ts rest
  unfolding Says rows_format AreMeant
  row_count_out states r [] rest h = absurd h
  row_count_out states r (a ∷ []) rest h = absurd h.2
  row_count_out states r (a ∷ b ∷ ts) rest h =
      let d = digits_out numbers (states + 1) b.bytes h.2.0 h.2.1 in
      let is : r ≡ number_of b.bytes = h.2.2.0 ∙ ap unsigned_abs d.0 in
      rw is (omega (arith, d.1), (word_out (codes "rows") a.bytes h.0 h.1, ((d.2, refl), h.2.2.1)))

  row_count_in : (states r : ℕ) (ts rest : List Piece) → r ≤ states → AreMeant (counted (codes "rows") r) ts rest
      → Says (rows_format states) ts r rest
  unfolding Says rows_format AreMeant
  row_count_in states r [] rest few h = absurd h
  row_count_in states r (a ∷ []) rest few h = absurd h.1
  row_count_in states r (a ∷ b ∷ ts) rest few h = (
    pos 0,
    word_in (codes "rows") a.bytes h.0,
    (pos r, digits_in numbers (states + 1) r b.bytes h.1.0 (omega (arith, few)), (refl, h.1.1)),
  )

  abbrev sparse_heads : (plan states r low : ℕ) → List Saying
  sparse_heads plan states r low =
      counted (codes "plan") plan ++ (counted (codes "states") states ++ (counted (codes "rows") r ++ lowest low))

  abbrev both_heads : ℕ → ℕ → ℕ × ℕ
  both_heads r low = (r, low)

  sparse_head_out : (plan states : ℕ) (x : ℕ × ℕ) (ts rest : List Piece)
      → Says (sparse_head_format plan states) ts x rest
      → (x.0 ≤ states) × IsLowest x.1 × AreMeant (sparse_heads plan states x.0 x.1) ts rest
  unfolding sparse_head_format Says
  sparse_head_out plan states x ts rest h =
      let one = says_parts (count_format (codes "plan") plan) (λ _. and_then (count_format (codes "states") states)
      (λ _. and_then (rows_format states) (λ r. and_then low_format (λ low. done (both_heads r low))))) ts rest x h in
      let two =
      says_parts (count_format (codes "states") states) (λ _.
      and_then (rows_format states) (λ r. and_then low_format (λ low. done (both_heads r low)))) one.1 rest x one.3 in
      let three =
      says_parts (rows_format states) (λ r. and_then low_format (λ low. done (both_heads r low))) two.1 rest x two.3 in
      let four = says_parts low_format (λ low. done (both_heads three.0 low)) three.1 rest x three.3 in
      let rows = row_count_out states three.0 two.1 three.1 three.2 in
      let last = low_out four.0 three.1 four.1 four.2 in
      let is : x ≡ both_heads three.0 four.0 = four.3.0 in
      let low = subst (λ (l : List Piece). AreMeant (lowest four.0) three.1 l) (sym four.3.1) last.1 in
      rw is (
        rows.0,
        last.0,
        meant_both (counted (codes "plan") plan)
            (counted (codes "states") states ++ (counted (codes "rows") three.0 ++ lowest four.0)) ts one.1 rest
            (count_out (codes "plan") plan one.0 ts one.1 one.2)
            (meant_both (counted (codes "states") states) (counted (codes "rows") three.0 ++ lowest four.0) one.1 two.1
            rest (count_out (codes "states") states two.0 one.1 two.1 two.2)
            (meant_both (counted (codes "rows") three.0) (lowest four.0) two.1 three.1 rest rows.1 low)),
      )

  sparse_head_in : (plan states r low : ℕ) (ts rest : List Piece) → plan < 2 ^ 32 → states < 2 ^ 32
      → r ≤ states → IsLowest low
      → AreMeant (sparse_heads plan states r low) ts rest
      → Says (sparse_head_format plan states) ts (both_heads r low) rest
  unfolding sparse_head_format Says
  sparse_head_in plan states r low ts rest p s few fits h =
      let one =
      meant_parts (counted (codes "plan") plan)
      (counted (codes "states") states ++ (counted (codes "rows") r ++ lowest low)) ts rest h in
      let two =
      meant_parts (counted (codes "states") states) (counted (codes "rows") r ++ lowest low) one.0 rest one.2 in
      let three = meant_parts (counted (codes "rows") r) (lowest low) two.0 rest two.2 in
      says_both (count_format (codes "plan") plan) (λ _. and_then (count_format (codes "states") states)
      (λ _. and_then (rows_format states) (λ r. and_then low_format (λ low. done (both_heads r low))))) ts one.0 rest tt
      (both_heads r low) (count_in (codes "plan") plan ts one.0 p one.1)
      (says_both (count_format (codes "states") states)
      (λ _. and_then (rows_format states) (λ r. and_then low_format (λ low. done (both_heads r low)))) one.0 two.0
      rest tt (both_heads r low)
      (count_in (codes "states") states one.0 two.0 s two.1)
      (says_both (rows_format states) (λ r. and_then low_format (λ low. done (both_heads r low))) two.0 three.0 rest r
      (both_heads r low) (row_count_in states r two.0 three.0 few three.1)
      (says_both low_format (λ low. done (both_heads r low)) three.0 rest rest low (both_heads r low)
      (low_in low three.0 rest fits three.2) (refl, refl))))

  -- ---- a section in full

  -- what stands between the version and the last word
  abbrev full_middle : FullSection → List Saying
  full_middle s =
      (counted (codes "plan") s.plan ++ (counted (codes "states") (length s.labels) ++ lowest s.low))
      ++ (spelled_outcome s.outcome s.arcs ++ flat_map spelled_row s.labels)

  abbrev made : ℕ → ℕ → Outcome → List ℕ → List Row → FullSection
  made plan low o arcs rows = record { plan = plan; low = low; outcome = o; arcs = arcs; labels = rows }

  pub full_out : (plan states : ℕ) (s : FullSection) (ts rest : List Piece) → plan < 2 ^ 32 → states < 2 ^ 32
      → Says (full_format plan states) ts s rest
      → (s.plan ≡ plan) × (length s.labels ≡ states) × IsFullSection s × AreMeant (full_middle s) ts rest
  unfolding full_format Says
  full_out plan states s ts rest p q h =
      let one =
      says_parts (head_format plan states) (λ low. and_then outcome_format
      (λ o. and_then (turns states row_turn []) (λ rows. done (made plan low o.0 o.1 rows)))) ts rest s h in
      let two =
      says_parts outcome_format
      (λ o. and_then (turns states row_turn []) (λ rows. done (made plan one.0 o.0 o.1 rows))) one.1 rest s one.3 in
      let three =
      says_parts (turns states row_turn []) (λ rows. done (made plan one.0 two.0.0 two.0.1 rows)) two.1 rest s two.3 in
      let head = head_out plan states one.0 ts one.1 one.2 in
      let path = outcome_out two.0 one.1 two.1 two.2 in
      let rows = rows_out states three.0 two.1 three.1 three.2 in
      let is : s ≡ made plan one.0 two.0.0 two.0.1 three.0 = three.3.0 in
      let lines = subst (λ (l : List Piece). AreMeant (flat_map spelled_row three.0) two.1 l) (sym three.3.1) rows.2 in
      rw is (
        refl,
        rows.0,
        record {
          plan = p;
          low = head.0;
          outcome = path.0;
          arcs = path.1;
          states = omega (arith, rows.0);
          labels = rows.1;
        },
        meant_both (counted (codes "plan") plan ++ (counted (codes "states") (length three.0) ++ lowest one.0))
            (spelled_outcome two.0.0 two.0.1 ++ flat_map spelled_row three.0) ts one.1 rest
            (rw rows.0 head.1)
            (meant_both (spelled_outcome two.0.0 two.0.1) (flat_map spelled_row three.0) one.1 two.1 rest path.2 lines),
      )

  pub full_in : (s : FullSection) (ts rest : List Piece) → IsFullSection s → AreMeant (full_middle s) ts rest
      → Says (full_format s.plan (length s.labels)) ts s rest
  unfolding full_format Says
  full_in s ts rest fits h =
      let states = length s.labels in
      let head = counted (codes "plan") s.plan ++ (counted (codes "states") states ++ lowest s.low) in
      let one = meant_parts head (spelled_outcome s.outcome s.arcs ++ flat_map spelled_row s.labels) ts rest h in
      let two = meant_parts (spelled_outcome s.outcome s.arcs) (flat_map spelled_row s.labels) one.0 rest one.2 in
      says_both (head_format s.plan states) (λ low. and_then outcome_format
      (λ o. and_then (turns states row_turn []) (λ rows. done (made s.plan low o.0 o.1 rows)))) ts one.0 rest s.low s
      (head_in s.plan states s.low ts one.0 fits.plan fits.states fits.low one.1)
      (says_both outcome_format
      (λ o. and_then (turns states row_turn []) (λ rows. done (made s.plan s.low o.0 o.1 rows))) one.0 two.0
      rest (s.outcome, s.arcs) s
      (outcome_in s.outcome s.arcs one.0 two.0 fits.outcome fits.arcs two.1)
      (says_both (turns states row_turn []) (λ rows. done (made s.plan s.low s.outcome s.arcs rows)) two.0 rest rest
      s.labels s (rows_in s.labels two.0 rest fits.labels two.2) (refl, refl)))

  -- ---- a sparse section

  abbrev sparse_middle : SparseSection → List Saying
  sparse_middle s =
      sparse_heads s.plan s.states (length s.rows) s.low
      ++ (spelled_outcome s.outcome s.arcs ++ flat_map spelled_sparse_row s.rows)

  abbrev sparse_made : (plan states low : ℕ) → Outcome → List ℕ → List SparseRow → SparseSection
  sparse_made plan states low o arcs rows =
      record { plan = plan; states = states; low = low; outcome = o; arcs = arcs; rows = rows }

  pub sparse_out : (plan states : ℕ) (s : SparseSection) (ts rest : List Piece) → plan < 2 ^ 32 → states < 2 ^ 32
      → Says (sparse_format plan states) ts s rest
      → (s.plan ≡ plan) × (s.states ≡ states) × IsSparseSection s × AreMeant (sparse_middle s) ts rest
  unfolding sparse_format Says
  sparse_out plan states s ts rest p q h =
      let one =
      says_parts (sparse_head_format plan states)
      (λ x. and_then outcome_format (λ o. and_then (turns x.0 (sparse_turn states) (so_far 0 []))
      (λ rows. done (sparse_made plan states x.1 o.0 o.1 rows.1)))) ts rest s h in
      let two =
      says_parts outcome_format (λ o. and_then (turns one.0.0 (sparse_turn states) (so_far 0 []))
      (λ rows. done (sparse_made plan states one.0.1 o.0 o.1 rows.1))) one.1 rest s one.3 in
      let three =
      says_parts (turns one.0.0 (sparse_turn states) (so_far 0 []))
      (λ rows. done (sparse_made plan states one.0.1 two.0.0 two.0.1 rows.1)) two.1 rest s two.3 in
      let head = sparse_head_out plan states one.0 ts one.1 one.2 in
      let path = outcome_out two.0 one.1 two.1 two.2 in
      let rows = sparse_rounds_out states one.0.0 0 [] three.0 two.1 three.1 three.2 in
      let is : s ≡ sparse_made plan states one.0.1 two.0.0 two.0.1 three.0.1 = three.3.0 in
      let all : three.0.1 ≡ rows.0 = rows.1 in
      let lines =
      subst (λ (l : List Piece). AreMeant (flat_map spelled_sparse_row rows.0) two.1 l) (sym three.3.1) rows.5 in
      rw (is, all) (
        refl,
        refl,
        record {
          plan = p;
          states = q;
          low = head.1;
          outcome = path.0;
          arcs = path.1;
          rows = up_from_zero states rows.0 rows.3 rows.4;
        },
        meant_both (sparse_heads plan states (length rows.0) one.0.1)
            (spelled_outcome two.0.0 two.0.1 ++ flat_map spelled_sparse_row rows.0) ts one.1 rest (rw rows.2 head.2)
            (meant_both (spelled_outcome two.0.0 two.0.1) (flat_map spelled_sparse_row rows.0) one.1
            two.1 rest path.2 lines),
      )

  pub sparse_in : (s : SparseSection) (ts rest : List Piece) → IsSparseSection s → AreMeant (sparse_middle s) ts rest
      → Says (sparse_format s.plan s.states) ts s rest
  unfolding sparse_format Says
  sparse_in s ts rest fits h =
      let r = length s.rows in
      let up = rows_up_from s.states s.rows fits.rows in
      let one =
      meant_parts (sparse_heads s.plan s.states r s.low)
      (spelled_outcome s.outcome s.arcs ++ flat_map spelled_sparse_row s.rows) ts rest h in
      let two = meant_parts (spelled_outcome s.outcome s.arcs) (flat_map spelled_sparse_row s.rows) one.0 rest one.2 in
      let rows = sparse_rounds_in s.states r 0 [] s.rows two.0 rest refl up.1 up.2 two.2 in
      says_both (sparse_head_format s.plan s.states)
      (λ x. and_then outcome_format (λ o. and_then (turns x.0 (sparse_turn s.states) (so_far 0 []))
      (λ rows. done (sparse_made s.plan s.states x.1 o.0 o.1 rows.1)))) ts one.0 rest (both_heads r s.low) s
      (sparse_head_in s.plan s.states r s.low ts one.0 fits.plan fits.states up.0 fits.low one.1)
      (says_both outcome_format (λ o. and_then (turns r (sparse_turn s.states) (so_far 0 []))
      (λ rows. done (sparse_made s.plan s.states s.low o.0 o.1 rows.1))) one.0 two.0 rest (s.outcome, s.arcs) s
      (outcome_in s.outcome s.arcs one.0 two.0 fits.outcome fits.arcs two.1)
      (says_both (turns r (sparse_turn s.states) (so_far 0 [])) (λ rows. done (sparse_made s.plan s.states s.low
      s.outcome s.arcs rows.1)) two.0 rest rest (so_far rows.0 s.rows) s rows.1 (refl, refl)))

  -- ---- a section of either version

  abbrev front : Section → List Saying
  front (Full s) = title (codes "1") ++ full_middle s
  front (Sparse s) = title (codes "2") ++ sparse_middle s

  abbrev in_full : (plan states : ℕ) → Format LabelFault Section
  in_full plan states = and_then (full_format plan states) (λ s. done (Full s))

  abbrev in_sparse : (plan states : ℕ) → Format LabelFault Section
  in_sparse plan states = and_then (sparse_format plan states) (λ s. done (Sparse s))

  pub front_out : (plan states : ℕ) (s : Section) (ts rest : List Piece) → plan < 2 ^ 32 → states < 2 ^ 32
      → Says (front_format plan states) ts s rest
      → IsOf plan states s × IsSection s × AreMeant (front s) ts rest
  unfolding front_format Says
  front_out plan states s ts rest p q h =
      let one = says_parts title_format
      (λ version. if version == 1 then in_full plan states else in_sparse plan states) ts rest s h in
      elim (title_out one.0 ts one.1 one.2) [
        | inl w ↦ (
            let more : Says (in_full plan states) one.1 s rest = rw w.0 at one.3 in
            let two = says_parts (full_format plan states) (λ x. done (Full x)) one.1 rest s more in
            let is : s ≡ Full two.0 = two.3.0 in
            let full = full_out plan states two.0 one.1 two.1 p q two.2 in
            let middle = subst (λ (l : List Piece). AreMeant (full_middle two.0) one.1 l) (sym two.3.1) full.3 in
            rw is
            ((full.0, full.1), full.2, meant_both (title (codes "1")) (full_middle two.0) ts one.1 rest w.1 middle)
            )
        | inr w ↦ (
            let more : Says (in_sparse plan states) one.1 s rest = rw w.0 at one.3 in
            let two = says_parts (sparse_format plan states) (λ x. done (Sparse x)) one.1 rest s more in
            let is : s ≡ Sparse two.0 = two.3.0 in
            let sparse = sparse_out plan states two.0 one.1 two.1 p q two.2 in
            let middle = subst (λ (l : List Piece). AreMeant (sparse_middle two.0) one.1 l) (sym two.3.1) sparse.3 in
            rw is (
              (sparse.0, sparse.1),
              sparse.2,
              meant_both (title (codes "2")) (sparse_middle two.0) ts one.1 rest w.1 middle,
            )
            )
      ]

  front_in : (plan states : ℕ) (s : Section) (ts rest : List Piece) → IsOf plan states s → IsSection s
      → AreMeant (front s) ts rest → Says (front_format plan states) ts s rest
  unfolding front_format Says
  front_in plan states (Full s) ts rest of fits h =
      let one = meant_parts (title (codes "1")) (full_middle s) ts rest h in
      let full : Says (full_format plan states) one.0 s rest =
      subst (λ (m : ℕ). Says (full_format plan m) one.0 s rest) of.1
      (subst (λ (k : ℕ). Says (full_format k (length s.labels)) one.0 s rest) of.0 (full_in s one.0 rest fits one.2)) in
      says_both title_format (λ version. if version == 1 then in_full plan states else in_sparse plan states) ts one.0
      rest 1 (Full s) (title_one_in ts one.0 one.1)
      (says_both (full_format plan states) (λ x. done (Full x)) one.0 rest rest s (Full s) full (refl, refl))
  front_in plan states (Sparse s) ts rest of fits h =
      let one = meant_parts (title (codes "2")) (sparse_middle s) ts rest h in
      let sparse : Says (sparse_format plan states) one.0 s rest =
      subst (λ (m : ℕ). Says (sparse_format plan m) one.0 s rest) of.1
      (subst (λ (k : ℕ). Says (sparse_format k s.states) one.0 s rest) of.0 (sparse_in s one.0 rest fits one.2)) in
      says_both title_format (λ version. if version == 1 then in_full plan states else in_sparse plan states) ts one.0
      rest 2 (Sparse s) (title_two_in ts one.0 one.1)
      (says_both (sparse_format plan states) (λ x. done (Sparse x)) one.0 rest rest s (Sparse s) sparse (refl, refl))

  abbrev last_word : Section → Format LabelFault Section
  last_word s = item (fixed (codes "end")) (λ _ _. done s)

  end_out : (s x : Section) (ts rest : List Piece) → Says (last_word s) ts x rest
      → (x ≡ s) × AreMeant (a_word (codes "end") ∷ []) ts rest
  unfolding Says AreMeant
  end_out s x [] rest h = absurd h
  end_out s x (t ∷ ts) rest h = (h.2.0, (word_out (codes "end") t.bytes h.0 h.1, h.2.1))

  end_in : (s : Section) (ts rest : List Piece) → AreMeant (a_word (codes "end") ∷ []) ts rest
      → Says (last_word s) ts s rest
  unfolding Says AreMeant
  end_in s [] rest h = absurd h
  end_in s (t ∷ ts) rest h = (pos 0, word_in (codes "end") t.bytes h.0, (refl, h.1))

  -- the tokens of a section, with the last word by itself
  apart : (s : Section) → spelled s ≡ front s ++ a_word (codes "end") ∷ []
  unfolding spelled_full spelled_sparse
  apart (Full s) =
      ap (λ (x : List Saying). spelled_head s ++ x) (sym (append_assoc (spelled_outcome s.outcome s.arcs)
      (flat_map spelled_row s.labels) (a_word (codes "end") ∷ [])))
  apart (Sparse s) =
      ap (λ (x : List Saying). spelled_sparse_head s ++ x) (sym (append_assoc (spelled_outcome s.outcome s.arcs)
      (flat_map spelled_sparse_row s.rows) (a_word (codes "end") ∷ [])))

  front_and_end : (s : Section) (ts rest : List Piece) → AreMeant (front s ++ a_word (codes "end") ∷ []) ts rest
      → AreMeant (spelled s) ts rest
  front_and_end s ts rest h = subst (λ (x : List Saying). AreMeant x ts rest) (sym (apart s)) h

  front_then_end : (s : Section) (ts rest : List Piece) → AreMeant (spelled s) ts rest
      → AreMeant (front s ++ a_word (codes "end") ∷ []) ts rest
  front_then_end s ts rest h = subst (λ (x : List Saying). AreMeant x ts rest) (apart s) h

  pub section_out : (plan states : ℕ) (s : Section) (ts rest : List Piece) → plan < 2 ^ 32 → states < 2 ^ 32
      → Says (section_format plan states) ts s rest
      → IsOf plan states s × AreTokensOf ts s rest
  unfolding section_format Says
  section_out plan states s ts rest p q h =
      let one = says_parts (front_format plan states) last_word ts rest s h in
      let first = front_out plan states one.0 ts one.1 p q one.2 in
      let last = end_out one.0 s one.1 rest one.3 in
      let tokens = meant_both (front one.0) (a_word (codes "end") ∷ []) ts one.1 rest first.2 last.1 in
      rw last.0 (first.0, record { tokens = front_and_end one.0 ts rest tokens; fits = first.1 })

  pub section_in : (plan states : ℕ) (s : Section) (ts rest : List Piece) → IsOf plan states s → AreTokensOf ts s rest
      → Says (section_format plan states) ts s rest
  unfolding section_format Says
  section_in plan states s ts rest of w =
      let p = meant_parts (front s) (a_word (codes "end") ∷ []) ts rest (front_then_end s ts rest w.tokens) in
      says_both (front_format plan states) last_word ts p.0 rest s s
      (front_in plan states s ts p.0 of w.fits p.1) (end_in s p.0 rest p.2)
