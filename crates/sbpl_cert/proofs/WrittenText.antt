-- What is written of a section is its tokens.
use Rattle.std.proofs.Common.{◌≡◌, ℕ, suc, ◌+◌, ◌-◌, ◌^◌, ◌<◌, Bool, true, false, ◌⊎◌, inl, inr, List, [], ◌∷◌, ◌++◌}
use Rattle.std.proofs.Common.{length, map, get_or, eqb, refl, sym, ap, ◌∙◌, append_assoc, arith, eq-eqb}
use Rattle.std.specs.Prelude.{decimal, codes}
use Rattle.std.specs.List.{flat_map}
use Rattle.std.proofs.lemmas.Bool.{ne_eqb}
use Rattle.std.proofs.lemmas.List.{length-append, drop_at}
use Rattle.sbpl_labels.specs.sbpl_graph.declared.TheConstants.{FAR}
use Rattle.sbpl_labels.specs.sbpl_graph.Certificate.{IsLabel}
use Rattle.sbpl_fixed.specs.Printed.{milli_text, line_text}
use Rattle.sbpl_fixed.specs.ReadBack.{IsWord, WordsAreTokens}
use Rattle.sbpl_fixed.specs.Runs.{ends_blank}
use Rattle.sbpl_fixed.specs.Tokens.{is_blank, is_fresh, tokens_past, tokens_from}
use Rattle.sbpl_fixed.specs.Unsigned.{NumbersAreTheirDigits}
use Rattle.sbpl_cert.specs.declared.outcome.Outcome.{Outcome}
use Rattle.sbpl_cert.specs.declared.outcome.Outcome.TheVariants as outcome
use Rattle.sbpl_cert.specs.declared.row.Row.{Row}
use Rattle.sbpl_cert.specs.declared.sparse_row.SparseRow.{SparseRow}
use Rattle.sbpl_cert.specs.declared.section.Section.{Section}
use Rattle.sbpl_cert.specs.declared.section.Section.TheVariants.{Full, Sparse}
use Rattle.sbpl_cert.specs.Sections.{FullSection, IsFullSection, IsRow, AreRows, IsOutcomeInRange, HasArcs}
use Rattle.sbpl_cert.specs.Sparse.{IsSparseRow, IsSparseSection, SparseSection, sparse_row_at}
use Rattle.sbpl_cert.specs.Versions.{IsSection}
use Rattle.sbpl_cert.specs.Printed.{label_text, head_line, outcome_line, row_line, row_text, full_text, section_text}
use Rattle.sbpl_cert.specs.Printed.{sparse_head_line, sparse_row_line, sparse_row_text, sparse_text}
use Rattle.sbpl_cert.specs.Text.{Saying, a_word, a_label, a_milli, Means, MeansNumber, AreMeant, spelled_head}
use Rattle.sbpl_cert.specs.Text.{spelled_outcome, spelled_row, spelled_arc, spelled, spelled_full, spelled_sparse}
use Rattle.sbpl_cert.specs.Text.{spelled_sparse_head, spelled_sparse_row, AreTokensOf}
use Rattle.sbpl_cert.proofs.SectionLaws.{meant_both}
use Rattle.sbpl_cert.proofs.SparseRows.{rows_few}

-- there are as many words as sayings, and each word says the one at its index
AreWords : List Saying → List (List ℕ) → Type 0
AreWords [] [] = Unit {0}
AreWords [] (w ∷ ws) = ⊥
AreWords (s ∷ ss) [] = ⊥
AreWords (s ∷ ss) (w ∷ ws) = IsWord w × Means s w × AreWords ss ws

module _ (numbers : NumbersAreTheirDigits) (words_are_tokens : WordsAreTokens) where
  -- ---- words

  number_word : (n : ℕ) → n < 2 ^ 64 → IsWord (decimal n) × MeansNumber n (decimal n)
  number_word n lt = (numbers.digit_words n (omega arith), numbers.printed_digits n (omega arith))

  label_word : (x : ℕ) → (x ≡ FAR) ⊎ (x < FAR) → IsWord (label_text x) × Means (a_label x) (label_text x)
  label_word x h =
      elim h [
        | inl far ↦ rw (eq-eqb x FAR far) (record { some = omega arith; filled = refl }, inl (refl, far))
        | inr near ↦
            (let n = number_word x (omega (arith, near)) in
            rw (ne_eqb x FAR (λ q. omega (arith, near))) (n.0, inr (n.1, near)))
      ]

  milli_word : (b : ℕ) → b < 2 ^ 100 → IsWord (milli_text b) × Means (a_milli b) (milli_text b)
  milli_word b lt = (numbers.milli_words b (omega arith), numbers.printed_millis b (omega arith))

  label_range : (x : ℕ) → IsLabel x → (x ≡ FAR) ⊎ (x < FAR)
  label_range x h = elim h [ inl far ↦ inl far | inr near ↦ inr (omega (arith, near)) ]

  -- ---- lines

  line_means : (ss : List Saying) (w : List ℕ) (ws : List (List ℕ)) (place : ℕ) (after : List ℕ) → AreWords ss (w ∷ ws)
      → AreMeant ss (tokens_past true place (line_text (w ∷ ws) ++ after))
      (tokens_past true (place + length (line_text (w ∷ ws))) after)
  unfolding line_text AreMeant AreWords
  line_means [] w ws place after h = absurd h
  line_means (s ∷ []) w [] place after h =
      let token = words_are_tokens w 10 after place h.0 refl in
      let text : (w ++ 10 ∷ []) ++ after ≡ w ++ 10 ∷ after = append_assoc w (10 ∷ []) after in
      let far : place + length (w ++ 10 ∷ []) ≡ place + length w + 1 = omega (arith, length-append w (10 ∷ [])) in
      rw (text, token, far) (h.1, refl)
  line_means (s ∷ t ∷ ss) w [] place after h = absurd h.2
  line_means (s ∷ []) w (v ∷ ws) place after h = absurd h.2
  line_means (s ∷ t ∷ ss) w (v ∷ ws) place after h =
      let more = line_means (t ∷ ss) v ws (place + length w + 1) after h.2 in
      let token = words_are_tokens w 32 (line_text (v ∷ ws) ++ after) place h.0 refl in
      let text : (w ++ 32 ∷ line_text (v ∷ ws)) ++ after ≡ w ++ 32 ∷ (line_text (v ∷ ws) ++ after) =
      append_assoc w (32 ∷ line_text (v ∷ ws)) after in
      let far : place + length (w ++ 32 ∷ line_text (v ∷ ws)) ≡ place + length w + 1 + length (line_text (v ∷ ws)) =
      omega (arith, length-append w (32 ∷ line_text (v ∷ ws))) in
      rw (text, token, far) (h.1, more)

  -- ---- the lines of a section

  row_words : (r : Row) → IsRow r → AreWords (spelled_row r) (row_line r)
  unfolding AreWords
  row_words r fits =
      let g = label_word r.g (label_range r.g fits.g) in
      let v = label_word r.v (label_range r.v fits.v) in
      let h = number_word r.h (let lt = fits.h in omega arith) in
      (g.0, g.1, (v.0, v.1, (h.0, h.1, tt)))

  rows_mean : (rows : List Row) (place : ℕ) (after : List ℕ) → AreRows rows
      → AreMeant (flat_map spelled_row rows) (tokens_past true place (flat_map row_text rows ++ after))
      (tokens_past true (place + length (flat_map row_text rows)) after)
  unfolding AreMeant
  rows_mean [] place after fits = let here : place + 0 ≡ place = omega arith in rw here refl
  rows_mean (r ∷ rows) place after fits =
      let text : (row_text r ++ flat_map row_text rows) ++ after ≡ row_text r ++ (flat_map row_text rows ++ after) =
      append_assoc (row_text r) (flat_map row_text rows) after in
      let far : place + length (row_text r ++ flat_map row_text rows)
      ≡ place + length (row_text r) + length (flat_map row_text rows) =
      omega (arith, length-append (row_text r) (flat_map row_text rows)) in
      let first =
      line_means (spelled_row r) (label_text r.g) (label_text r.v ∷ decimal r.h ∷ []) place
      (flat_map row_text rows ++ after) (row_words r (fits 0 (omega arith))) in
      let more = rows_mean rows (place + length (row_text r)) after (λ s lt. fits (suc s) (omega arith)) in
      rw (text, far) (meant_both (spelled_row r) (flat_map spelled_row rows)
      (tokens_past true place (row_text r ++ (flat_map row_text rows ++ after)))
      (tokens_past true (place + length (row_text r)) (flat_map row_text rows ++ after)) (tokens_past true
      (place + length (row_text r) + length (flat_map row_text rows)) after) first more)

  sparse_row_words : (states : ℕ) (r : SparseRow) → states < 2 ^ 32 → IsSparseRow states r
      → AreWords (spelled_sparse_row r) (sparse_row_line r)
  unfolding AreWords
  sparse_row_words states r few fits =
      let s = number_word r.state (omega (arith, few, fits.inside)) in
      let g = label_word r.g (label_range r.g fits.g) in
      let v = label_word r.v (label_range r.v fits.v) in
      (s.0, s.1, (g.0, g.1, (v.0, v.1, tt)))

  sparse_rows_mean : (states : ℕ) (rows : List SparseRow) (place : ℕ) (after : List ℕ) → states < 2 ^ 32
      → ((i : ℕ) → i < length rows → IsSparseRow states (sparse_row_at rows i))
      → AreMeant (flat_map spelled_sparse_row rows) (tokens_past true place (flat_map sparse_row_text rows ++ after))
      (tokens_past true (place + length (flat_map sparse_row_text rows)) after)
  unfolding AreMeant
  sparse_rows_mean states [] place after few fits = let here : place + 0 ≡ place = omega arith in rw here refl
  sparse_rows_mean states (r ∷ rows) place after few fits =
      let text : (sparse_row_text r ++ flat_map sparse_row_text rows) ++ after
      ≡ sparse_row_text r ++ (flat_map sparse_row_text rows ++ after) =
      append_assoc (sparse_row_text r) (flat_map sparse_row_text rows) after in
      let far : place + length (sparse_row_text r ++ flat_map sparse_row_text rows)
      ≡ place + length (sparse_row_text r) + length (flat_map sparse_row_text rows) =
      omega (arith, length-append (sparse_row_text r) (flat_map sparse_row_text rows)) in
      let first =
      line_means (spelled_sparse_row r) (decimal r.state) (label_text r.g ∷ label_text r.v ∷ []) place
      (flat_map sparse_row_text rows ++ after) (sparse_row_words states r few (fits 0 (omega arith))) in
      let more =
      sparse_rows_mean states rows (place + length (sparse_row_text r)) after few
      (λ i at. fits (suc i) (omega arith)) in
      rw (text, far) (meant_both (spelled_sparse_row r) (flat_map spelled_sparse_row rows)
      (tokens_past true place (sparse_row_text r ++ (flat_map sparse_row_text rows ++ after)))
      (tokens_past true (place + length (sparse_row_text r)) (flat_map sparse_row_text rows ++ after)) (tokens_past true
      (place + length (sparse_row_text r) + length (flat_map sparse_row_text rows)) after) first more)

  arcs_words : (arcs : List ℕ) → ((i : ℕ) → i < length arcs → get_or arcs i 0 < 4096)
      → AreWords (flat_map spelled_arc arcs) (map decimal arcs)
  unfolding AreWords
  arcs_words [] small = tt
  arcs_words (k ∷ ks) small =
      let n = number_word k (let lt = small 0 (omega arith) in omega arith) in
      (n.0, n.1, arcs_words ks (λ i lt. small (suc i) (omega arith)))

  outcome_means : (o : Outcome) (arcs : List ℕ) (place : ℕ) (after : List ℕ) → IsOutcomeInRange o → HasArcs o arcs
      → AreMeant (spelled_outcome o arcs) (tokens_past true place (line_text (outcome_line o arcs) ++ after))
      (tokens_past true (place + length (line_text (outcome_line o arcs))) after)
  unfolding AreWords
  outcome_means (outcome.Path cost b) arcs place after fits has =
      let c = number_word cost (let lt = fits.0 in omega arith) in
      let m = milli_word b fits.2 in
      let n = number_word (length arcs) (let lt = has.few in omega arith) in
      line_means (spelled_outcome (outcome.Path cost b) arcs) (codes "path")
      (decimal cost ∷ milli_text b ∷ decimal (length arcs) ∷ map decimal arcs) place after (
        record { some = omega arith; filled = refl },
        refl,
        (c.0, c.1, (m.0, m.1, (n.0, n.1, arcs_words arcs has.small))),
      )
  outcome_means outcome.NoPath arcs place after fits has =
      line_means (a_word (codes "nopath") ∷ []) (codes "nopath") [] place after
      (record { some = omega arith; filled = refl }, refl, tt)
  outcome_means outcome.Unknown arcs place after fits has =
      line_means (a_word (codes "unknown") ∷ []) (codes "unknown") [] place after
      (record { some = omega arith; filled = refl }, refl, tt)

  lowest_range : (x : ℕ) → (x ≡ FAR) ⊎ (x < 2 ^ 63) → (x ≡ FAR) ⊎ (x < FAR)
  lowest_range x h = h

  head_words : (s : FullSection) → IsFullSection s → AreWords (spelled_head s) (head_line s)
  unfolding AreWords
  head_words s fits =
      let p = number_word s.plan (let lt = fits.plan in omega arith) in
      let n = number_word (length s.labels) (let lt = fits.states in omega arith) in
      let l = label_word s.low (lowest_range s.low fits.low) in (
        record { some = omega arith; filled = refl },
        refl,
        (
          record { some = omega arith; filled = refl },
          refl,
          (
            record { some = omega arith; filled = refl },
            refl,
            (
              p.0,
              p.1,
              (
                record { some = omega arith; filled = refl },
                refl,
                (n.0, n.1, (record { some = omega arith; filled = refl }, refl, (l.0, l.1, tt))),
              ),
            ),
          ),
        ),
      )

  fixed_word : (t : List ℕ) → IsWord t → IsWord t × Means (a_word t) t
  fixed_word t is = (is, refl)

  sparse_head_words : (s : SparseSection) → IsSparseSection s → AreWords (spelled_sparse_head s) (sparse_head_line s)
  unfolding AreWords
  sparse_head_words s fits =
      let few = rows_few s.states s.rows fits.rows in
      let p = number_word s.plan (let lt = fits.plan in omega arith) in
      let n = number_word s.states (let lt = fits.states in omega arith) in
      let r = number_word (length s.rows) (let lt = fits.states in omega arith) in
      let l = label_word s.low (lowest_range s.low fits.low) in (
        record { some = omega arith; filled = refl },
        refl,
        (
          record { some = omega arith; filled = refl },
          refl,
          (
            record { some = omega arith; filled = refl },
            refl,
            (
              p.0,
              p.1,
              (
                record { some = omega arith; filled = refl },
                refl,
                (
                  n.0,
                  n.1,
                  (
                    record { some = omega arith; filled = refl },
                    refl,
                    (r.0, r.1, (record { some = omega arith; filled = refl }, refl, (l.0, l.1, tt))),
                  ),
                ),
              ),
            ),
          ),
        ),
      )

  -- ---- a section

  abbrev last_line : List ℕ
  last_line = codes "end\n"

  last_means : (place : ℕ) (after : List ℕ)
      → AreMeant (a_word (codes "end") ∷ []) (tokens_past true place (last_line ++ after))
      (tokens_past true (place + length last_line) after)
  unfolding AreWords line_text
  last_means place after =
      line_means (a_word (codes "end") ∷ []) (codes "end") [] place after
      (record { some = omega arith; filled = refl }, refl, tt)

  -- one text after another
  both_mean : (ss vs : List Saying) (a b : List ℕ) (place : ℕ) (after : List ℕ)
      → AreMeant ss (tokens_past true place (a ++ (b ++ after))) (tokens_past true (place + length a) (b ++ after))
      → AreMeant vs (tokens_past true (place + length a) (b ++ after))
      (tokens_past true (place + length a + length b) after)
      → AreMeant (ss ++ vs) (tokens_past true place ((a ++ b) ++ after))
      (tokens_past true (place + length (a ++ b)) after)
  both_mean ss vs a b place after one two =
      let far : place + length (a ++ b) ≡ place + length a + length b = omega (arith, length-append a b) in
      rw (append_assoc a b after, far) (meant_both ss vs (tokens_past true place (a ++ (b ++ after)))
      (tokens_past true (place + length a) (b ++ after)) (tokens_past true (place + length a + length b) after) one two)

  section_means : (s : FullSection) (place : ℕ) (after : List ℕ) → IsFullSection s
      → AreMeant (spelled_full s) (tokens_past true place (full_text s ++ after))
      (tokens_past true (place + length (full_text s)) after)
  unfolding full_text spelled_full
  section_means s place after fits =
      let head = line_text (head_line s) in
      let path = line_text (outcome_line s.outcome s.arcs) in
      let rows = flat_map row_text s.labels in
      both_mean (spelled_head s) (spelled_outcome s.outcome s.arcs
      ++ (flat_map spelled_row s.labels ++ a_word (codes "end") ∷ [])) head (path ++ (rows ++ last_line)) place after
      (line_means (spelled_head s) (codes "labels") (codes "1" ∷ codes "plan" ∷ decimal s.plan ∷ codes "states"
      ∷ decimal (length s.labels) ∷ codes "low" ∷ label_text s.low ∷ [])
      place ((path ++ (rows ++ last_line)) ++ after) (head_words s fits))
      (both_mean (spelled_outcome s.outcome s.arcs) (flat_map spelled_row s.labels ++ a_word (codes "end") ∷ []) path
      (rows ++ last_line) (place + length head) after
      (outcome_means s.outcome s.arcs (place + length head) ((rows ++ last_line) ++ after) fits.outcome fits.arcs)
      (both_mean (flat_map spelled_row s.labels) (a_word (codes "end") ∷ []) rows last_line
      (place + length head + length path) after
      (rows_mean s.labels (place + length head + length path) (last_line ++ after) fits.labels)
      (last_means (place + length head + length path + length rows) after)))

  sparse_means : (s : SparseSection) (place : ℕ) (after : List ℕ) → IsSparseSection s
      → AreMeant (spelled_sparse s) (tokens_past true place (sparse_text s ++ after))
      (tokens_past true (place + length (sparse_text s)) after)
  unfolding sparse_text spelled_sparse
  sparse_means s place after fits =
      let head = line_text (sparse_head_line s) in
      let path = line_text (outcome_line s.outcome s.arcs) in
      let rows = flat_map sparse_row_text s.rows in
      both_mean (spelled_sparse_head s)
      (spelled_outcome s.outcome s.arcs ++ (flat_map spelled_sparse_row s.rows ++ a_word (codes "end") ∷ [])) head
      (path ++ (rows ++ last_line)) place after
      (line_means (spelled_sparse_head s) (codes "labels") (codes "2" ∷ codes "plan" ∷ decimal s.plan ∷ codes "states"
      ∷ decimal s.states ∷ codes "rows" ∷ decimal (length s.rows) ∷ codes "low" ∷ label_text s.low ∷ []) place
      ((path ++ (rows ++ last_line)) ++ after) (sparse_head_words s fits))
      (both_mean (spelled_outcome s.outcome s.arcs) (flat_map spelled_sparse_row s.rows ++ a_word (codes "end") ∷ [])
      path (rows ++ last_line) (place + length head) after
      (outcome_means s.outcome s.arcs (place + length head) ((rows ++ last_line) ++ after) fits.outcome fits.arcs)
      (both_mean (flat_map spelled_sparse_row s.rows) (a_word (codes "end") ∷ []) rows last_line
      (place + length head + length path) after
      (sparse_rows_mean s.states s.rows (place + length head + length path) (last_line ++ after)
      fits.states fits.rows.each)
      (last_means (place + length head + length path + length rows) after)))

  either_means : (s : Section) (place : ℕ) (after : List ℕ) → IsSection s
      → AreMeant (spelled s) (tokens_past true place (section_text s ++ after))
      (tokens_past true (place + length (section_text s)) after)
  either_means (Full s) place after fits = section_means s place after fits
  either_means (Sparse s) place after fits = sparse_means s place after fits

  -- ---- at an offset

  ends_both : (empty : Bool) (xs ys : List ℕ) → ends_blank empty (xs ++ ys) ≡ ends_blank (ends_blank empty xs) ys
  ends_both empty [] ys = refl
  ends_both empty (x ∷ xs) ys = ends_both (is_blank x) xs ys

  -- four texts after one another end as the last of them does
  parts_end_blank : (empty : Bool) (a b c : List ℕ) → ends_blank empty (a ++ (b ++ (c ++ last_line))) ≡ true
  parts_end_blank empty a b c =
      ends_both empty a (b ++ (c ++ last_line)) ∙ ends_both (ends_blank empty a) b (c ++ last_line)
      ∙ ends_both (ends_blank (ends_blank empty a) b) c last_line

  section_ends_blank : (empty : Bool) (s : Section) → ends_blank empty (section_text s) ≡ true
  unfolding full_text sparse_text
  section_ends_blank empty (Full s) =
      parts_end_blank empty (line_text (head_line s)) (line_text (outcome_line s.outcome s.arcs))
      (flat_map row_text s.labels)
  section_ends_blank empty (Sparse s) =
      parts_end_blank empty (line_text (sparse_head_line s)) (line_text (outcome_line s.outcome s.arcs))
      (flat_map sparse_row_text s.rows)

  -- the last of a list that is not empty is a blank, where it ends in one
  last_is_blank : (b : ℕ) (before after : List ℕ) → ends_blank true (b ∷ before) ≡ true
      → is_blank (get_or ((b ∷ before) ++ after) (length before) 0) ≡ true
  last_is_blank b [] after h = h
  last_is_blank b (c ∷ before) after h = last_is_blank c before after h

  fresh_at : (before after : List ℕ) → ends_blank true before ≡ true → is_fresh (before ++ after) (length before) ≡ true
  fresh_at [] after h = refl
  fresh_at (b ∷ before) after h =
      let one : suc (length before) - 1 ≡ length before = omega arith in
      let other : eqb (suc (length before)) 0 ≡ false = ne_eqb (suc (length before)) 0 (λ q. omega arith) in
      rw (other, one) (last_is_blank b before after h)

  tokens_at : (before after : List ℕ) → ends_blank true before ≡ true
      → tokens_from (before ++ after) (length before) ≡ tokens_past true (length before) after
  tokens_at before after h = rw (fresh_at before after h, drop_at before after (length before) refl) refl

  pub written_means : (s : Section) (before after : List ℕ) → IsSection s → ends_blank true before ≡ true
      → AreTokensOf (tokens_from (before ++ section_text s ++ after) (length before)) s
      (tokens_from (before ++ section_text s ++ after) (length before + length (section_text s)))
  written_means s before after fits h =
      let text : before ++ section_text s ++ after ≡ before ++ (section_text s ++ after) =
      append_assoc before (section_text s) after in
      let first : tokens_from (before ++ section_text s ++ after) (length before)
      ≡ tokens_past true (length before) (section_text s ++ after) =
      ap (λ (x : List ℕ). tokens_from x (length before)) text ∙ tokens_at before (section_text s ++ after) h in
      let ends : ends_blank true (before ++ section_text s) ≡ true =
      ends_both true before (section_text s) ∙ section_ends_blank (ends_blank true before) s in
      let size : length (before ++ section_text s) ≡ length before + length (section_text s) =
      length-append before (section_text s) in
      let last : tokens_from (before ++ section_text s ++ after) (length before + length (section_text s))
      ≡ tokens_past true (length before + length (section_text s)) after =
      ap (tokens_from (before ++ section_text s ++ after)) (sym size) ∙ tokens_at (before ++ section_text s) after ends
      ∙ ap (λ (n : ℕ). tokens_past true n after) size in
      record { tokens = rw (first, last) (either_means s (length before) after fits); fits = fits }
