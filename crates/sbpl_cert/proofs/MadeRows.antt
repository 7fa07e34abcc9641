-- Rows that are made one by one.
use Rattle.std.proofs.Common.{◌≡◌, ℕ, ◌+◌, ◌<◌, ◌≤◌, ◌++◌, List, [], ◌∷◌, length, sym, ◌∙◌, ap, subst}
use Rattle.std.proofs.Common.{arith, ⊎_elim, length-append}
use Rattle.std.proofs.Math.ListN.{get_or-append}
use Rattle.std.proofs.Math.Seq.{get_or-append_seam}
use Rattle.std.proofs.lemmas.Bool.{cases_lt}
use Rattle.sbpl_labels.specs.Marks.{Marks, states_of, g_of, v_of}
use Rattle.sbpl_cert.specs.declared.row.Row.{Row}
use Rattle.sbpl_cert.specs.Made.{HaveRows}
use Rattle.sbpl_cert.specs.Sections.{AreRows, IsRow, no_row, row_at}

-- the rows of the first states are there
pub record AreMadeTo (m : Marks) (h : ℕ → ℕ) (rows : List Row) (i : ℕ) : Type 0 where
  pub count : length rows ≡ i
  pub each : (s : ℕ) → s < i → row_at rows s ≡ record { g = g_of m s; v = v_of m s; h = h s }
  pub kept : (s : ℕ) → s < i → IsRow (row_at rows s)

pub one_more : (m : Marks) (h : ℕ → ℕ) (rows : List Row) (i : ℕ) (row : Row) → AreMadeTo m h rows i
    → row ≡ record { g = g_of m i; v = v_of m i; h = h i } → IsRow row → AreMadeTo m h (rows ++ row ∷ []) (i + 1)
one_more m h rows i row made is fits = record {
  count = length-append rows (row ∷ []) ∙ ap (λ n. n + 1) made.count;
  each =
      λ s less. by s less (λ r. r ≡ record { g = g_of m s; v = v_of m s; h = h s }) (made.each s) (λ last. rw last is);
  kept = λ s less. by s less (λ r. IsRow r) (made.kept s) (λ last. fits);
}
  where
    by : (s : ℕ) → s < i + 1 → (P : Row → Type 0) → (s < i → P (row_at rows s)) → (s ≡ i → P row)
        → P (row_at (rows ++ row ∷ []) s)
    by s less P before last =
        ⊎_elim
        (λ (earlier : s < i).
        subst P (sym (get_or-append rows (row ∷ []) no_row s (rw made.count earlier))) (before earlier))
        (λ (past : i ≤ s).
        let here : s ≡ length rows = rw made.count (omega arith) in
        let found : row_at (rows ++ row ∷ []) s ≡ row = rw here (get_or-append_seam rows row [] no_row) in
        subst P (sym found) (last (omega arith)))
        (cases_lt s i)

-- rows that are made for all states
pub all_made : (m : Marks) (h : ℕ → ℕ) (rows labels : List Row) (i : ℕ) → labels ≡ rows → AreMadeTo m h rows i
    → i ≡ states_of m → HaveRows m h labels
all_made m h rows labels i same made all = rw same (record {
  states = made.count ∙ all;
  rows = λ s less. made.each s (rw all less);
})

pub all_kept : (m : Marks) (h : ℕ → ℕ) (rows labels : List Row) (i : ℕ) → labels ≡ rows
    → AreMadeTo m h rows i → AreRows labels
all_kept m h rows labels i same made = rw same (λ s less. made.kept s (rw (sym made.count) less))
