-- Opened labels are exact on every graph of their size, not underconsistent, and fit every count.
use Rattle.std.proofs.Common.{◌≡◌, ◌≢◌, ℕ, ◌<◌, ◌≤◌, None, List, length, slice_index_or, arith, ⊎_elim, refl, ap, ◌∙◌}
use Rattle.std.proofs.lemmas.List.{get_or_past}
use Rattle.std.proofs.lemmas.Bool.{cases_lt, cases_eq}
use Rattle.sbpl_graph.specs.Network.{Network}
use Rattle.sbpl_graph.specs.Exact.{AreExact}
use Rattle.sbpl_graph.specs.Fit.{FitCount}
use Rattle.sbpl_graph.specs.Kept.{NoneUnder}
use Rattle.sbpl_graph.proofs.Keeping.{opened_exact}
use Rattle.sbpl_graph.proofs.Fitting.{fit_opened, fit_more}
use Rattle.sbpl_labels.specs.declared.row.Row.{Row}
use Rattle.sbpl_labels.specs.Marks.{Marks, AreInitial, g_of, v_of, back_of, no_row, far_row}
use Rattle.sbpl_labels.specs.Rows.{SetsRow}

module _ {m : Marks} {states start : ℕ} (opened : AreInitial m states start) where
  pub exact_where_opened : (n : Network) → n.states ≡ states → AreExact n start (g_of m) (v_of m) (back_of m)
  exact_where_opened n same =
      opened_exact opened.from_start (λ s inside other. opened.far_g s (omega arith) other)
      (λ s inside. opened.far_v s (omega arith)) opened.no_arc

  pub not_under_where_opened : start < states → NoneUnder states (g_of m) (v_of m)
  not_under_where_opened inside = record {
    at = λ s at.
        ⊎_elim
        (λ (e : s ≡ start). let zero_here : g_of m s ≡ 0 = rw e opened.from_start in omega arith)
        (λ (other : s ≢ start). omega (arith, opened.far_g s at other, opened.far_v s at))
        (cases_eq s start);
  }

  pub fits_where_opened : (count : ℕ) → FitCount states (g_of m) (v_of m) count
  fits_where_opened count = fit_more count (fit_opened opened.from_start opened.far_g opened.far_v) (omega arith)

-- rows that are all infinite are opened by writing 0 into the start's g
pub opened_rows : {far rows : List Row} (count start : ℕ) → length far ≡ count → start < count
    → ((s : ℕ) → s < count → slice_index_or far s no_row ≡ far_row)
    → SetsRow far rows start (record { g = 0; v = (slice_index_or far start no_row).v; back = None })
    → AreInitial (record { start = start; rows = rows }) count start
opened_rows {far} {rows} count start size inside is_far set = record {
  states = set.states ∙ size;
  start = refl;
  from_start = ap (λ (r : Row). r.g) set.at;
  far_g = λ s at apart. ap (λ (r : Row). r.g) (set.others s apart ∙ is_far s at);
  far_v = λ s at.
      ⊎_elim
      (λ (e : s ≡ start). rw e (ap (λ (r : Row). r.v) set.at ∙ ap (λ (r : Row). r.v) (is_far start inside)))
      (λ (apart : s ≢ start). ap (λ (r : Row). r.v) (set.others s apart ∙ is_far s at))
      (cases_eq s start);
  no_arc = λ s.
      ⊎_elim
      (λ (e : s ≡ start). rw e (ap (λ (r : Row). r.back) set.at))
      (λ (apart : s ≢ start).
      ap (λ (r : Row). r.back) (set.others s apart) ∙ ⊎_elim
      (λ (at : s < count). ap (λ (r : Row). r.back) (is_far s at))
      (λ (past : count ≤ s). ap (λ (r : Row). r.back) (get_or_past far s no_row (omega (arith, size, past))))
      (cases_lt s count))
      (cases_eq s start);
}
