-- Labels that agree state by state are equal, and what recomputing gives is determined.
use Rattle.std.proofs.Common.{◌≡◌, ℕ, ◌<◌, ◌≤◌, Option, Some, None, arith, ⊎_elim, refl, sym, ap, ◌∙◌}
use Rattle.std.proofs.lemmas.Bool.{cases_lt}
use Rattle.std.proofs.lemmas.List.{ext_get_or}
use Rattle.sbpl_search.specs.sbpl_graph.Network.{Network}
use Rattle.sbpl_search.specs.sbpl_labels.declared.row.Row.{Row}
use Rattle.sbpl_search.specs.sbpl_labels.Marks.{Marks, no_row, states_of, g_of, v_of, back_of, row_at}
use Rattle.sbpl_search.specs.sbpl_labels.Recomputed.{IsRecomputed}

-- two rows with the same labels are equal
pub same_row : (a b : Row) → a.g ≡ b.g → a.v ≡ b.v → a.back ≡ b.back → a ≡ b
same_row a b g v back = λ i. record { g = g i; v = v i; back = back i }

-- two states' labels are equal
pub record Agree (a b : Marks) (s : ℕ) : Type 0 where
  pub g : g_of a s ≡ g_of b s
  pub v : v_of a s ≡ v_of b s
  pub back : back_of a s ≡ back_of b s

-- labels with the same start and the same rows are equal
pub same_marks : (a b : Marks) → a.start ≡ b.start → states_of a ≡ states_of b
    → ((s : ℕ) → s < states_of a → Agree a b s) → a ≡ b
same_marks a b start states agree =
    let rows : a.rows ≡ b.rows =
    ext_get_or no_row a.rows b.rows states
    (λ s inside. same_row (row_at a s) (row_at b s) (agree s inside).g (agree s inside).v (agree s inside).back) in
    λ i. record { start = start i; rows = rows i }

module _ (n : Network) (v : ℕ → ℕ) (t : ℕ) {g g' : ℕ} where
  -- of two first ways neither is before the other, and each gives the least
  pub same_recomputed : (back back' : Option (ℕ × ℕ)) → IsRecomputed n v t g back → IsRecomputed n v t g' back'
      → (g ≡ g') × (back ≡ back')
  same_recomputed None None is is' = (is.0 ∙ sym is'.0, refl)
  same_recomputed None (Some (s', k')) is is' = absurd (is.1 is'.0 s' k' is'.1 is'.2.way)
  same_recomputed (Some (s, k)) None is is' = absurd (is'.1 is.0 s k is.1 is.2.way)
  same_recomputed (Some (s, k)) (Some (s', k')) is is' =
      let least = is.2.least is'.0 s' k' is'.1 is'.2.way in
      let least' = is'.2.least is.0 s k is.1 is.2.way in
      let same : g ≡ g' = omega (arith, is.2.gives, is'.2.gives) in
      let number : is.0 ≡ is'.0 =
      ⊎_elim
      (λ (before : is.0 < is'.0).
      let less = is'.2.first is.0 s k is.1 before is.2.way in absurd (omega (arith, is.2.gives)))
      (λ (later : is'.0 ≤ is.0).
      ⊎_elim
      (λ (before : is'.0 < is.0).
      let less = is.2.first is'.0 s' k' is'.1 before is'.2.way in absurd (omega (arith, is'.2.gives)))
      (λ (other : is.0 ≤ is'.0). omega arith)
      (cases_lt is'.0 is.0))
      (cases_lt is.0 is'.0)
      in
      (same, sym is.2.way.tail.tail ∙ ap (n.tail t) number ∙ is'.2.way.tail.tail)
