-- The open states of labels where none is underconsistent.
use Rattle.std.proofs.Common.{◌≡◌, ℕ, Bool, false, arith, ⊎_elim, inl, inr, sym, ◌∙◌}
use Rattle.sbpl_search.specs.sbpl_graph.Kept.{NoneUnder}
use Rattle.sbpl_search.specs.sbpl_labels.Marks.{Marks, states_of, g_of, v_of}
use Rattle.sbpl_serial.specs.Run.{IsOpen, IsOver, IsUnder}

-- what is open by one test is open by another that answers alike
pub open_alike : {m : Marks} {s : ℕ} (closed closed' : ℕ → Bool) → ((u : ℕ) → closed u ≡ closed' u)
    → IsOpen closed m s → IsOpen closed' m s
open_alike {m} {s} closed closed' same it = record {
  inside = it.inside;
  inconsistent = ⊎_elim (λ under. inl under) (λ over. inr (over.0, sym (same s) ∙ over.1)) it.inconsistent;
}

-- an open state is overconsistent and not closed
pub open_is_over : {closed : ℕ → Bool} {m : Marks} {s : ℕ} → NoneUnder (states_of m) (g_of m) (v_of m)
    → IsOpen closed m s → IsOver m s × (closed s ≡ false)
open_is_over {closed} {m} {s} none it =
    ⊎_elim
    (λ (under : IsUnder m s). absurd (omega (arith, none.at s it.inside)))
    (λ (over : IsOver m s × (closed s ≡ false)). over)
    it.inconsistent
