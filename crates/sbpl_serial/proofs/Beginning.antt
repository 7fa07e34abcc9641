-- The labels that a plan begins with are determined.
use Rattle.std.proofs.Common.{◌≡◌, ◌≢◌, ℕ, ◌<◌, ◌↔◌, Bool, true, false, None, List, ⊎_elim, refl, sym, ap, subst, ◌∙◌}
use Rattle.std.proofs.lemmas.Bool.{cases_eq}
use Rattle.std.specs.List.{Contains}
use Rattle.sbpl_search.specs.sbpl_graph.Network.{Network}
use Rattle.sbpl_search.specs.sbpl_labels.declared.row.Row.{Row}
use Rattle.sbpl_search.specs.sbpl_labels.Marks.{AreInitial, Marks, states_of, g_of, v_of, back_of, row_at}
use Rattle.sbpl_search.specs.sbpl_labels.Recomputed.{IsRecomputed}
use Rattle.sbpl_search.specs.Determined.{DeterminesBeginnings}
use Rattle.sbpl_serial.specs.Determined.{InitialLabelsAreOne}
use Rattle.sbpl_serial.specs.Meant.{Begins}
use Rattle.sbpl_serial.specs.Repaired.{AreRepaired}
use Rattle.sbpl_serial.proofs.Agreeing.{Agree, same_marks, same_recomputed}
use Rattle.sbpl_serial.proofs.Exactness.{contains_or_not}

module _ {a b : Marks} {count first : ℕ} (x : AreInitial a count first) (y : AreInitial b count first) where
  initial_rows : (s : ℕ) → s < states_of a → Agree a b s
  initial_rows s inside =
      let within : s < count = subst (λ (n : ℕ). s < n) x.states inside in
      record {
        g = ⊎_elim
            (λ (at : s ≡ first). rw at (x.from_start ∙ sym y.from_start))
            (λ (apart : s ≢ first). x.far_g s within apart ∙ sym (y.far_g s within apart))
            (cases_eq s first);
        v = x.far_v s within ∙ sym (y.far_v s within);
        back = x.no_arc s ∙ sym (y.no_arc s);
      }

  -- initial labels are determined
  one_initial : a ≡ b
  one_initial = same_marks a b (x.start ∙ sym y.start) (x.states ∙ sym y.states) initial_rows

-- rows that are equal have the same labels
agree_by : (a b : Marks) (s : ℕ) → row_at a s ≡ row_at b s → Agree a b s
agree_by a b s same =
    record { g = ap (λ (r : Row). r.g) same; v = ap (λ (r : Row). r.v) same; back = ap (λ (r : Row). r.back) same }

module _ (n : Network) (touched touched' : List ℕ) (old a b : Marks)
    (same : (t : ℕ) → Contains touched t ↔ Contains touched' t)
    (x : AreRepaired n touched old a) (y : AreRepaired n touched' old b) where
  repaired_v : (t : ℕ) → v_of a t ≡ v_of b t
  repaired_v t = x.same_v t ∙ sym (y.same_v t)

  repaired_again : (t : ℕ) → Contains touched t → t ≢ old.start → Agree a b t
  repaired_again t among apart =
      let vs : v_of a ≡ v_of b = λ i u. repaired_v u i in
      let own : IsRecomputed n (v_of b) t (g_of a t) (back_of a t) = rw vs at (x.recomputed t among apart) in
      let one =
      same_recomputed n (v_of b) t (back_of a t) (back_of b t) own (y.recomputed t ((same t).0 among) apart) in
      record { g = one.0; v = repaired_v t; back = one.1 }

  repaired_rows : (t : ℕ) → Agree a b t
  repaired_rows t =
      ⊎_elim
      (λ (among : Contains touched t).
      ⊎_elim
      (λ (at : t ≡ old.start). rw at (agree_by a b old.start (x.start_row ∙ sym y.start_row)))
      (λ (apart : t ≢ old.start). repaired_again t among apart)
      (cases_eq t old.start))
      (λ (none : Contains touched t → ⊥).
      agree_by a b t (x.others t none ∙ sym (y.others t (λ among. none ((same t).1 among)))))
      (contains_or_not touched t)

  -- repaired labels are determined
  one_repaired : a ≡ b
  one_repaired =
      same_marks a b (x.same_start ∙ sym y.same_start) (x.same_states ∙ sym y.same_states) (λ t _. repaired_rows t)

-- the start still has no back arc
repaired_no_arc : (n : Network) (touched : List ℕ) (old a : Marks) → AreRepaired n touched old a
    → back_of old old.start ≡ None → back_of a a.start ≡ None
repaired_no_arc n touched old a x none = rw x.same_start (ap (λ (r : Row). r.back) x.start_row ∙ none)

pub initial_is_one : InitialLabelsAreOne
initial_is_one a b count first x y = one_initial x y

pub begun_anew : DeterminesBeginnings false (Begins false)
begun_anew = record {
  one = λ n touched others old a b xs ys same x y. (one_initial x.0 y.0, x.1 ∙ sym y.1);
  states = λ n touched old new raised states x. x.0.states;
  no_arc = λ n touched old new raised none x. x.0.no_arc new.start;
}

pub begun_repaired : DeterminesBeginnings true (Begins true)
begun_repaired = record {
  one = λ n touched others old a b xs ys same x y.
      (one_repaired n touched others old a b (same refl) x.0.repaired y.0.repaired, x.1 ∙ sym y.1);
  states = λ n touched old new raised states x. x.0.repaired.same_states ∙ states;
  no_arc = λ n touched old new raised none x. repaired_no_arc n touched old new x.0.repaired none;
}

pub begun_by : (repairs : Bool) → DeterminesBeginnings repairs (Begins repairs)
begun_by false = begun_anew
begun_by true = begun_repaired
