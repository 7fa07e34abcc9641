-- A change of one state's labels, as functions see it.
use Rattle.std.proofs.Common.{◌≡◌, ◌≢◌, ℕ, Some, ap, ⊎_elim}
use Rattle.std.proofs.lemmas.Bool.{cases_eq}
use Rattle.sbpl_graph.specs.Kept.{SettlesState, LowersState}
use Rattle.sbpl_labels.specs.declared.row.Row.{Row}
use Rattle.sbpl_labels.specs.Marks.{Marks, ChangesRow, g_of, v_of, back_of}

pub settles_state : {old new : Marks} (s : ℕ)
    → ChangesRow old new s (record { g = g_of old s; v = g_of old s; back = back_of old s })
    → SettlesState (g_of old) (v_of old) (back_of old) (g_of new) (v_of new) (back_of new) s
settles_state {old} {new} s change = record {
  settled = ap (λ (r : Row). r.v) change.at;
  other_v = λ u other. ap (λ (r : Row). r.v) (change.others u other);
  same_g = λ u.
      ⊎_elim
      (λ (at : u ≡ s). rw at (ap (λ (r : Row). r.g) change.at))
      (λ (other : u ≢ s). ap (λ (r : Row). r.g) (change.others u other))
      (cases_eq u s);
  same_back = λ u.
      ⊎_elim
      (λ (at : u ≡ s). rw at (ap (λ (r : Row). r.back) change.at))
      (λ (other : u ≢ s). ap (λ (r : Row). r.back) (change.others u other))
      (cases_eq u s);
}

pub lowers_state : {old new : Marks} (t s k value : ℕ)
    → ChangesRow old new t (record { g = value; v = v_of old t; back = Some (s, k) })
    → LowersState (g_of old) (v_of old) (back_of old) (g_of new) (v_of new) (back_of new) t s k value
lowers_state {old} {new} t s k value change = record {
  lowered = ap (λ (r : Row). r.g) change.at;
  by = ap (λ (r : Row). r.back) change.at;
  other_g = λ u other. ap (λ (r : Row). r.g) (change.others u other);
  other_back = λ u other. ap (λ (r : Row). r.back) (change.others u other);
  same_v = λ u.
      ⊎_elim
      (λ (at : u ≡ t). rw at (ap (λ (r : Row). r.v) change.at))
      (λ (other : u ≢ t). ap (λ (r : Row). r.v) (change.others u other))
      (cases_eq u t);
}
