-- Labels stay labels as one state of them is settled or lowered.
use Rattle.std.proofs.Common.{◌≡◌, ◌≢◌, ℕ, ◌^◌, ◌<◌, Some, arith, ⊎_elim, inr, sym, ◌∙◌}
use Rattle.std.proofs.lemmas.Bool.{cases_eq}
use Rattle.sbpl_serial.specs.sbpl_labels.Marks.{Marks, AreLabels, ChangesRow, states_of, g_of, v_of, back_of}
use Rattle.sbpl_serial.proofs.Changes.{settles_state, lowers_state}

pub labels_settled : {old new : Marks} (s : ℕ) → s < states_of old → AreLabels old
    → ChangesRow old new s (record { g = g_of old s; v = g_of old s; back = back_of old s }) → AreLabels new
labels_settled {old} {new} s inside labels change =
    let settles = settles_state s change in
    record {
      start_inside = omega (arith, labels.start_inside, change.start, change.states);
      few_states = omega (arith, labels.few_states, change.states);
      labels = λ u within.
          let was = labels.labels u (omega (arith, change.states)) in (
            rw (settles.same_g u) was.0,
            ⊎_elim
                (λ (at : u ≡ s).
                let now : v_of new u ≡ g_of old u = rw at settles.settled in
                rw now was.0)
                (λ (apart : u ≢ s). rw (settles.other_v u apart) was.1)
                (cases_eq u s),
          );
      from_start = rw change.start (settles.same_g old.start ∙ labels.from_start);
      none_at_start = rw change.start (settles.same_back old.start ∙ labels.none_at_start);
    }

pub labels_lowered : {old new : Marks} (t s k value : ℕ) → AreLabels old → value < 2 ^ 62 → t ≢ old.start
    → ChangesRow old new t (record { g = value; v = v_of old t; back = Some (s, k) }) → AreLabels new
labels_lowered {old} {new} t s k value labels small apart_start change =
    let lowers = lowers_state t s k value change in
    let start_apart : old.start ≢ t = λ e. apart_start (sym e) in
    record {
      start_inside = omega (arith, labels.start_inside, change.start, change.states);
      few_states = omega (arith, labels.few_states, change.states);
      labels = λ u within.
          let was = labels.labels u (omega (arith, change.states)) in (
            ⊎_elim
                (λ (at : u ≡ t). rw (at, lowers.lowered) (inr small))
                (λ (apart : u ≢ t). rw (lowers.other_g u apart) was.0)
                (cases_eq u t),
            rw (lowers.same_v u) was.1,
          );
      from_start = rw change.start (lowers.other_g old.start start_apart ∙ labels.from_start);
      none_at_start = rw change.start (lowers.other_back old.start start_apart ∙ labels.none_at_start);
    }
