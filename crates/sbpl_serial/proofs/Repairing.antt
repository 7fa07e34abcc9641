-- States are recomputed one after the other.
use Rattle.std.proofs.Common.{◌≡◌, ◌≢◌, ℕ, ◌+◌, ◌<◌, ◌⊎◌, Option, Some, None, List, length, slice_index, arith, ⊎_elim}
use Rattle.std.proofs.Common.{inl, inr, sym, ◌∙◌, ap, subst}
use Rattle.std.proofs.lemmas.Bool.{cases_eq}
use Rattle.std.proofs.lemmas.List.{get_or_default}
use Rattle.std.specs.List.{Contains}
use Rattle.sbpl_search.specs.sbpl_graph.Network.{Network}
use Rattle.sbpl_search.specs.sbpl_graph.Fit.{FitCount}
use Rattle.sbpl_search.specs.sbpl_graph.Kept.{NoneUnder}
use Rattle.sbpl_search.specs.sbpl_labels.declared.row.Row.{Row}
use Rattle.sbpl_search.specs.sbpl_labels.Marks.{Marks, states_of, g_of, v_of, back_of, row_at}
use Rattle.sbpl_search.specs.sbpl_labels.Recomputed.{IsWay, IsRecomputed, Recomputes}
use Rattle.sbpl_serial.specs.Repaired.{AreRepaired}
use Rattle.sbpl_serial.specs.Run.{IsOver, IsUnder}
use Rattle.sbpl_serial.proofs.Exactness.{contains_or_not}

-- what is a way by one v is a way by an equal one
way_alike : {n : Network} {v v' : ℕ → ℕ} {t j s k c : ℕ} → ((u : ℕ) → v' u ≡ v u)
    → IsWay n v t j s k c → IsWay n v' t j s k c
way_alike {s = s} same way = record { tail = way.tail; free = way.free; near = omega (arith, same s, way.near) }

-- what is recomputed by one v is recomputed by an equal one
pub recomputed_alike : (n : Network) (v v' : ℕ → ℕ) (t g : ℕ) (back : Option (ℕ × ℕ)) → ((u : ℕ) → v' u ≡ v u)
    → IsRecomputed n v t g back → IsRecomputed n v' t g back
recomputed_alike n v v' t g None same is = (is.0, λ j s k c way. is.1 j s k c (way_alike (λ u. sym (same u)) way))
recomputed_alike n v v' t g (Some (s, k)) same is = (
  is.0,
  is.1,
  record {
    way = way_alike same is.2.way;
    gives = omega (arith, same s, is.2.gives);
    least = λ i a l d way. omega (arith, same a, is.2.least i a l d (way_alike (λ u. sym (same u)) way));
    first = λ i a l d before way. omega (arith, same a, is.2.first i a l d before (way_alike (λ u. sym (same u)) way));
  },
)

-- the touched states below number i are recomputed
pub record AreRepairedBelow (n : Network) (touched : List ℕ) (i : ℕ) (old m : Marks) : Type 0 where
  pub same_start : m.start ≡ old.start
  pub same_states : states_of m ≡ states_of old
  pub same_v : (t : ℕ) → v_of m t ≡ v_of old t
  pub recomputed : (t j : ℕ) → j < i → slice_index touched j ≡ t → t ≢ old.start
      → IsRecomputed n (v_of old) t (g_of m t) (back_of m t)
  pub others : (t : ℕ) → ((j : ℕ) → j < i → slice_index touched j ≢ t) → row_at m t ≡ row_at old t
  pub start_row : row_at m old.start ≡ row_at old old.start
  pub fits : (count : ℕ) → FitCount (states_of old) (g_of old) (v_of old) count
      → FitCount (states_of old) (g_of m) (v_of m) count

module _ {n : Network} {touched : List ℕ} {old m m' : Marks} (i : ℕ) where
  -- the next touched state is the start
  pub repaired_start : AreRepairedBelow n touched i old m → slice_index touched i ≡ m.start → m' ≡ m
      → AreRepairedBelow n touched (i + 1) old m'
  repaired_start here at same =
      let more : AreRepairedBelow n touched (i + 1) old m = record {
        same_start = here.same_start;
        same_states = here.same_states;
        same_v = here.same_v;
        recomputed = λ t j below own apart.
            ⊎_elim
            (λ (e : j ≡ i).
            let own_i : slice_index touched i ≡ t = rw e at own in absurd (apart (sym own_i ∙ at ∙ here.same_start)))
            (λ (before : j ≢ i). here.recomputed t j (omega arith) own apart)
            (cases_eq j i);
        others = λ t none. here.others t (λ j below. none j (omega arith));
        start_row = here.start_row;
        fits = here.fits;
      } in
      rw same more

  -- the next touched state is another
  pub repaired_other : AreRepairedBelow n touched i old m → slice_index touched i ≢ m.start
      → Recomputes n m m' (slice_index touched i)
      → ((count : ℕ) → FitCount (states_of m) (g_of m) (v_of m) count
      → FitCount (states_of m) (g_of m') (v_of m') count)
      → AreRepairedBelow n touched (i + 1) old m'
  repaired_other here apart by fits =
      let same_v : (t : ℕ) → v_of m' t ≡ v_of m t =
      λ t.
      ⊎_elim
      (λ (at : t ≡ slice_index touched i). rw at by.same_v)
      (λ (other : t ≢ slice_index touched i). ap (λ (r : Row). r.v) (by.others t other))
      (cases_eq t (slice_index touched i)) in
      record {
        same_start = by.same_start ∙ here.same_start;
        same_states = by.same_states ∙ here.same_states;
        same_v = λ t. same_v t ∙ here.same_v t;
        recomputed = λ t j below own not_start.
            ⊎_elim
            (λ (at : t ≡ slice_index touched i).
            rw at (recomputed_alike _ _ _ _ _ (back_of m' (slice_index touched i))
            (λ u. sym (here.same_v u)) by.recomputed))
            (λ (other : t ≢ slice_index touched i).
            let before : j ≢ i = λ e. other (sym own ∙ ap (λ k. slice_index touched k) e) in
            subst (λ (r : Row). IsRecomputed n (v_of old) t r.g r.back) (sym (by.others t other))
            (here.recomputed t j (omega arith) own not_start))
            (cases_eq t (slice_index touched i));
        others = λ t none.
            let other : t ≢ slice_index touched i = λ e. none i (omega arith) (sym e) in
            by.others t other ∙ here.others t (λ j below. none j (omega arith));
        start_row =
            let other : old.start ≢ slice_index touched i = λ e. apart (sym e ∙ sym here.same_start) in
            by.others old.start other ∙ here.start_row;
        fits = λ count fit.
            let now = here.fits count fit in
            rw (← here.same_states) (fits count (rw here.same_states now));
      }

  pub repaired_more : AreRepairedBelow n touched i old m
      → (slice_index touched i ≢ m.start → Recomputes n m m' (slice_index touched i))
      → (slice_index touched i ≡ m.start → m' ≡ m)
      → ((count : ℕ) → FitCount (states_of m) (g_of m) (v_of m) count
      → FitCount (states_of m) (g_of m') (v_of m') count)
      → AreRepairedBelow n touched (i + 1) old m'
  repaired_more here by same fits =
      ⊎_elim
      (λ at. repaired_start here at (same at))
      (λ apart. repaired_other here apart (by apart) fits)
      (cases_eq (slice_index touched i) m.start)

-- after the last one all are recomputed
pub repaired_all : {n : Network} {touched : List ℕ} {old new : Marks}
    → AreRepairedBelow n touched (length touched) old new
    → AreRepaired n touched old new
repaired_all {n} {touched} {old} {new} here = record {
  same_start = here.same_start;
  same_states = here.same_states;
  same_v = here.same_v;
  recomputed = λ t among apart.
      let own : slice_index touched among.0 ≡ t = get_or_default touched among.0 0 t among.1 ∙ among.2 in
      recomputed_alike _ _ _ _ _ (back_of new t) here.same_v (here.recomputed t among.0 among.1 own apart);
  others = λ t none.
      here.others t (λ j below own. none (j, below, get_or_default touched j t 0 below ∙ own));
  start_row = here.start_row;
}

-- where no state was underconsistent, only touched ones are
pub only_touched : (n : Network) (touched : List ℕ) (old new : Marks) → AreRepaired n touched old new
    → NoneUnder (states_of old) (g_of old) (v_of old) → (s : ℕ) → s < states_of old → IsUnder new s → Contains touched s
only_touched n touched old new repaired none s inside under =
    ⊎_elim
    (λ (among : Contains touched s). among)
    (λ (apart : Contains touched s → ⊥).
    let same : g_of new s ≡ g_of old s = ap (λ (r : Row). r.g) (repaired.others s apart) in
    absurd (omega (arith, same, repaired.same_v s, none.at s inside)))
    (contains_or_not touched s)

-- only touched states become overconsistent
pub over_or_touched : (n : Network) (touched : List ℕ) (old new : Marks) → AreRepaired n touched old new
    → (s : ℕ) → IsOver new s → IsOver old s ⊎ Contains touched s
over_or_touched n touched old new repaired s over =
    ⊎_elim
    (λ (among : Contains touched s). inr among)
    (λ (apart : Contains touched s → ⊥).
    let same : g_of new s ≡ g_of old s = ap (λ (r : Row). r.g) (repaired.others s apart) in
    inl (omega (arith, same, repaired.same_v s, over)))
    (contains_or_not touched s)
