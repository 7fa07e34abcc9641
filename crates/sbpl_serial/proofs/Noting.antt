-- States are noted in the queue one after the other.
use Rattle.std.proofs.Common.{◌≡◌, ◌≢◌, ℕ, ◌+◌, ◌<◌, Bool, true, false, nat_eq, IsSome, List, [], ◌∷◌, ◌++◌, length}
use Rattle.std.proofs.Common.{slice_index, arith, ⊎_elim, sym, ◌∙◌, ap}
use Rattle.std.specs.List.{Contains}
use Rattle.std.proofs.lemmas.Bool.{cases_eq, or_cases, eqb-true}
use Rattle.std.proofs.lemmas.List.{get_or_default}
use Rattle.sbpl_search.specs.sbpl_labels.Marks.{Marks, g_of, v_of}
use Rattle.sbpl_open.specs.OpenList.{OpenList}
use Rattle.sbpl_open.specs.OpenList as open_list
use Rattle.sbpl_serial.specs.declared.step.Step.{Step}
use Rattle.sbpl_serial.specs.Queue.{is_among}
use Rattle.sbpl_serial.specs.Run.{IsOpen, IsOver, IsUnder}
use Rattle.sbpl_serial.proofs.Queueing.{among_push}

-- the first states of a list are noted, and none has left
pub record AreNoted (m : Marks) (states : List ℕ) (old now : OpenList) (i : ℕ) : Type 0 where
  pub size : open_list.states_of now ≡ open_list.states_of old
  pub kept : (s : ℕ) → IsSome (open_list.key_at old s) → IsSome (open_list.key_at now s)
  pub noted : (s j : ℕ) → j < i → slice_index states j ≡ s → g_of m s ≢ v_of m s → IsSome (open_list.key_at now s)

pub noted_more : {m : Marks} {states : List ℕ} {old now now' : OpenList} (i : ℕ) → AreNoted m states old now i
    → open_list.states_of now' ≡ open_list.states_of now
    → ((s : ℕ) → IsSome (open_list.key_at now s) → IsSome (open_list.key_at now' s))
    → (g_of m (slice_index states i) ≢ v_of m (slice_index states i)
    → IsSome (open_list.key_at now' (slice_index states i)))
    → AreNoted m states old now' (i + 1)
noted_more {m} {states} {old} {now} {now'} i here size kept own = record {
  size = size ∙ here.size;
  kept = λ s is. kept s (here.kept s is);
  noted = λ s j below at.
      ⊎_elim
      (λ (last : j ≡ i).
      let same : slice_index states i ≡ s = sym (ap (slice_index states) last) ∙ at in
      rw same at own)
      (λ (before : j ≢ i). λ differ. kept s (here.noted s j (omega arith) at differ))
      (cases_eq j i);
}

pub noted_all : {m : Marks} {states : List ℕ} {old now : OpenList} → AreNoted m states old now (length states)
    → (s : ℕ) → Contains states s → g_of m s ≢ v_of m s → IsSome (open_list.key_at now s)
noted_all {states = states} here s among =
    here.noted s among.0 among.1 (get_or_default states among.0 0 s among.1 ∙ among.2)

-- the states of some steps are noted, and none has left
pub record AreTakenNoted (m : Marks) (steps : List Step) (old now : OpenList) : Type 0 where
  pub size : open_list.states_of now ≡ open_list.states_of old
  pub kept : (s : ℕ) → IsSome (open_list.key_at old s) → IsSome (open_list.key_at now s)
  pub noted : (s : ℕ) → is_among steps s ≡ true → g_of m s ≢ v_of m s → IsSome (open_list.key_at now s)

pub taken_more : {m : Marks} {old now now' : OpenList} (steps : List Step) (step : Step) → AreTakenNoted m steps old now
    → open_list.states_of now' ≡ open_list.states_of now
    → ((s : ℕ) → IsSome (open_list.key_at now s) → IsSome (open_list.key_at now' s))
    → (g_of m step.state ≢ v_of m step.state → IsSome (open_list.key_at now' step.state))
    → AreTakenNoted m (steps ++ step ∷ []) old now'
taken_more {m} {old} {now} {now'} steps step here size kept own = record {
  size = size ∙ here.size;
  kept = λ s is. kept s (here.kept s is);
  noted = λ s is.
      ⊎_elim
      (λ (before : is_among steps s ≡ true). λ differ. kept s (here.noted s before differ))
      (λ (last : nat_eq step.state s ≡ true).
      let same : step.state ≡ s = eqb-true step.state s last in
      rw same at own)
      (or_cases _ _ (sym (among_push steps step s) ∙ is));
}

-- an open state is inconsistent
pub open_apart : {closed : ℕ → Bool} {m : Marks} {s : ℕ} → IsOpen closed m s → g_of m s ≢ v_of m s
open_apart {closed} {m} {s} it same =
    ⊎_elim
    (λ (under : IsUnder m s). omega arith)
    (λ (over : IsOver m s × (closed s ≡ false)). omega (arith, over.0))
    it.inconsistent
