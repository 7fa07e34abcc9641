-- Closing states one by one.
use Rattle.std.proofs.Common.{◌≡◌, ◌≢◌, ℕ, ◌<◌, Bool, true, false, nat_eq, List, [], ◌∷◌, ◌++◌, length}
use Rattle.std.proofs.Common.{slice_set, ⊎_elim, refl, sym, ◌∙◌}
use Rattle.std.proofs.lemmas.Bool.{cases_eq, eq-eqb, ne_eqb}
use Rattle.std.proofs.lemmas.List.{get_or-set_same, get_or-set_other}
use Rattle.sbpl_serial.specs.declared.step.Step.{Step}
use Rattle.sbpl_serial.specs.Marked.{closed_at}
use Rattle.sbpl_serial.specs.Run.{closed_with, closed_after}

-- the expansion of an overconsistent state s
abbrev pub lowers : ℕ → Step
lowers s = record { state = s; raised = false }

-- a state closed by the last of the steps, or before
pub closed_after_push : (closed : ℕ → Bool) (steps : List Step) (step : Step) (u : ℕ)
    → closed_after closed (steps ++ step ∷ []) u ≡ closed_with step (closed_after closed steps) u
closed_after_push closed [] step u = refl
closed_after_push closed (first ∷ rest) step u = closed_after_push (closed_with first closed) rest step u

-- the list of tests follows the steps
pub closed_at_push : (tests : List Bool) (closed : ℕ → Bool) (steps : List Step) (s : ℕ) → s < length tests
    → ((u : ℕ) → closed_at tests u ≡ closed_after closed steps u)
    → (u : ℕ) → closed_at (slice_set tests s true) u ≡ closed_after closed (steps ++ lowers s ∷ []) u
closed_at_push tests closed steps s inside follows u =
    ⊎_elim
    (λ (at : u ≡ s).
    let same : closed_at (slice_set tests s true) u ≡ true = rw at (get_or-set_same tests s true false inside) in
    let test : nat_eq s u ≡ true = eq-eqb s u (sym at) in
    let after = closed_after_push closed steps (lowers s) u in
    same ∙ sym (after ∙ rw test refl))
    (λ (apart : u ≢ s).
    let same : closed_at (slice_set tests s true) u ≡ closed_at tests u = get_or-set_other tests s u true false apart in
    let test : nat_eq s u ≡ false = ne_eqb s u (λ e. apart (sym e)) in
    let after = closed_after_push closed steps (lowers s) u in
    same ∙ follows u ∙ sym (after ∙ rw test refl))
    (cases_eq u s)
