-- No state is taken more than three times: raised and lowered before it is closed, and raised once more.
use Rattle.std.proofs.Common.{◌≡◌, ◌≢◌, ℕ, zero, suc, ◌+◌, ◌*◌, ◌<◌, ◌≤◌, Bool, true, false, cond, nat_eq, nat_lt, List}
use Rattle.std.proofs.Common.{[], ◌∷◌, ◌++◌, length, arith, ⊎_elim, refl, sym, ◌∙◌, ap, length-append}
use Rattle.std.proofs.lemmas.Bool.{cases_eq, eq-eqb, ne_eqb}
use Rattle.std.proofs.lemmas.Bool.Decides.{nat_tests}
use Rattle.sbpl_search.specs.sbpl_graph.declared.TheConstants.{FAR}
use Rattle.sbpl_serial.specs.declared.step.Step.{Step}
use Rattle.sbpl_serial.specs.Times.{times}

-- how often a state can still be taken, by whether it is closed and by its v
abbrev pub left : Bool → ℕ → ℕ
left closed v = cond closed 0 2 + cond (nat_lt v FAR) 1 0

pub left_few : (closed : Bool) (v : ℕ) → left closed v ≤ 3
left_few true v = grind (arith, nat_tests)
left_few false v = grind (arith, nat_tests)

pub left_near : (closed : Bool) (v : ℕ) → v < FAR → 1 ≤ left closed v
left_near true v near = grind (arith, nat_tests)
left_near false v near = grind (arith, nat_tests)

-- it is fewer once a state is lowered, and once it is raised
pub left_lowered : (was is : Bool) (v v' : ℕ) → was ≡ false → is ≡ true → left is v' + 1 ≤ left was v
left_lowered was is v v' fresh closed = rw (fresh, closed) (grind (arith, nat_tests))

pub left_raised : (was is : Bool) (v v' : ℕ) → is ≡ was → v < FAR → v' ≡ FAR → left is v' + 1 ≤ left was v
left_raised true is v v' same near far = rw (same, far) (grind (arith, nat_tests))
left_raised false is v v' same near far = rw (same, far) (grind (arith, nat_tests))

-- f 0, f 1 and so on, n of them, added
abbrev pub sum_below : (ℕ → ℕ) → ℕ → ℕ
sum_below f zero = 0
sum_below f (suc n) = sum_below f n + f n

pub sum_same : (f f' : ℕ → ℕ) (s n : ℕ) → n ≤ s → ((u : ℕ) → u ≢ s → f' u ≡ f u) → sum_below f' n ≡ sum_below f n
sum_same f f' s zero past others = refl
sum_same f f' s (suc n) past others = omega (arith, sum_same f f' s n (omega arith) others, others n (omega arith))

pub sum_less : (f f' : ℕ → ℕ) (s n : ℕ) → s < n → f' s + 1 ≤ f s → ((u : ℕ) → u ≢ s → f' u ≡ f u)
    → sum_below f' n + 1 ≤ sum_below f n
sum_less f f' s zero inside less others = absurd (omega arith)
sum_less f f' s (suc n) inside less others =
    ⊎_elim
    (λ (at : n ≡ s). let here : f' n + 1 ≤ f n = rw at less in omega (arith, sum_same f f' s n (omega arith) others))
    (λ (apart : n ≢ s). omega (arith, sum_less f f' s n (omega arith) less others, others n apart))
    (cases_eq n s)

pub sum_few : (f : ℕ → ℕ) (n : ℕ) → ((u : ℕ) → f u ≤ 3) → sum_below f n ≤ 3 * n
sum_few f zero few = omega arith
sum_few f (suc n) few = omega (arith, sum_few f n few, few n)

pub sum_some : (f : ℕ → ℕ) (s n : ℕ) → s < n → f s ≤ sum_below f n
sum_some f s zero inside = absurd (omega arith)
sum_some f s (suc n) inside =
    ⊎_elim (λ (at : n ≡ s). rw at (omega arith))
    (λ (apart : n ≢ s). omega (arith, sum_some f s n (omega arith))) (cases_eq n s)

-- one more step
pub times_push : (s : ℕ) (steps : List Step) (step : Step)
    → times s (steps ++ step ∷ []) ≡ times s steps + cond (nat_eq step.state s) 1 0
times_push s [] step = omega arith
times_push s (first ∷ rest) step = omega (arith, times_push s rest step)

-- each state was taken at most as often as it may be, and so it stays
pub record AreCounted (states : ℕ) (trace : List Step) (closed : ℕ → Bool) (v : ℕ → ℕ) : Type 0 where
  pub each : (s : ℕ) → times s trace + left (closed s) (v s) ≤ 3
  pub total : length trace + sum_below (λ s. left (closed s) (v s)) states ≤ 3 * states

pub counted_none : {states : ℕ} {trace : List Step} (closed : ℕ → Bool) (v : ℕ → ℕ) → trace ≡ []
    → AreCounted states trace closed v
counted_none {states} {trace} closed v empty =
    let none : length trace ≡ 0 = rw empty refl in
    record {
      each = λ s. rw empty (omega (arith, left_few (closed s) (v s)));
      total = omega (arith, sum_few (λ s. left (closed s) (v s)) states (λ s. left_few (closed s) (v s)));
    }

pub counted_more : {states : ℕ} {trace trace' : List Step} {closed closed' : ℕ → Bool} {v v' : ℕ → ℕ} (step : Step)
    → AreCounted states trace closed v
    → step.state < states → left (closed' step.state) (v' step.state) + 1 ≤ left (closed step.state) (v step.state)
    → ((u : ℕ) → u ≢ step.state → closed' u ≡ closed u) → ((u : ℕ) → u ≢ step.state → v' u ≡ v u)
    → trace' ≡ trace ++ step ∷ [] → AreCounted states trace' closed' v'
counted_more {states} {trace} {trace'} {closed} {closed'} {v} {v'} step counted inside less same_closed same_v pushed =
    let same : (u : ℕ) → u ≢ step.state → left (closed' u) (v' u) ≡ left (closed u) (v u) =
    λ u apart. rw (same_closed u apart, same_v u apart) refl in
    let longer : length trace' ≡ length trace + 1 = ap length pushed ∙ length-append trace (step ∷ []) in
    record {
      each = λ s.
          let more : times s trace' ≡ times s trace + cond (nat_eq step.state s) 1 0 =
          ap (times s) pushed ∙ times_push s trace step in
          ⊎_elim
          (λ (at : step.state ≡ s).
          let test : nat_eq step.state s ≡ true = eq-eqb step.state s at in
          let one : times s trace' ≡ times s trace + 1 = rw (more, test) refl in
          let fewer : left (closed' s) (v' s) + 1 ≤ left (closed s) (v s) = rw (← at) less in
          omega (arith, counted.each s))
          (λ (apart : step.state ≢ s).
          let test : nat_eq step.state s ≡ false = ne_eqb step.state s apart in
          let none : times s trace' ≡ times s trace + 0 = rw (more, test) refl in
          omega (arith, counted.each s, same s (λ e. apart (sym e))))
          (cases_eq step.state s);
      total =
          omega (
            arith,
            counted.total,
            sum_less (λ s. left (closed s) (v s)) (λ s. left (closed' s) (v' s)) step.state states inside less same,
          );
    }

-- where a state can still be taken there is room for its step
pub counted_room : {states : ℕ} {trace : List Step} {closed : ℕ → Bool} {v : ℕ → ℕ} (s : ℕ)
    → AreCounted states trace closed v
    → s < states → 1 ≤ left (closed s) (v s) → length trace < 3 * states
counted_room {states} {trace} {closed} {v} s counted inside some =
    omega (arith, counted.total, sum_some (λ s. left (closed s) (v s)) s states inside)
