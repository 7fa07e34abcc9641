-- Labels fit the count of expansions.
use Rattle.std.proofs.Common.{◌≡◌, ◌≢◌, ℕ, ◌+◌, ◌^◌, ◌<◌, ◌≤◌, Option, arith, ⊎_elim}
use Rattle.std.proofs.lemmas.Bool.{cases_eq}
use Rattle.sbpl_graph.specs.declared.TheConstants.{FAR}
use Rattle.sbpl_graph.specs.Fit.{FitCount}
use Rattle.sbpl_graph.specs.Kept.{SettlesState, LowersState}

-- labels that fit a count fit every greater one
pub fit_more : {states : ℕ} {g v : ℕ → ℕ} {count : ℕ} (more : ℕ) → FitCount states g v count → count ≤ more
    → FitCount states g v more
fit_more more fit above = record {
  near_g = λ s inside near. omega (arith, fit.near_g s inside near);
  near_v = λ s inside near. omega (arith, fit.near_v s inside near);
}

-- opened labels fit 0
pub fit_opened : {states start : ℕ} {g v : ℕ → ℕ} → g start ≡ 0 → ((s : ℕ) → s < states → s ≢ start → g s ≡ FAR)
    → ((s : ℕ) → s < states → v s ≡ FAR) → FitCount states g v 0
fit_opened {start = start} {g = g} from_start far_g far_v = record {
  near_g = λ s inside near.
      ⊎_elim
      (λ (at : s ≡ start). let zero_here : g s ≡ 0 = rw at from_start in omega arith)
      (λ (apart : s ≢ start). absurd (omega (arith, far_g s inside apart)))
      (cases_eq s start);
  near_v = λ s inside near. absurd (omega (arith, far_v s inside));
}

-- a settled label fits one expansion more
pub fit_settled : {states : ℕ} {g v : ℕ → ℕ} {back : ℕ → Option (ℕ × ℕ)} {g' v' : ℕ → ℕ}
    {back' : ℕ → Option (ℕ × ℕ)} {count : ℕ} (s : ℕ)
    → FitCount states g v count → SettlesState g v back g' v' back' s → FitCount states g' v' (count + 1)
fit_settled {g = g} {v = v} {g' = g'} {v' = v'} {count = count} s fit settles = record {
  near_g = λ u inside near. omega (arith, settles.same_g u, fit.near_g u inside (omega (arith, settles.same_g u)));
  near_v = λ u inside near.
      ⊎_elim
      (λ (at : u ≡ s).
      let now : v' u ≡ g u = rw at settles.settled in
      omega (arith, fit.near_g u inside (omega arith)))
      (λ (apart : u ≢ s).
      let same = settles.other_v u apart in
      omega (arith, fit.near_v u inside (omega arith)))
      (cases_eq u s);
}

-- a label that is lowered by one arc from a finite v still fits
pub fit_lowered : {states : ℕ} {g v : ℕ → ℕ} {back : ℕ → Option (ℕ × ℕ)} {g' v' : ℕ → ℕ} {back' : ℕ → Option (ℕ × ℕ)}
    {count : ℕ} (t s k c : ℕ)
    → FitCount states g v count → s < states → v s < FAR → c < 2 ^ 32 → LowersState g v back g' v' back' t s k (v s + c)
    → FitCount states g' v' count
fit_lowered {g = g} {v = v} {g' = g'} {v' = v'} {count = count} t s k c fit source near small lowers = record {
  near_g = λ u inside near'.
      ⊎_elim
      (λ (at : u ≡ t).
      let now : g' u ≡ v s + c = rw at lowers.lowered in
      omega (arith, fit.near_v s source near))
      (λ (apart : u ≢ t).
      let same = lowers.other_g u apart in
      omega (arith, fit.near_g u inside (omega arith)))
      (cases_eq u t);
  near_v = λ u inside near'.
      let same = lowers.same_v u in
      omega (arith, fit.near_v u inside (omega arith));
}

-- within a run's expansions a way over one more arc is a label
pub fit_small : {states : ℕ} {g v : ℕ → ℕ} {count : ℕ} (s c : ℕ) → FitCount states g v count
    → count ≤ 2 ^ 30 → s < states
    → v s < FAR → c < 2 ^ 32 → v s + c < 2 ^ 62
fit_small s c fit few inside near small = omega (arith, fit.near_v s inside near)
