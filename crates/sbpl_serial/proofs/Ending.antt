-- How a pass ends.
use Rattle.std.proofs.Common.{◌≡◌, ℕ, ◌+◌, ◌*◌, ◌<◌, ◌≤◌, ◌↔◌, Bool, false, ⊎_elim, inl, inr, refl, sym}
use Rattle.std.proofs.lemmas.Bool.{cases_lt}
use Rattle.sbpl_search.specs.sbpl_labels.declared.pass_end.PassEnd.TheVariants.{Rest, Spent}
use Rattle.sbpl_search.specs.sbpl_labels.Counts.{Counts, IsSpent}
use Rattle.sbpl_search.specs.sbpl_labels.Marks.{Marks, states_of, g_of}
use Rattle.sbpl_open.specs.KeyOrder.{IsBelow}
use Rattle.sbpl_search.specs.Query.{Query}
use Rattle.sbpl_serial.specs.Run.{IsOver, IsNext, IsAtRest, key_at, goal_key_at}
use Rattle.sbpl_serial.proofs.Keys.{key_over}

pub rest_not_spent : Rest ≡ Spent → ⊥
rest_not_spent e = cc

module _ {q : Query} {closed : ℕ → Bool} {m : Marks} where
  -- what a pass answers at rest
  pub rest_at_rest : IsAtRest q closed m → (Rest ≡ Rest) ↔ IsAtRest q closed m
  rest_at_rest rest = (λ _. rest, λ _. refl)

  pub spent_at_rest : {counts : Counts} → IsAtRest q closed m
      → (Rest ≡ Spent) ↔ (IsSpent counts × ((s : ℕ) × IsNext q closed m s))
  spent_at_rest rest =
      (λ e. absurd (rest_not_spent e), λ both. absurd (rest.none_below both.1.0 both.1.1.is_open both.1.1.below_goal))

  -- what it answers where a state is next and the budget is spent
  pub rest_at_next : {s : ℕ} → IsNext q closed m s → (Spent ≡ Rest) ↔ IsAtRest q closed m
  rest_at_next {s} next =
      (λ e. absurd (rest_not_spent (sym e)), λ rest. absurd (rest.none_below s next.is_open next.below_goal))

  pub spent_at_next : {counts : Counts} {s : ℕ} → IsSpent counts → IsNext q closed m s
      → (Spent ≡ Spent) ↔ (IsSpent counts × ((s : ℕ) × IsNext q closed m s))
  spent_at_next {counts} {s} spent next = (λ _. (spent, (s, next)), λ _. refl)

  -- at rest an overconsistent state that is not closed has a key that is not below the goal's
  pub rest_above : {s : ℕ} → IsAtRest q closed m → s < states_of m → IsOver m s → closed s ≡ false
      → 1000 * g_of m q.goal ≤ 1000 * g_of m s + q.eps * q.guide s
  rest_above {s} rest inside over fresh =
      ⊎_elim
      (λ (low : 1000 * g_of m s + q.eps * q.guide s < 1000 * g_of m q.goal).
      let below : IsBelow (key_at q.eps q.guide m s) (goal_key_at q m) =
      rw (key_over q.eps q.guide m s over) (inl low) in
      absurd (rest.none_below s (record { inside = inside; inconsistent = inr (over, fresh) }) below))
      (λ above. above)
      (cases_lt (1000 * g_of m s + q.eps * q.guide s) (1000 * g_of m q.goal))
