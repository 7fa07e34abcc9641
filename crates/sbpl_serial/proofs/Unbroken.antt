-- At rest no state on the chain of back arcs from the goal is underconsistent.
use Rattle.std.proofs.Common.{◌≡◌, ◌≢◌, ℕ, zero, suc, ◌+◌, ◌<◌, ◌≤◌, Bool, Option, Some, None, arith, ⊎_elim, inl, refl}
use Rattle.std.proofs.Common.{sym, ◌∙◌, ap, option_map, option_and_then}
use Rattle.std.proofs.lemmas.Bool.{cases_lt}
use Rattle.std.proofs.lemmas.Option.{none-some, same_Some}
use Rattle.sbpl_search.specs.sbpl_graph.Laws.{IsSound, IsConsistent}
use Rattle.sbpl_search.specs.sbpl_graph.Exact.{AreExact}
use Rattle.sbpl_search.specs.sbpl_labels.Marks.{Marks, states_of, g_of, v_of, back_of}
use Rattle.sbpl_search.specs.sbpl_labels.Chain.{chain_at}
use Rattle.sbpl_open.specs.KeyOrder.{IsBelow}
use Rattle.sbpl_search.specs.Query.{Query}
use Rattle.sbpl_serial.specs.Run.{IsUnder, IsAtRest, key_at, goal_key_at}
use Rattle.sbpl_serial.proofs.Ordering.{key_under}

from_arc : (arc : Option (ℕ × ℕ)) (u : ℕ) → option_map (λ (a : ℕ × ℕ). a.0) arc ≡ Some u → (k : ℕ) × (arc ≡ Some (u, k))
from_arc None u is = absurd (none-some u is)
from_arc (Some (a, k)) u is = let same : a ≡ u = same_Some a u is in (k, ap (λ b. Some (b, k)) same)

-- the source of a back arc comes one place later on the chain
step_back : (back : ℕ → Option (ℕ × ℕ)) (before : Option ℕ) (u : ℕ)
    → option_and_then (λ s. option_map (λ (arc : ℕ × ℕ). arc.0) (back s)) before ≡ Some u
    → (p : ℕ) × (k : ℕ) × (before ≡ Some p) × (back p ≡ Some (u, k))
step_back back None u is = absurd (none-some u is)
step_back back (Some p) u is = (p, (from_arc (back p) u is).0, refl, (from_arc (back p) u is).1)

module _ {q : Query} {closed : ℕ → Bool} {m : Marks} (sound : IsSound q.network)
    (consistent : IsConsistent q.network q.goal q.guide)
    (exact : AreExact q.network m.start (g_of m) (v_of m) (back_of m)) (states : states_of m ≡ q.network.states)
    (goal : q.goal < states_of m) (rest : IsAtRest q closed m) where
  -- no underconsistent state has a v below g of the goal and v plus its guide at most g of the goal
  not_under : (u : ℕ) → u < states_of m
      → (IsUnder m u → (v_of m u + q.guide u ≤ g_of m q.goal) × (v_of m u < g_of m q.goal))
      → g_of m u ≤ v_of m u
  not_under u inside near =
      ⊎_elim
      (λ (under : IsUnder m u).
      let close = near under in
      let below : IsBelow (key_at q.eps q.guide m u) (goal_key_at q m) =
      rw (key_under q.eps q.guide m u under) (grind (arith, close)) in
      absurd (rest.none_below u (record { inside = inside; inconsistent = inl under }) below))
      (λ over. over)
      (cases_lt (v_of m u) (g_of m u))

  -- each state on the chain is not underconsistent, and its g plus its guide is at most g of the goal
  on_chain : (i u : ℕ) → chain_at (back_of m) q.goal i ≡ Some u
      → (u < states_of m) × (g_of m u ≤ v_of m u) × (g_of m u + q.guide u ≤ g_of m q.goal)
  on_chain zero u at =
      let same : q.goal ≡ u = same_Some q.goal u at in
      let over = not_under q.goal goal (λ under. (omega (arith, consistent.at_goal), under)) in
      rw (← same) (goal, over, omega (arith, consistent.at_goal))
  on_chain (suc i) u at =
      let back = step_back (back_of m) (chain_at (back_of m) q.goal i) u at in
      let before = on_chain i back.0 back.2 in
      let apart : back.0 ≢ m.start =
      λ e. none-some (u, back.1) (sym exact.none_at_start ∙ ap (λ x. back_of m x) (sym e) ∙ back.3) in
      let given = exact.gives back.0 u back.1 (omega (arith, before.0)) apart back.3 in
      let arc = given.1.free in
      let some = sound.cost_at_least_one u back.1 given.0 arc.source arc.number arc.cost in
      let falls = consistent.along u back.1 back.0 given.0 arc in
      let inside : u < states_of m = omega (arith, arc.source) in
      let over =
      not_under u inside (λ under. (omega (arith, given.1.sum, before.2), omega (arith, given.1.sum, before.2))) in
      (inside, over, omega (arith, given.1.sum, before.2))

  pub chain_unbroken : (i u : ℕ) → chain_at (back_of m) q.goal i ≡ Some u → g_of m u ≤ v_of m u
  chain_unbroken i u at = (on_chain i u at).1
