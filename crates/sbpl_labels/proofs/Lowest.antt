-- The least over all states, one state at a time, and what it shows.
use Rattle.std.proofs.Common.{◌≡◌, ◌≢◌, ℕ, ◌+◌, ◌≤◌, List, min, arith, below_more}
use Rattle.sbpl_graph.specs.Network.{Network}
use Rattle.sbpl_graph.specs.Laws.{IsSound, IsConsistent}
use Rattle.sbpl_graph.specs.Path.{IsFreePath}
use Rattle.sbpl_graph.specs.Bound.{IsLow}
use Rattle.sbpl_graph.specs.Certificate.{AreSupported}
use Rattle.sbpl_graph.proofs.Paths.{bound_holds_lem, none_holds_lem}
use Rattle.sbpl_labels.specs.CutOff.{IsCutOff}

module _ {goal : ℕ} {g v h : ℕ → ℕ} where
  pub low_of_none : IsLow 0 goal g v h (g goal)
  low_of_none = record {
    at_goal = omega arith;
    unsettled = λ s inside differ. absurd (omega arith);
    greatest = λ x at_goal others. at_goal;
  }

  pub low_kept : {s low : ℕ} (least : ℕ) → IsLow s goal g v h low → v s ≡ g s → least ≡ low
      → IsLow (s + 1) goal g v h least
  low_kept {s} {low} least is same e = record {
    at_goal = let at_goal = is.at_goal in omega arith;
    unsettled =
        below_more (λ k. v k ≢ g k → least ≤ g k + h k) s
        (λ k inside differ. let above = is.unsettled k inside differ in omega arith)
        (λ differ. absurd (differ same));
    greatest =
        λ x at_goal others. let below = is.greatest x at_goal (λ k inside. others k (omega arith)) in omega arith;
  }

  pub low_lowered : {s low : ℕ} (least : ℕ) → IsLow s goal g v h low → v s ≢ g s → least ≡ min low (g s + h s)
      → IsLow (s + 1) goal g v h least
  low_lowered {s} {low} least is differ e = record {
    at_goal = let at_goal = is.at_goal in omega arith;
    unsettled =
        below_more (λ k. v k ≢ g k → least ≤ g k + h k) s
        (λ k inside other. let above = is.unsettled k inside other in omega arith)
        (λ other. omega arith);
    greatest = λ x at_goal others.
        let below = is.greatest x at_goal (λ k inside. others k (omega arith)) in
        let here = others s (omega arith) differ in
        omega arith;
  }

  -- the low of supported labels is at most the cost of each free path to the goal
  pub low_bounds : {low states : ℕ} (n : Network) (start : ℕ) → n.states ≡ states → IsSound n → IsConsistent n goal h
      → AreSupported n start g v → IsLow states goal g v h low
      → (arcs : List ℕ) (cost : ℕ) → IsFreePath n start arcs goal cost → low ≤ cost
  low_bounds {low} n start same sound consistent supported is =
      bound_holds_lem n start goal low g v h sound
      (record {
        supported = supported;
        consistent = consistent;
        at_goal = is.at_goal;
        unsettled = λ s inside differ. is.unsettled s (omega arith) differ;
      })

-- supported labels by which the goal is cut off leave no free path to it
pub cut_off_leaves_none : {goal states : ℕ} {g v : ℕ → ℕ} (n : Network) (start : ℕ) → n.states ≡ states → IsSound n
    → AreSupported n start g v → IsCutOff states goal g v → (arcs : List ℕ) (cost : ℕ)
    → IsFreePath n start arcs goal cost → ⊥
cut_off_leaves_none {goal} {states} {g} {v} n start same sound supported cut =
    none_holds_lem n start goal g v sound
    (record {
      supported = supported;
      goal_is_far = cut.goal_is_far;
      closed = λ s inside near. cut.closed s (omega arith) near;
    })
