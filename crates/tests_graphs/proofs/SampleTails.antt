-- The tails of the sample graph.
use Rattle.std.proofs.Common.{◌≡◌, ℕ, ◌+◌, ◌*◌, ◌/◌, ◌%◌, ◌<◌, ◌≤◌, ◌==◌, Option, Some, List, slice_index_or, nat_lt}
use Rattle.std.proofs.Common.{ap, sym, ◌∙◌, arith}
use Rattle.std.proofs.lemmas.Bool.{eqb-true, eq-eqb, ltb-true, lt-ltb, cond-true}
use Rattle.std.proofs.lemmas.Grind.{merely}
use Rattle.std.proofs.lemmas.Option.{cond_some}
use Rattle.sbpl_plan.specs.sbpl_graph.Network.{IsArc}
use Rattle.sbpl_plan.specs.sbpl_graph.Laws.{IsTail, HasExactTails}
use Rattle.tests_graphs.specs.Sample.{counted}

-- the head of the arc at this place
abbrev head_at : List (ℕ × ℕ) → ℕ → ℕ
head_at arcs j = (slice_index_or arcs j (6, 0)).0

abbrev pair_of : ℕ → ℕ × ℕ
pair_of j = (j / 2, j % 2)

record IsAt (arcs : List (ℕ × ℕ)) (t j s k : ℕ) : Type 0 where
  pub head : head_at arcs j ≡ t
  pub state : j / 2 ≡ s
  pub number : j % 2 ≡ k

module _ (count : ℕ) (arcs : List (ℕ × ℕ)) (heights : List ℕ) where
  tail_at : (t j s k : ℕ) → IsTail (counted count arcs heights) t j s k → IsAt arcs t j s k
  tail_at t j s k tail =
      let parts = cond_some {A = ℕ × ℕ} (head_at arcs j == t) (pair_of j) (s, k) tail.tail in
      record {
        head = eqb-true (head_at arcs j) t parts.0;
        state = ap (λ (p : ℕ × ℕ). p.0) parts.1;
        number = ap (λ (p : ℕ × ℕ). p.1) parts.1;
      }

  tail_is_arc : (t j s k : ℕ) → IsTail (counted count arcs heights) t j s k → IsArc (counted count arcs heights) s k t
  tail_is_arc t j s k tail =
      let at = tail_at t j s k tail in
      let place : j ≡ 2 * s + k = omega (arith, at.state, at.number) in
      let head : head_at arcs (2 * s + k) ≡ t = ap (head_at arcs) (sym place) ∙ at.head in
      let inside : head_at arcs (2 * s + k) < count = omega (arith, head, tail.target) in
      record {
        source = omega (arith, tail.number, place);
        number = omega (arith, at.number);
        head = cond-true (nat_lt (head_at arcs (2 * s + k)) count) _ _ (lt-ltb _ _ inside) ∙ ap (λ n. Some n) head;
      }

  tail_of_arc : (t s k : ℕ) → IsArc (counted count arcs heights) s k t
      → (j : ℕ) × IsTail (counted count arcs heights) t j s k
  tail_of_arc t s k arc =
      let parts = cond_some (nat_lt (head_at arcs (2 * s + k)) count) (head_at arcs (2 * s + k)) t arc.head in
      let inside = ltb-true _ _ parts.0 in
      let state : (2 * s + k) / 2 ≡ s = omega (arith, arc.number) in
      let number : (2 * s + k) % 2 ≡ k = omega (arith, arc.number) in
      let by_state : ℕ → Option (ℕ × ℕ) = λ n. Some (n, (2 * s + k) % 2) in
      let by_number : ℕ → Option (ℕ × ℕ) = λ n. Some (s, n) in (
        2 * s + k,
        record {
          target = omega (arith, inside, parts.1);
          number = omega (arith, arc.source, arc.number);
          tail =
              cond-true (head_at arcs (2 * s + k) == t) _ _ (eq-eqb _ _ parts.1)
              ∙ ap by_state state ∙ ap by_number number;
        },
      )

  tails_differ : (t i j s k : ℕ) → IsTail (counted count arcs heights) t i s k
      → IsTail (counted count arcs heights) t j s k → i ≡ j
  tails_differ t i j s k first second =
      let a = tail_at t i s k first in
      let b = tail_at t j s k second in
      omega (arith, a.state, a.number, b.state, b.number)

  -- the tails of a state are exactly the arcs that lead to it
  pub exact_tails : count ≤ 6 → HasExactTails (counted count arcs heights)
  exact_tails few = record {
    few_tails = λ t _. omega (arith, few);
    tails_are_arcs = tail_is_arc;
    arcs_are_tails = λ t s k arc. merely (tail_of_arc t s k arc);
    tails_differ = tails_differ;
  }
