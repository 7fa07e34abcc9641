-- The tails of the graph of two states.
use Rattle.std.proofs.Common.{◌≡◌, ℕ, ◌-◌, Some, arith, ap, ◌∙◌, sym}
use Rattle.std.proofs.lemmas.Grind.{merely}
use Rattle.std.proofs.lemmas.Option.{same_Some}
use Rattle.sbpl_plan.specs.sbpl_graph.Laws.{HasExactTails, IsTail}
use Rattle.sbpl_plan.specs.sbpl_graph.Network.{IsArc}
use Rattle.tests_maps.specs.Pair.{pair}

tail_is_arc : (t j s k : ℕ) → IsTail pair t j s k → IsArc pair s k t
tail_is_arc t j s k tail =
    let same = same_Some (1 - t, j) (s, k) tail.tail in
    let state : 1 - t ≡ s = ap (λ (a : ℕ × ℕ). a.0) same in
    let number : j ≡ k = ap (λ (a : ℕ × ℕ). a.1) same in
    let back : 1 - s ≡ t = omega (arith, state, tail.target) in
    record {
      source = omega (arith, state);
      number = omega (arith, number, tail.number);
      head = ap (λ (n : ℕ). Some n) back;
    }

tail_of_arc : (t s k : ℕ) → IsArc pair s k t → (j : ℕ) × IsTail pair t j s k
tail_of_arc t s k arc =
    let head : 1 - s ≡ t = same_Some (1 - s) t arc.head in
    let state : 1 - t ≡ s = omega (arith, head, arc.source) in (
      k,
      record {
        target = omega (arith, head);
        number = omega (arith, arc.number);
        tail = ap (λ (n : ℕ). Some (n, k)) state;
      },
    )

same_number : (t i j s k : ℕ) → IsTail pair t i s k → IsTail pair t j s k → i ≡ j
same_number t i j s k first second =
    ap (λ (a : ℕ × ℕ). a.1) (same_Some (1 - t, i) (s, k) first.tail ∙ sym (same_Some (1 - t, j) (s, k) second.tail))

pub pair_tails : HasExactTails pair
pair_tails = record {
  few_tails = λ t state. omega arith;
  tails_are_arcs = tail_is_arc;
  arcs_are_tails = λ t s k arc. merely (tail_of_arc t s k arc);
  tails_differ = same_number;
}
