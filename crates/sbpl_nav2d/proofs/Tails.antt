-- The tails of a grid are its arcs the other way round.
use Rattle.std.proofs.Common.{◌≡◌, ℕ, ◌*◌, ◌<◌, Some, refl, ap, sym, ◌∙◌, arith}
use Rattle.std.proofs.lemmas.Grind.{merely}
use Rattle.sbpl_terrain.specs.sbpl_graph.Network.{IsArc}
use Rattle.sbpl_terrain.specs.sbpl_graph.Laws.{IsTail, HasExactTails}
use Rattle.sbpl_nav2d.specs.Directions.{direction, moved, moved_back}
use Rattle.sbpl_nav2d.specs.World.{GridWorld, IsGridWorld}
use Rattle.sbpl_nav2d.specs.Arc.{cell_of}
use Rattle.sbpl_nav2d.specs.Grids.{network_of, state_at}
use Rattle.sbpl_nav2d.proofs.Networks.{states_are, fan_is, head_is, tail_fan_is, tail_is, mapped_from}
use Rattle.sbpl_nav2d.proofs.Places.{found, state_here, back_again, forth_again}

-- arc k of state s comes to t as its tail j
pub record ComesBy (w : GridWorld) (t j s k : ℕ) : Type 0 where
  pub number : k ≡ j
  pub source : state_at w.map (moved_back (cell_of w t) (direction j)) ≡ Some s

pub comes_by : (w : GridWorld) (t j s k : ℕ) → (network_of w).tail t j ≡ Some (s, k) → ComesBy w t j s k
comes_by w t j s k e =
    let of = mapped_from _ _ (s, k) (sym (tail_is w t j) ∙ e) in
    let same : s ≡ of.0 = ap (λ (p : ℕ × ℕ). p.0) of.2 in
    record { number = ap (λ (p : ℕ × ℕ). p.1) of.2; source = of.1 ∙ ap Some (sym same) }

pub tail_from : (w : GridWorld) (t j s : ℕ) → state_at w.map (moved_back (cell_of w t) (direction j)) ≡ Some s
    → (network_of w).tail t j ≡ Some (s, j)
tail_from w t j s e = rw (tail_is w t j, e) refl

module _ (w : GridWorld) (is_world : IsGridWorld w) where
  tail_is_arc : (t j s k : ℕ) → IsTail (network_of w) t j s k → IsArc (network_of w) s k t
  tail_is_arc t j s k tail =
      let by = comes_by w t j s k tail.tail in
      let at = found w _ s by.source in
      let target : t < w.map.width * w.map.height = rw states_are at tail.target in
      let few : j < 8 = rw tail_fan_is at tail.number in
      let end : state_at w.map (moved (cell_of w s) (direction j)) ≡ Some t =
      ap (λ c. state_at w.map (moved c (direction j))) (sym at.is)
      ∙ ap (state_at w.map) (forth_again (cell_of w t) (direction j)) ∙ state_here w is_world t target in
      record {
        source = rw states_are at.inside;
        number = rw (fan_is, by.number) few;
        head = head_is w s k ∙ ap (λ n. state_at w.map (moved (cell_of w s) (direction n))) by.number ∙ end;
      }

  arc_is_tail : (t s k : ℕ) → IsArc (network_of w) s k t → IsTail (network_of w) t k s k
  arc_is_tail t s k arc =
      let at = found w _ t (sym (head_is w s k) ∙ arc.head) in
      let source : s < w.map.width * w.map.height = rw states_are at arc.source in
      let few : k < 8 = rw fan_is at arc.number in
      let start : state_at w.map (moved_back (cell_of w t) (direction k)) ≡ Some s =
      ap (λ c. state_at w.map (moved_back c (direction k))) (sym at.is)
      ∙ ap (state_at w.map) (back_again (cell_of w s) (direction k)) ∙ state_here w is_world s source in
      record { target = rw states_are at.inside; number = rw tail_fan_is few; tail = tail_from w t k s start }

  pub exact_tails : HasExactTails (network_of w)
  exact_tails = record {
    few_tails = λ t inside. rw tail_fan_is (omega arith);
    tails_are_arcs = tail_is_arc;
    arcs_are_tails = λ t s k arc. merely (k, arc_is_tail t s k arc);
    tails_differ = λ t i j s k a b. sym (comes_by w t i s k a.tail).number ∙ (comes_by w t j s k b.tail).number;
  }
