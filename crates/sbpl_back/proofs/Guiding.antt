-- The gap from a robot's state guides over the reversed graph.
use Rattle.std.proofs.Common.{◌≡◌, ℕ, ◌^◌, ◌<◌, ap, sym, subst, arith}
use Rattle.sbpl_cost.specs.sbpl_graph.Laws.{HasExactTails, HasGaps, IsConsistent}
use Rattle.sbpl_cost.specs.Lattices.{LatticeGapsRise, network_of}
use Rattle.sbpl_cost.specs.States.{state_count}
use Rattle.sbpl_cost.specs.World.{IsWorld, World}
use Rattle.sbpl_back.specs.Reversed.{reversed}
use Rattle.sbpl_back.specs.Starts.{IsGuideFrom, IsMadeFrom, StartIn, from_start}
use Rattle.sbpl_back.proofs.Turning.{free_of_reversed}

pub guides_from : (w : World) (f : StartIn) (start : ℕ) → IsWorld w → HasExactTails (network_of w) → HasGaps (network_of w)
    → LatticeGapsRise → start < (network_of w).states → state_count f.gaps.env ≡ (network_of w).states
    → from_start f ≡ (network_of w).gap start
    → IsGuideFrom f (reversed (network_of w)) start
guides_from w f start is_world tails gaps rise state count gap = record {
  states = sym count;
  small = λ s inside. subst (λ (h : ℕ → ℕ). h s < 2 ^ 55) (sym gap) (gaps.small start s state inside);
  consistent = subst (λ (h : ℕ → ℕ). IsConsistent (reversed (network_of w)) start h) (sym gap) (record {
    at_goal = gaps.to_itself start state;
    along = λ t j s c free.
        let arc = free_of_reversed (network_of w) tails t j s c free in
        let up = rise w is_world s arc.0 t c start arc.2 state in
        omega (arith, up);
  });
}

-- so it is made for the world
pub made_from : (w : World) (f : StartIn) (start : ℕ) → f.start ≡ start → from_start f ≡ (network_of w).gap start
    → IsGuideFrom f (reversed (network_of w)) start → IsMadeFrom f w start
made_from w f start same gap guides =
    record { start = same; gaps = λ s inside. ap (λ (h : ℕ → ℕ). h s) gap; guides = guides }
