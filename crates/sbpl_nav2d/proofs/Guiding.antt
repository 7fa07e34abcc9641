-- Octile distances guide to each state of a grid.
use Rattle.std.proofs.Common.{◌≡◌, ℕ, ◌*◌, ◌<◌, sym, subst, ◌∙◌}
use Rattle.sbpl_nav2d.specs.Gap.{gap_of}
use Rattle.sbpl_nav2d.specs.Guides.{OctileTo, IsGuideTo}
use Rattle.sbpl_nav2d.specs.World.{GridWorld, IsGridWorld}
use Rattle.sbpl_nav2d.specs.Grids.{network_of}
use Rattle.sbpl_nav2d.proofs.GraphLaws.{gaps}
use Rattle.sbpl_nav2d.proofs.Networks.{states_are, gap_is}

-- by gaps that are the graph's
guide_to : (w : GridWorld) → IsGridWorld w → (goal : ℕ) → goal < (network_of w).states
    → IsGuideTo (record { width = w.map.width; goal = goal }) (network_of w) goal
guide_to w is_world goal inside =
    let law = gaps w is_world in
    let same : (s : ℕ) → gap_of w.map.width s goal ≡ (network_of w).gap s goal = λ s. sym (gap_is w s goal) in
    record {
      gaps = same;
      consistent = record {
        at_goal = same goal ∙ law.to_itself goal inside;
        along = λ s k t c arc. rw (same s, same t) (law.along s k t c goal arc inside);
      };
      bounded = λ s below. rw same (law.small s goal below inside);
    }

-- a guide that has the environment's width
pub guides : (w : GridWorld) (o : OctileTo) → IsGridWorld w → o.width ≡ w.env.width
    → o.goal < w.env.width * w.env.height → IsGuideTo o (network_of w) o.goal
guides w o is_world width inside =
    let below : o.goal < (network_of w).states = rw (states_are, is_world.width, is_world.height) inside in
    let same : w.map.width ≡ o.width = is_world.width ∙ sym width in
    subst (λ n. IsGuideTo (record { width = n; goal = o.goal }) (network_of w) o.goal) same
    (guide_to w is_world o.goal below)
