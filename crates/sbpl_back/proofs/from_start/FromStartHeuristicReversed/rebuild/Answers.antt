use Rattle.std.proofs.Common.{◌≡◌, ℕ, ◌<◌, ◌∙◌, sym, subst}
use Rattle.sbpl_cost.specs.Lattices.{network_of, states_are}
use Rattle.sbpl_cost.specs.States.{state_count}
use Rattle.sbpl_cost.specs.World.{World, over_map}
use Rattle.sbpl_back.specs.Starts.{StartIn}
use Rattle.sbpl_back.proofs.from_start.FromStartHeuristicReversed.rebuild.Goals as goal

pub new-requires : goal.new-requires
new-requires c =
    let w = c.args.world.now in
    let made = c.requires.made in
    let f = c.args.self.now in
    let count : (network_of w).states ≡ state_count f.gaps.env =
    states_are w ∙ sym (states_are (over_map w made.0)) ∙ made.2.guides.states in
    record {
      start =
          subst (λ (v : World). c.self.inside.start < (network_of v).states) (sym c.lattice.ensures.lattice)
          (subst (λ (n : ℕ). c.self.inside.start < n) (sym count)
          (subst (λ (x : StartIn). c.self.inside.start < state_count x.gaps.env) c.self.view_is c.self.invariant.0));
    }
