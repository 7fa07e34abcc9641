use Rattle.std.proofs.Common.{ℕ, ◌*◌, ◌<◌, ap, refl, sym, subst, ◌∙◌}
use Rattle.sbpl_nav2d.specs.Environment.{NavEnvironment}
use Rattle.sbpl_nav2d.specs.Grids.{network_of}
use Rattle.sbpl_nav2d.specs.Guides.{OctileTo}
use Rattle.sbpl_nav2d.specs.World.{GridWorld, IsGridWorld}
use Rattle.sbpl_nav2d.proofs.Networks.{states_of_env}
use Rattle.sbpl_nav2d.proofs.octile.OctileHeuristicNav.build.Goals as goal

inside : (w : GridWorld) (t : ℕ) → IsGridWorld w → t < (network_of w).states → t < w.env.width * w.env.height
inside w t is_world below = subst (λ (n : ℕ). t < n) (sym (states_of_env w is_world)) below

pub to-requires : goal.to-requires
to-requires c = record {
  state =
      subst (λ (e : NavEnvironment). c.args.goal < e.width * e.height) (sym c.env.ensures.env)
      (inside c.args.nav.now c.args.goal c.env.ensures.kept c.requires.goal);
}

pub returns : goal.returns
returns c = record {
  made = record {
    goal_is = ap (λ (o : OctileTo). o.goal) c.to.ensures.made;
    inside = inside c.args.nav.now c.args.goal c.env.ensures.kept c.requires.goal;
    width_is =
        ap (λ (o : OctileTo). o.width) c.to.ensures.made ∙ ap (λ (e : NavEnvironment). e.width) c.env.ensures.env;
    guides = c.to.ensures.guides c.args.nav.now c.env.ensures.kept (sym c.env.ensures.env);
  };
  free = λ _. refl;
}
