use Rattle.std.proofs.Common.{ℕ, ◌*◌, ◌<◌, sym, subst}
use Rattle.sbpl_nav2d.specs.Grids.{network_of}
use Rattle.sbpl_nav2d.specs.Guides.{IsGuideTo}
use Rattle.sbpl_nav2d.proofs.Guiding.{guides}
use Rattle.sbpl_nav2d.proofs.octile.OctileHeuristicNav.rebuild.Goals as goal

pub returns : goal.returns
returns c = record {
  made = λ m goal made.
      let w = c.args.nav.now in
      let o = c.args.self.now in
      let inside : o.goal < w.env.width * w.env.height =
      subst (λ (t : ℕ). t < w.env.width * w.env.height) (sym made.goal_is) made.inside in
      record {
        goal_is = made.goal_is;
        inside = made.inside;
        width_is = made.width_is;
        guides =
            subst (λ (t : ℕ). IsGuideTo o (network_of w) t) made.goal_is
            (guides w o c.env-env.ensures.kept made.width_is inside);
      };
}
