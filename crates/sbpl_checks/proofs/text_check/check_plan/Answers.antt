use Rattle.std.proofs.Common.{ℕ, ◌<◌, sym, ◌∙◌, subst}
use Rattle.sbpl_worlds.specs.sbpl_promises.Sites.{from_of, to_of}
use Rattle.sbpl_worlds.proofs.OnMaps.{from_inside, to_inside}
use Rattle.sbpl_checks.proofs.Verifying.{all_ends_there, from_is, ground_in, holds_there, ok_so, to_is}
use Rattle.sbpl_checks.proofs.text_check.check_plan.Goals as goal

pub check_next-requires : goal.check_next-requires
check_next-requires g c =
    let w = c.args.world.now in
    let back = g.W.Workspace.reporting.back in
    let told = (g.W.Workspace.reporting.told w).states in
    let as_many = g.met.W.Workspace.same_states w in
    let n = g.W.Graph.network w in
    record {
      from =
          subst (λ (s : ℕ). s < n.states) (sym c.way-from.ensures.from)
          (subst (λ (count : ℕ). from_of back c.args.start c.args.goal < count) as_many
          (from_inside back c.args.start c.args.goal told c.requires.start c.requires.goal));
      to =
          subst (λ (s : ℕ). s < n.states) (sym c.way-from.ensures.to)
          (subst (λ (count : ℕ). to_of back c.args.start c.args.goal < count) as_many
          (to_inside back c.args.start c.args.goal told c.requires.start c.requires.goal));
      guide =
          subst (λ (t : ℕ). g.W.Best.Guide.guides c.args.guide.now n t) (sym c.way-from.ensures.to)
          (g.met.W.Best.Heuristic.guides_there c.args.guide.now w _ c.requires.made);
      at = c.requires.at;
    }

pub returns-clause-holds : goal.returns-clause-holds
returns-clause-holds g c = λ case plan.
    let w = c.args.world.now in
    let after =
    ground_in case c.args.plan w c.args.start c.args.goal (g.W.Best.Guide.distance c.args.guide.now) plan
    (g.met.W.Workspace.says_so c.args.guide.now w _ c.requires.made) in
    ok_so _ _ _ (λ next holds. holds_there case c.args.plan after
    (from_is case c.args.plan w c.args.start c.args.goal plan ∙ sym c.way-from.ensures.from)
    (to_is case c.args.plan w c.args.start c.args.goal plan ∙ sym c.way-from.ensures.to) holds)
    c.check_next.ensures.holds

pub returns-clause-ends : goal.returns-clause-ends
returns-clause-ends g c = λ case more plan.
    let w = c.args.world.now in
    let after =
    ground_in case c.args.plan w c.args.start c.args.goal (g.W.Best.Guide.distance c.args.guide.now) plan
    (g.met.W.Workspace.says_so c.args.guide.now w _ c.requires.made) in
    all_ends_there case c.args.plan after
    (from_is case c.args.plan w c.args.start c.args.goal plan ∙ sym c.way-from.ensures.from)
    (to_is case c.args.plan w c.args.start c.args.goal plan ∙ sym c.way-from.ensures.to) _ more _ _ _ _
    c.check_next.ensures.ends
