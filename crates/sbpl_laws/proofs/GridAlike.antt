-- Grids that files cannot tell apart are one.
use Rattle.std.proofs.Common.{◌≡◌, ℕ, ◌*◌, ◌<◌, refl, sym, ap, subst, ◌∙◌}
use Rattle.sbpl_promises.specs.sbpl_graph.Network.{Network}
use Rattle.sbpl_promises.specs.sbpl_nav2d.Grids.{network_of}
use Rattle.sbpl_promises.specs.sbpl_nav2d.Guides.{IsOctile}
use Rattle.sbpl_promises.specs.sbpl_nav2d.Reads.{ReadsCell}
use Rattle.sbpl_promises.specs.sbpl_nav2d.World.{GridWorld, IsGridWorld, over_map}
use Rattle.sbpl_promises.specs.sbpl_report.declared.record.PathStep.{PathStep}
use Rattle.sbpl_promises.specs.GridSite.{IsGridStep, cell_report_pose, grid_site}
use Rattle.sbpl_laws.proofs.AlikeSites.{AreAlike}

abbrev pub AreOneGrid : GridWorld → GridWorld → Type 0
AreOneGrid w v = w ≡ v

states_are : (w : GridWorld) → (network_of w).states ≡ w.map.width * w.map.height
unfolding network_of
states_are w = refl

one_step : (w v : GridWorld) (s k t : ℕ) (x y : PathStep) → w ≡ v → IsGridStep w s k t x → IsGridStep v s k t y → x ≡ y
one_step w v s k t x y same a b =
    let id : x.id ≡ y.id = a.id ∙ sym b.id in
    let report_pose : x.report_pose ≡ y.report_pose = a.report_pose ∙ ap (λ (u : GridWorld). cell_report_pose u t) same ∙ sym b.report_pose in
    λ i. record { id = id i; report_pose = report_pose i }

pub grids_alike : AreAlike grid_site AreOneGrid
grids_alike = record {
  same = λ w. refl;
  back = λ w v a. sym a;
  over = λ w v m a. ap (λ (u : GridWorld). over_map u m) a;
  map = λ w v a. ap (λ (u : GridWorld). u.map) a;
  over_is = λ w m. refl;
  again = λ w l m. refl;
  made = λ w v m a is moved. subst (λ (u : GridWorld). IsGridWorld (over_map u m)) (sym a) moved;
  cell_map = λ w m is. is.map;
  graph = λ w v a is also. ap network_of a;
  sized = λ w l m is also.
      let wide : l.width ≡ m.width = is.width ∙ sym also.width in
      let high : l.height ≡ m.height = is.height ∙ sym also.height in
      let sizes : l.width * l.height ≡ m.width * m.height = λ i. wide i * high i in
      states_are (over_map w l) ∙ sizes ∙ sym (states_are (over_map w m));
  reads = λ w v s k x y a r. subst (λ (u : GridWorld). ReadsCell u s k x y) a r;
  says = λ w v goal h k a same x y s inside. x s inside ∙ ap (λ (n : Network). n.gap s goal) same
      ∙ sym (y s (subst (λ (n : Network). s < n.states) same inside));
  moved = λ w v goal h a same x. subst (λ (u : GridWorld). IsOctile u goal h) a x;
  starts = λ w v s t a x y. x ∙ ap (λ (u : GridWorld). u.env.start) a ∙ sym y;
  ends = λ w v s t a x y. x ∙ ap (λ (u : GridWorld). u.env.end) a ∙ sym y;
  report_pose = λ w v s a. ap (λ (u : GridWorld). cell_report_pose u s) a;
  step = λ w v s k t x y a b c. one_step w v s k t x y a b c;
  state = λ w v a. ap grid_site.reporting.state a;
}
