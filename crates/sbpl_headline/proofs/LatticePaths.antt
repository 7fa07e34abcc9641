-- The free paths of a lattice, and the promises of its plans, in the headline's words.
use Rattle.std.proofs.Common.{◌≡◌, ◌↔◌, ℕ, ℤ, Bool, List, [], ◌∷◌, Option, Some, None, sym, ap, subst, ◌∙◌}
use Rattle.std.proofs.lemmas.Option.{same_Some}
use Rattle.sbpl_promises.specs.sbpl_graph.Network.{Network}
use Rattle.sbpl_promises.specs.sbpl_graph.Path.{IsFreePath}
use Rattle.sbpl_promises.specs.sbpl_cfg.declared.pose.Place.{Place}
use Rattle.sbpl_promises.specs.sbpl_map.CellMap.{cost_at}
use Rattle.sbpl_promises.specs.sbpl_cost.Arc.{HasLatticeArcs}
use Rattle.sbpl_promises.specs.sbpl_cost.Lattices.{network_of}
use Rattle.sbpl_promises.specs.sbpl_cost.States.{place_of, state_number}
use Rattle.sbpl_promises.specs.sbpl_cost.World.{IsWorld, World}
use Rattle.sbpl_promises.specs.sbpl_plan.declared.result.PlanResult.{PlanResult}
use Rattle.sbpl_promises.specs.sbpl_plan.declared.result.PlanResult.TheVariants as outcome
use Rattle.sbpl_promises.specs.sbpl_report.declared.record.PathRecord.{PathRecord}
use Rattle.sbpl_promises.specs.sbpl_report.declared.record.PathStep.{PathStep}
use Rattle.sbpl_promises.specs.sbpl_report.declared.record.PlanRecord.{PlanRecord}
use Rattle.sbpl_promises.specs.sbpl_report.declared.record.ReportPose.{ReportPose}
use Rattle.sbpl_promises.specs.sbpl_report.declared.record.ReportPose.TheVariants as report_pose
use Rattle.sbpl_promises.specs.Headline.{AreSteps, IsKnownWithin, IsNoneThere, IsWithinBound, Joins, KeepsPromises}
use Rattle.sbpl_promises.specs.Sites.{searched_on}
use Rattle.sbpl_promises.specs.LatticeSite.{IsPathStep, lattice_site}
use Rattle.sbpl_headline.specs.Map.{Costs, Map}
use Rattle.sbpl_headline.specs.Path.{IsPath, Keeps, Step}
use Rattle.sbpl_headline.proofs.Moving.{arc_by_moves, moves_by_arc, moves_of}
use Rattle.sbpl_headline.proofs.Places.{state_of_place}
use Rattle.sbpl_headline.proofs.Steps.{told_result, told_steps}

-- the place that a report pose of a lattice tells
abbrev pub report_pose_place : ReportPose → Place
report_pose_place (report_pose.Pose p) = p
report_pose_place (report_pose.Cell x y) = record { x = x; y = y; t = 0 }

module _ (w : World) (is_world : IsWorld w) (m : Map)
    (costs : (x y : ℤ) (c : ℕ) → (cost_at w.map x y ≡ Some c) ↔ Costs m x y c) where
  -- from place to place the steps of a list are free arcs of a graph
  pub arcs_by_path : (n : Network) → HasLatticeArcs n w → (s : Place) (steps : List (Step Place)) (goal : Place) (c : ℕ)
      → IsPath (moves_of w m) s steps goal c
      → (arcs : List ℕ) × IsFreePath n (state_number w.env s) arcs (state_number w.env goal) c
  arcs_by_path n has s [] goal c path_is = ([], (ap (state_number w.env) path_is.0, path_is.1))
  arcs_by_path n has s (step ∷ steps) goal c path_is =
      let arc = arc_by_moves w is_world m costs n has s step path_is.0 path_is.2 in
      let rest = arcs_by_path n has step.place steps goal path_is.1 path_is.3 in
      (arc.0 ∷ rest.0, (state_number w.env step.place, path_is.0, path_is.1, arc.1, rest.1, path_is.4))

  module _ (has : HasLatticeArcs (network_of w) w) where
    -- the steps that are printed for a free path path_is along it
    pub path_by_arcs : (s : ℕ) (arcs : List ℕ) (goal c : ℕ) (steps : List PathStep)
        → IsFreePath (network_of w) s arcs goal c → AreSteps lattice_site w s arcs steps
        → IsPath (moves_of w m) (place_of w.env s) (told_steps report_pose_place steps) (place_of w.env goal) c
    path_by_arcs s [] goal c [] path are = (ap (place_of w.env) path.0, path.1)
    path_by_arcs s [] goal c (step ∷ steps) path are = absurd are
    path_by_arcs s (k ∷ ks) goal c [] path are = absurd are
    path_by_arcs s (k ∷ ks) goal c (step ∷ steps) path are =
        let u : ℕ = path.0 in
        let same : are.0 ≡ u = same_Some are.0 u (sym are.1 ∙ path.3.head) in
        let printed : IsPathStep w s k u step = subst (λ (t : ℕ). IsPathStep w s k t step) same are.2 in
        let there : place_of w.env u ≡ report_pose_place step.report_pose = sym (ap report_pose_place printed.report_pose) in
        let moves = moves_by_arc w is_world m costs (network_of w) has s k u path.1 step path.3 printed in
        let rest =
        path_by_arcs u ks goal path.2 steps path.4
        (subst (λ (t : ℕ). AreSteps lattice_site w t ks steps) same are.3) in (
          path.1,
          path.2,
          subst (λ (q : Place). moves_of w m (place_of w.env s) (record { id = step.id; place = q }) path.1)
              there moves,
          subst (λ (q : Place).
              IsPath (moves_of w m) q (told_steps report_pose_place steps) (place_of w.env goal) path.2) there rest,
          path.5,
        )

    -- steps that path_is from the place of a state to that of another are a free path
    path_between : (s goal : ℕ) (steps : List (Step Place)) (c : ℕ)
        → IsPath (moves_of w m) (place_of w.env s) steps (place_of w.env goal) c
        → (arcs : List ℕ) × IsFreePath (network_of w) s arcs goal c
    path_between s goal steps c path_is =
        let path = arcs_by_path (network_of w) has (place_of w.env s) steps (place_of w.env goal) c path_is in (
          path.0,
          subst (λ (b : ℕ). IsFreePath (network_of w) s path.0 b c) (state_of_place w.env goal)
              (subst (λ (a : ℕ). IsFreePath (network_of w) a path.0 (state_number w.env (place_of w.env goal)) c)
              (state_of_place w.env s) path.1),
        )

    -- what is promised of a result, in the headline's words
    keeps_result : (back : Bool) (s goal asked : ℕ) (spent : Option ℕ) (o : PlanResult PathRecord)
        → Joins (searched_on lattice_site back) w s goal o
        → IsWithinBound (network_of w) s goal o → IsNoneThere (network_of w) s goal o
        → (spent ≡ None → IsKnownWithin asked o)
        → Keeps (moves_of w m) (place_of w.env s) (place_of w.env goal) asked spent (told_result report_pose_place o)
    keeps_result back s goal asked spent (outcome.Path path) joins within none known = (
      path_by_arcs s path.arcs goal path.cost path.steps joins.free joins.steps,
      λ unspent. (known unspent).1,
      λ others c path_is. let other = path_between s goal others c path_is in within other.0 c other.1,
    )
    keeps_result back s goal asked spent outcome.NoPath joins within none known =
        λ others c path_is. let other = path_between s goal others c path_is in none other.0 c other.1
    keeps_result back s goal asked spent outcome.Unknown joins within none known = known

    -- what is promised of a plan, in the headline's words
    pub keeps : (back : Bool) (start goal asked : ℕ) (r : PlanRecord)
        → KeepsPromises (searched_on lattice_site back) w start goal asked r
        → Keeps (moves_of w m) (place_of w.env start) (place_of w.env goal) asked r.spent
        (told_result report_pose_place r.outcome)
    keeps back start goal asked r promises =
        keeps_result back start goal asked r.spent r.outcome promises.joins promises.within_the_bound promises.none
        promises.unless_spent
