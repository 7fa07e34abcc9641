-- The plans that were made on a grid, and whose report was written, are told as the headline says.
use Rattle.std.proofs.Common.{◌≡◌, ◌↔◌, ℕ, ℤ, List, [], length, true, None, Some, MatchOption}
use Rattle.std.proofs.Common.{refl, sym, ap, subst, ◌∙◌}
use Rattle.sbpl_promises.specs.sbpl_desk.Desk.{DeskState}
use Rattle.sbpl_promises.specs.sbpl_job.declared.job.Outputs.{Outputs}
use Rattle.sbpl_promises.specs.sbpl_job.Jobs.{may_move}
use Rattle.sbpl_promises.specs.sbpl_job.declared.job.SearchJob.{SearchJob}
use Rattle.sbpl_promises.specs.sbpl_map.CellMap.{CellMap, cost_at}
use Rattle.sbpl_promises.specs.sbpl_map.ChangeText.{Given}
use Rattle.sbpl_promises.specs.sbpl_map.MapAfter.{IsMapAfter}
use Rattle.sbpl_promises.specs.sbpl_nav2d.World.{GridWorld, IsGridWorld, over_map}
use Rattle.sbpl_promises.specs.sbpl_plan.declared.found.Found.{Found}
use Rattle.sbpl_promises.specs.sbpl_report.declared.record.PlanRecord.{PlanRecord}
use Rattle.sbpl_promises.specs.Asked.{planner_for}
use Rattle.sbpl_promises.specs.GridSite.{grid_site, grid_reporting}
use Rattle.sbpl_promises.specs.Headline.{ArePlans}
use Rattle.sbpl_promises.specs.Intents.{plans_writes}
use Rattle.sbpl_promises.specs.Published.{Entry}
use Rattle.sbpl_promises.specs.Sites.{start_after}
use Rattle.sbpl_promises.specs.Writing.{AreAppended}
use Rattle.sbpl_promises.specs.declared.updates.Updates.{Updates}
use Rattle.sbpl_headline.specs.Files.{IsChangeText}
use Rattle.sbpl_headline.specs.Grid.{Moves, Square}
use Rattle.sbpl_headline.specs.Headline.{ArePlanned, Read}
use Rattle.sbpl_headline.specs.Map.{Costs}
use Rattle.sbpl_headline.specs.Path.{Keeps, Plan}
use Rattle.sbpl_headline.specs.Report.{square_words}
use Rattle.sbpl_headline.specs.Words.{Asked}
use Rattle.sbpl_headline.proofs.Planning.{IsShown, plans_are_shown}
use Rattle.sbpl_headline.proofs.Plans.{square_at, told_plan}
use Rattle.sbpl_headline.proofs.Asking.{NoDashes}
use Rattle.sbpl_headline.proofs.Printing.{some_square}
use Rattle.sbpl_headline.proofs.Records.{IsToldPlan, records_on_grid}
use Rattle.sbpl_headline.proofs.Stepping.{keeps_on_grid}
use Rattle.sbpl_headline.proofs.Told.{lines_of, map_with, square_of}

-- the start of each plan, where no line says where the robot is
starts_still : (w : GridWorld) (start k : ℕ) (updates : Updates) → updates.moves ≡ None
    → start_after grid_reporting w start updates.moves k ≡ start
starts_still w start k updates still = rw still refl

module _ (w : GridWorld) (width : w.map.width ≡ w.env.width) (height : w.map.height ≡ w.env.height) (updates : Updates)
    (still : updates.moves ≡ None) (told : List (List Given)) (many : length (lines_of told) ≡ length updates.batches)
    (costs : (k : ℕ) (now : CellMap) → IsMapAfter w.map updates.batches k now
    → (x y : ℤ) (c : ℕ) → (cost_at now x y ≡ Some c) ↔ Costs (map_with w.map told k) x y c)
    (how : SearchJob) (outputs : Outputs) (records : List PlanRecord) (log : List Entry) (broken : List Found)
    (plans : ArePlans grid_site w updates how outputs records true log broken) (asked : Asked)
    (bound : how.bound ≡ asked.bound) (budget : how.budget ≡ asked.budget) where
  -- the square from which plan k goes
  abbrev places : ℕ → Square
  places k = square_of w.env.width (start_after grid_reporting w plans.start updates.moves k)

  -- on the map after k batches the promises of a plan are kept from this square to that one, within a bound
  abbrev Kept : ℕ → (start goal : Square) → (bound : ℕ) → Plan Square → Type 0
  Kept k start goal bound p = Keeps (Moves w.env.obsthresh (map_with w.map told k)) start goal bound p.spent p.result

  -- a plan on the grid starts and keeps its promises as the headline says
  grid_plan_shown : (k : ℕ) (p : Plan Square)
      → IsToldPlan square_at places (planner_for grid_site how.planner) w updates.batches how outputs
      (start_after grid_reporting w plans.start updates.moves) plans.goal k p
      → IsShown (Moves w.env.obsthresh) (λ m s. s ≡ square_of w.env.width w.env.start)
      (square_of w.env.width w.env.end) asked
      (map_with w.map told k) p
  grid_plan_shown k p is =
      let v : GridWorld = over_map w is.carried.map in
      let v_is : IsGridWorld v = is.plan.is_world in
      let from : ℕ = start_after grid_reporting w plans.start updates.moves k in
      let first : from ≡ w.env.start = starts_still w plans.start k updates still ∙ plans.start_is in
      let right : w.map.width ≡ v.map.width = width ∙ sym v_is.width in
      let high : w.map.height ≡ v.map.height = height ∙ sym v_is.height in
      let end : Square = square_of w.env.width w.env.end in
      let made : Plan Square = told_plan square_at (places k) is.made in
      let kept : Kept k (places k) (square_of w.env.width plans.goal) how.bound made =
      keeps_on_grid v v_is is.plan.arcs (map_with w.map told k) right high (costs k is.carried.map is.map_is)
      (may_move how.planner) from plans.goal how.bound is.made is.plan.promises in
      let there : Kept k (places k) end how.bound made =
      subst (λ (t : ℕ). Kept k (places k) (square_of w.env.width t) how.bound made) plans.goal_is kept in
      let within : Kept k (places k) end asked.bound made =
      subst (λ (b : ℕ). Kept k (places k) end b made) bound there in (
        sym (ap (λ (q : Plan Square). q.start) is.told) ∙ ap (square_of w.env.width) first,
        subst (λ (q : Plan Square). Kept k q.start end asked.bound q) is.told within,
      )

  -- the plans on a grid are those of the headline
  pub plans_on_grid : (before after : DeskState) → NoDashes outputs
      → AreAppended before after (plans_writes outputs records true)
      → MatchOption asked.changes (lines_of told ≡ []) (λ name. Read before.held name (IsChangeText (lines_of told)))
      → ArePlanned (Moves w.env.obsthresh) (λ m s. s ≡ square_of w.env.width w.env.start) square_words
      (square_of w.env.width w.env.end) asked
      (map_with w.map told 0) before after
  plans_on_grid before after away written changes =
      plans_are_shown square_at square_words some_square places (Moves w.env.obsthresh)
      (λ m s. s ≡ square_of w.env.width w.env.start) (square_of w.env.width w.env.end) asked (map_with w.map told 0)
      (lines_of told) grid_site w updates how outputs records log broken plans before after away written changes many
      budget
      (records_on_grid how.planner w updates.batches how outputs (start_after grid_reporting w plans.start updates.moves)
      plans.goal records log plans.each)
      grid_plan_shown
