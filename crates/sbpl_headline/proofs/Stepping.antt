-- The steps and paths of a grid are those of its graph.
use Rattle.std.proofs.Common.{◌≡◌, ◌↔◌, ℕ, ℤ, pos, ◌+◌, ◌*◌, ◌<◌, ◌≤◌, List, [], ◌∷◌}
use Rattle.std.proofs.Common.{Bool, Option, Some, None, IsSomeAnd, refl, sym, ap, subst, ◌∙◌, arith}
use Rattle.std.proofs.Math.Nat.{div-lt_iff_lt-mul, mul_comm}
use Rattle.std.proofs.lemmas.Int.{ints}
use Rattle.std.proofs.lemmas.Nat.{div-mul-add, div-add-mod', mod-mul-add}
use Rattle.std.proofs.lemmas.Option.{same_Some}
use Rattle.sbpl_promises.specs.sbpl_graph.Network.{IsFreeArc, Network}
use Rattle.sbpl_promises.specs.sbpl_graph.Path.{IsFreePath}
use Rattle.sbpl_promises.specs.sbpl_map.CellMap.{cost_at}
use Rattle.sbpl_promises.specs.sbpl_nav2d.Arc.{IsFreeAt, IsGridArc, IsGridNetwork, IsStateAt, at_end, at_source}
use Rattle.sbpl_promises.specs.sbpl_nav2d.Arc.{cell_of, cost_from}
use Rattle.sbpl_promises.specs.sbpl_nav2d.Directions.{direction, moved}
use Rattle.sbpl_promises.specs.sbpl_nav2d.Environment.{column_of, row_of}
use Rattle.sbpl_promises.specs.sbpl_nav2d.World.{GridWorld, IsGridWorld}
use Rattle.sbpl_promises.specs.sbpl_plan.declared.result.PlanResult.{PlanResult}
use Rattle.sbpl_promises.specs.sbpl_plan.declared.result.PlanResult.TheVariants as outcome
use Rattle.sbpl_promises.specs.sbpl_report.declared.record.PathRecord.{PathRecord}
use Rattle.sbpl_promises.specs.sbpl_report.declared.record.PathStep.{PathStep}
use Rattle.sbpl_promises.specs.sbpl_report.declared.record.PlanRecord.{PlanRecord}
use Rattle.sbpl_promises.specs.Sites.{searched_on}
use Rattle.sbpl_promises.specs.GridSite.{grid_site}
use Rattle.sbpl_promises.specs.Headline.{AreSteps, IsKnownWithin, IsNoneThere, IsWithinBound, Joins}
use Rattle.sbpl_promises.specs.Headline.{KeepsPromises}
use Rattle.sbpl_headline.specs.Grid.{Moves, Square}
use Rattle.sbpl_headline.specs.Map.{Costs, Map}
use Rattle.sbpl_headline.specs.Path.{IsPath, Keeps, Step}
use Rattle.sbpl_headline.proofs.Plans.{square_at}
use Rattle.sbpl_headline.proofs.Steps.{told_result, told_step, told_steps}
use Rattle.sbpl_headline.proofs.Told.{square_of}

-- ---- options

-- there is a value of which P holds
some_value : {T : Type 0} {P : T → Type 0} (o : Option T) → IsSomeAnd o P → (c : T) × (o ≡ Some c) × P c
some_value None is = absurd is
some_value (Some c) is = (c, refl, is)

-- and the other way round
value_some : {T : Type 0} (P : T → Type 0) (o : Option T) (c : T) → o ≡ Some c → P c → IsSomeAnd o P
value_some {T} P o c e is = subst (λ (x : Option T). IsSomeAnd x P) (sym e) is

-- ---- columns and rows

-- the row of a cell of a state is below the height, and the other way round
row_inside : (width height s : ℕ) → 1 ≤ width → row_of width s < height → s < width * height
row_inside width height s some low =
    let below : s < height * width = (div-lt_iff_lt-mul {k = width} {x = s} {y = height} some).0 low in
    rw (mul_comm width height) below

-- the square of a state says which state it is
one_state : (width s t : ℕ) → square_of width s ≡ square_of width t → s ≡ t
one_state width s t same =
    sym (div-add-mod' s width) ∙ ap (λ (c : Square). c.y * width + c.x) same ∙ div-add-mod' t width

-- the square of the state of a column and a row
square_is : (width : ℕ) (c : Square) → c.x < width → square_of width (c.y * width + c.x) ≡ c
square_is width c right =
    let column = mod-mul-add c.y width c.x right in
    let row = div-mul-add c.y width c.x right in
    λ i. record { x = column i; y = row i }

-- equal integers are equal numbers
same_pos : (a b : ℕ) → pos a ≡ pos b → a ≡ b
same_pos a b e = omega (arith, ints)

-- ---- arcs

module _ (w : GridWorld) (is_world : IsGridWorld w) (n : Network) (is : IsGridNetwork n w) (m : Map)
    (width : m.width ≡ w.map.width) (height : m.height ≡ w.map.height)
    (costs : (x y : ℤ) (c : ℕ) → (cost_at w.map x y ≡ Some c) ↔ Costs m x y c) where
  -- a cell that has a cost on the map lies in a column and a row of it
  on_map : (x y : ℤ) (u v c : ℕ) → Costs m x y c → x ≡ pos u → y ≡ pos v → (u < w.map.width) × (v < w.map.height)
  on_map x y u v c is_cost at_x at_y =
      let column : is_cost.u ≡ u = same_pos is_cost.u u (sym is_cost.on_map.0 ∙ at_x) in
      let row : is_cost.v ≡ v = same_pos is_cost.v v (sym is_cost.on_map.2 ∙ at_y) in
      let right : is_cost.u < m.width = is_cost.on_map.1 in
      let high : is_cost.v < m.height = is_cost.on_map.3 in
      (omega arith, omega arith)

  -- a free arc is a step, by the map's width
  step_on_map : (s k t c : ℕ) → IsFreeArc n s k t c
      → Moves w.env.obsthresh m (square_of w.map.width s) (record { id = k; place = square_of w.map.width t }) c
  step_on_map s k t c arc =
      let below : k < 8 = subst (λ (f : ℕ). k < f) (is.fan s) arc.number in
      let made : IsGridArc n w s k = is.arcs s k arc.source below in
      let end : IsStateAt w (moved (cell_of w s) (direction k)) t = (made.head t).0 arc.head in
      let free : IsFreeAt w s k c = (made.cost c).0 arc.cost in
      let column : column_of w.map.width t ≡ end.column =
      ap (column_of w.map.width) end.number ∙ mod-mul-add end.row w.map.width end.column end.right in
      let row : row_of w.map.width t ≡ end.row =
      ap (row_of w.map.width) end.number ∙ div-mul-add end.row w.map.width end.column end.right in
      record {
        direction_is = below;
        column = ap pos column ∙ sym end.x;
        row = ap pos row ∙ sym end.y;
        free = λ x y read.
            let found = some_value (cost_from w s x y) (free.free x y read) in
            (found.0, (costs _ _ found.0).0 found.1, found.2);
        greatest = free.greatest;
        read = (free.read.dx, free.read.dy, free.read.read, (costs _ _ free.greatest).0 free.read.cost);
        most = λ x y cost read paid. free.read.none_above x y cost read ((costs _ _ cost).1 paid);
        product = free.product;
      }

  -- from the square of a state a step is a free arc, by the map's width
  arc_on_map : (s : ℕ) (step : Step Square) (c : ℕ) → Moves w.env.obsthresh m (square_of w.map.width s) step c
      → (t : ℕ) × IsFreeArc n s step.id t c × (square_of w.map.width t ≡ step.place)
  arc_on_map s step c moves =
      let k = step.id in
      let source = moves.free (pos 0) (pos 0) (at_source refl refl) in
      let at = on_map _ _ (column_of w.map.width s) (row_of w.map.width s) source.0 source.1 (omega (arith, ints))
      (omega (arith, ints)) in
      let within : s < w.map.width * w.map.height =
      row_inside w.map.width w.map.height s is_world.map.width.0 at.1 in
      let size : w.map.width * w.map.height ≡ w.env.width * w.env.height =
      λ i. is_world.width i * is_world.height i in
      let states : n.states ≡ w.map.width * w.map.height = is.states ∙ sym size in
      let inside : s < n.states = subst (λ (count : ℕ). s < count) (sym states) within in
      let below : k < 8 = moves.direction_is in
      let made : IsGridArc n w s k = is.arcs s k inside below in
      let target = moves.free (direction k).x (direction k).y (at_end refl refl) in
      let to = on_map _ _ step.place.x step.place.y target.0 target.1 (sym moves.column) (sym moves.row) in
      let t : ℕ = step.place.y * w.map.width + step.place.x in
      let end : IsStateAt w (moved (cell_of w s) (direction k)) t = record {
        column = step.place.x;
        row = step.place.y;
        x = sym moves.column;
        y = sym moves.row;
        right = to.0;
        high = to.1;
        number = refl;
      } in
      let free : IsFreeAt w s k c = record {
        free = λ x y read.
            let found = moves.free x y read in
            value_some _ (cost_from w s x y) found.0 ((costs _ _ found.0).1 found.1) found.2;
        greatest = moves.greatest;
        read = record {
          dx = moves.read.0;
          dy = moves.read.1;
          read = moves.read.2;
          cost = (costs _ _ moves.greatest).1 moves.read.3;
          none_above = λ x y cost read paid. moves.most x y cost read ((costs _ _ cost).0 paid);
        };
        product = moves.product;
      } in (
        t,
        record {
          source = inside;
          number = subst (λ (f : ℕ). k < f) (sym (is.fan s)) below;
          head = (made.head t).1 end;
          cost = (made.cost c).1 free;
        },
        square_is w.map.width step.place to.0,
      )

  -- a free arc is a step
  pub step_by_arc : (s k t c : ℕ) → IsFreeArc n s k t c
      → Moves w.env.obsthresh m (square_of w.env.width s) (record { id = k; place = square_of w.env.width t }) c
  step_by_arc s k t c arc =
      subst (λ (size : ℕ). Moves w.env.obsthresh m (square_of size s) (record { id = k; place = square_of size t }) c)
      is_world.width (step_on_map s k t c arc)

  -- from the square of a state a step is a free arc
  pub arc_by_step : (s : ℕ) (step : Step Square) (c : ℕ) → Moves w.env.obsthresh m (square_of w.env.width s) step c
      → (t : ℕ) × IsFreeArc n s step.id t c × (square_of w.env.width t ≡ step.place)
  arc_by_step s step c =
      subst (λ (size : ℕ). Moves w.env.obsthresh m (square_of size s) step c
      → (t : ℕ) × IsFreeArc n s step.id t c × (square_of size t ≡ step.place)) is_world.width (arc_on_map s step c)

  -- from the square of a state a path is one of the graph
  pub arcs_by_path : (s : ℕ) (steps : List (Step Square)) (t c : ℕ)
      → IsPath (Moves w.env.obsthresh m) (square_of w.env.width s) steps (square_of w.env.width t) c
      → (arcs : List ℕ) × IsFreePath n s arcs t c
  arcs_by_path s [] t c (same, none) = ([], (one_state w.env.width s t same, none))
  arcs_by_path s (step ∷ steps) t c (a, b, moves, rest, sum) =
      let arc = arc_by_step s step a moves in
      let on : IsPath (Moves w.env.obsthresh m) (square_of w.env.width arc.0) steps (square_of w.env.width t) b =
      subst (λ (p : Square). IsPath (Moves w.env.obsthresh m) p steps (square_of w.env.width t) b) (sym arc.2) rest in
      let more = arcs_by_path arc.0 steps t b on in
      (step.id ∷ more.0, (arc.0, a, b, arc.1, more.1, sum))

-- ---- paths and promises

module _ (w : GridWorld) (is_world : IsGridWorld w) (is : IsGridNetwork (grid_site.network w) w) (m : Map)
    (width : m.width ≡ w.map.width) (height : m.height ≡ w.map.height)
    (costs : (x y : ℤ) (c : ℕ) → (cost_at w.map x y ≡ Some c) ↔ Costs m x y c) where
  -- a path of the graph is one
  pub path_by_arcs : (s : ℕ) (arcs : List ℕ) (steps : List PathStep) (t c : ℕ)
      → IsFreePath (grid_site.network w) s arcs t c → AreSteps grid_site w s arcs steps
      → IsPath (Moves w.env.obsthresh m) (square_of w.env.width s) (told_steps square_at steps)
      (square_of w.env.width t) c
  path_by_arcs s [] [] t c (same, none) told = (ap (square_of w.env.width) same, none)
  path_by_arcs s [] (x ∷ xs) t c path told = absurd told
  path_by_arcs s (k ∷ ks) [] t c path told = absurd told
  path_by_arcs s (k ∷ ks) (x ∷ xs) t c (u, a, b, arc, rest, sum) (v, head, step, steps) =
      let same : u ≡ v = same_Some u v (sym arc.head ∙ head) in
      let place : square_of w.env.width u ≡ square_at x.report_pose =
      ap (square_of w.env.width) same ∙ sym (ap square_at step.report_pose) in
      let first : Moves w.env.obsthresh m (square_of w.env.width s) (told_step square_at x) a =
      subst (λ (one : Step Square). Moves w.env.obsthresh m (square_of w.env.width s) one a)
      (λ i. record { id = sym step.id i; place = place i })
      (step_by_arc w is_world (grid_site.network w) is m width height costs s k u a arc) in
      let own : AreSteps grid_site w u ks xs =
      subst (λ (z : ℕ). AreSteps grid_site w z ks xs) (sym same) steps in
      let goal : Square = square_of w.env.width t in
      let more : IsPath (Moves w.env.obsthresh m) (square_at x.report_pose) (told_steps square_at xs) goal b =
      subst (λ (p : Square). IsPath (Moves w.env.obsthresh m) p (told_steps square_at xs) goal b) place
      (path_by_arcs u ks xs t b rest own) in
      (a, b, first, more, sum)

  -- a path is one of the graph
  path_of : (s : ℕ) (steps : List (Step Square)) (t c : ℕ)
      → IsPath (Moves w.env.obsthresh m) (square_of w.env.width s) steps (square_of w.env.width t) c
      → (arcs : List ℕ) × IsFreePath (grid_site.network w) s arcs t c
  path_of = arcs_by_path w is_world (grid_site.network w) is m width height costs

  -- the promises of a plan's result, where it was spent or not
  keeps_result : (back : Bool) (start goal asked : ℕ) (spent : Option ℕ) (o : PlanResult PathRecord)
      → Joins (searched_on grid_site back) w start goal o
      → IsWithinBound (grid_site.network w) start goal o → IsNoneThere (grid_site.network w) start goal o
      → (spent ≡ None → IsKnownWithin asked o)
      → Keeps (Moves w.env.obsthresh m) (square_of w.env.width start) (square_of w.env.width goal) asked spent
      (told_result square_at o)
  keeps_result back start goal asked spent (outcome.Path path) joins within none known = (
    path_by_arcs start path.arcs path.steps goal path.cost joins.free joins.steps,
    λ rests. (known rests).1,
    λ others c path_is.
        let other = path_of start others goal c path_is in
        within other.0 c other.1,
  )
  keeps_result back start goal asked spent outcome.NoPath joins within none known =
      λ others c path_is.
      let other = path_of start others goal c path_is in
      none other.0 c other.1
  keeps_result back start goal asked spent outcome.Unknown joins within none known = known

  -- the promises of a plan
  pub keeps_on_grid : (back : Bool) (start goal asked : ℕ) (r : PlanRecord)
      → KeepsPromises (searched_on grid_site back) w start goal asked r
      → Keeps (Moves w.env.obsthresh m) (square_of w.env.width start) (square_of w.env.width goal) asked r.spent
      (told_result square_at r.outcome)
  keeps_on_grid back start goal asked r keeps =
      keeps_result back start goal asked r.spent r.outcome keeps.joins keeps.within_the_bound keeps.none keeps.unless_spent
