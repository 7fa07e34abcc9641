use Rattle.std.proofs.Common.{◌≡◌, ◌*◌, ◌/◌, length, arith, ap, sym, ◌∙◌, refl, vec_capacity}
use Rattle.sbpl_heur.specs.Followed.{distance}
use Rattle.sbpl_heur.specs.Boards.{cell_count, map_of}
use Rattle.sbpl_heur.proofs.Rebuilt.{IsRebuilt, board_in_world, least_alike, same_map, cells_of_map}
use Rattle.sbpl_heur.proofs.Rebuilt.{goal_inside, rebuilt_best, rebuilt_guide}
use Rattle.sbpl_heur.proofs.best.Best.rebuild.Goals as goal

pub follow-requires-clause-same_size : goal.follow-requires-clause-same_size
follow-requires-clause-same_size c =
    let w = c.args.lattice.now in
    let fits = rw (← c.self.view_is) at c.requires.fits in
    let world = c.env-env.ensures.kept in
    ap length (c.costs.ensures.value ∙ ap (λ m. m.costs) c.map.ensures.map) ∙ world.map.cells ∙ cells_of_map w world
    ∙ sym fits.cells ∙ sym c.self.invariant.cells

pub follow-requires-clause-room : goal.follow-requires-clause-room
follow-requires-clause-room c =
    let fits = rw (← c.self.view_is) at c.requires.fits in
    omega (arith, c.list_hops.ensures.few, fits.prims, c.self.invariant.hops, ap length c.as_slice.ensures.value)

pub follow-requires-clause-board : goal.follow-requires-clause-board
follow-requires-clause-board c =
    let w = c.args.lattice.now in
    board_in_world w c.env-env.ensures.kept c.list_hops.new.hops.items c.list_hops.ensures.hops c.list_hops.ensures.few
    c.env-env.result.now c.costs.result.now c.as_slice.result.now _ c.env-env.ensures.env
    (c.costs.ensures.value ∙ ap (λ m. m.costs) c.map.ensures.map) c.as_slice.ensures.value

rebuilt : (c : goal.After-turn)
    → IsRebuilt c.args.lattice.now c.self.inside.goal c.list_hops.new.hops.items c.weigh.new.distances.items (record {
      goal = c.self.inside.goal;
      cells = c.cap.new.distances.items;
      turns = c.turn.new.turns.items;
      room = vec_capacity c.list_hops.new.hops;
    })
rebuilt c =
    let w = c.args.lattice.now in
    let fits = rw (← c.self.view_is) at c.requires.fits in
    let world = c.env-env.ensures.kept in
    let board = c.follow.ensures.board in
    let costs = c.costs.ensures.value ∙ ap (λ m. m.costs) c.map.ensures.map in
    let entries : length c.weigh.new.distances.items ≡ w.map.width * w.map.height =
    c.weigh.ensures.size ∙ fits.cells ∙ sym (cells_of_map w world) in
    record {
      world = world;
      arcs = c.lattice_has_its_arcs.ensures.law w world;
      gaps = c.states-states.ensures.gaps;
      sound = c.states-states.ensures.sound;
      inside = goal_inside w _ fits c.self.invariant.table;
      hops_are = c.list_hops.ensures.hops;
      entries = entries;
      least =
          least_alike w c.follow.new.self.board c.list_hops.new.hops.items c.follow.new.self.goal _
          (distance c.follow.new.self) _ (ap (λ z. z.env) board ∙ c.env-env.ensures.env)
          (ap map_of board ∙ same_map w c.env-env.result.now c.costs.result.now world c.env-env.ensures.env costs)
          (ap (λ z. z.hops) board ∙ c.as_slice.ensures.value)
          (c.follow.ensures.goal ∙ c.self.invariant.goal ∙ ap (λ n. c.self.inside.goal / n) fits.turns) (λ a within.
          c.weigh.ensures.weights a (omega (arith, within, entries, c.weigh.ensures.size))) c.follow.ensures.least;
      capped = c.cap.ensures.capped;
      turned = c.turn.ensures.turns;
      count = c.turn.ensures.size ∙ c.headings_of-headings.ensures.value ∙ ap (λ e. e.headings) c.env-env.ensures.env;
      same = refl;
    }

pub invariant_of-self : goal.invariant_of-self
invariant_of-self c =
    let is = rebuilt c in
    let fits = rw (← c.self.view_is) at c.requires.fits in
    let guide = rebuilt_guide _ _ _ _ _ is in
    record {
      table = guide.table;
      cells =
          ap cell_count c.follow.ensures.board ∙ ap length (c.costs.ensures.value ∙ ap (λ m. m.costs) c.map.ensures.map)
          ∙ is.world.map.cells ∙ sym is.entries ∙ sym is.capped.size;
      goal =
          c.follow.ensures.goal ∙ c.self.invariant.goal
          ∙ ap (λ n. c.self.inside.goal / n) (fits.turns ∙ sym is.count);
      hops = ap (λ z. z.room) c.follow.ensures.board ∙ c.self.invariant.hops ∙ sym c.list_hops.ensures.room;
      least = c.follow.ensures.least;
    }

pub returns-clause-best : goal.returns-clause-best
returns-clause-best c = rw (← c.self.view_is) (rebuilt_best _ _ _ _ _ (rebuilt c))

pub returns-clause-guides : goal.returns-clause-guides
returns-clause-guides c = rw (← c.self.view_is) (rebuilt_guide _ _ _ _ _ (rebuilt c))
