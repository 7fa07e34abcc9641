use Rattle.std.proofs.Common.{◌*◌, length, arith, ap, sym, ◌∙◌, vec_capacity}
use Rattle.sbpl_heur.specs.Boards.{cell_count}
use Rattle.sbpl_heur.proofs.StateCells.{cell_below}
use Rattle.sbpl_heur.proofs.Rebuilt.{bare_in_world, cells_of_map, fresh_parts}
use Rattle.sbpl_heur.proofs.best.Best.build.Goals as goal

pub new-requires-clause-board : goal.new-requires-clause-board
new-requires-clause-board c =
    bare_in_world c.args.lattice.now c.env-env.ensures.kept c.env-env.result.now c.costs-costs.result.now _
    c.env-env.ensures.env (c.costs-costs.ensures.value ∙ ap (λ m. m.costs) c.map.ensures.map)

pub new-requires-clause-goal : goal.new-requires-clause-goal
new-requires-clause-goal c =
    let w = c.args.lattice.now in
    let world = c.env-env.ensures.kept in
    let below =
    cell_below w c.args.goal c.headings_of-headings.result (c.headings_of-headings.ensures.value
    ∙ ap (λ e. e.headings) c.env-env.ensures.env) c.headings_of-headings.ensures.some c.requires.goal in
    let size =
    ap length (c.costs-costs.ensures.value ∙ ap (λ m. m.costs) c.map.ensures.map) ∙ world.map.cells
    ∙ cells_of_map w world in
    omega (arith, below, size)

pub invariant_of-best : goal.invariant_of-best
invariant_of-best c =
    let w = c.args.lattice.now in
    let world = c.env-env.ensures.kept in
    let board = c.in_ok-walks.ensures.board in
    let size =
    ap length (c.costs-costs.ensures.value ∙ ap (λ m. m.costs) c.map.ensures.map) ∙ world.map.cells
    ∙ cells_of_map w world in
    let area = ap (λ e. e.width * e.height) c.env-env.ensures.env in
    fresh_parts w c.env-env.result.now c.args.goal (vec_capacity c.in_ok-hops.hops) c.cells_of.result
    c.headings_of-headings.result c.in_ok-walks.walks c.in_ok-cells.cells.items c.in_ok-turns.turns.items
    world c.env-env.ensures.env
    c.requires.goal c.cells_of.ensures.cells c.headings_of-headings.ensures.value
    (c.in_ok-cells.ensures.items_if_clones_equal (λ y h. h)) (c.in_ok-turns.ensures.items_if_clones_equal (λ y h. h))
    (ap cell_count board ∙ size ∙ sym area ∙ sym c.cells_of.ensures.cells)
    c.in_ok-walks.ensures.goal (ap (λ z. z.room) board ∙ sym c.in_ok-hops.ensures.exact) c.in_ok-walks.ensures.least

pub rebuild-requires : goal.rebuild-requires
rebuild-requires c = record {
  fits = record {
    cells = omega (
      arith,
      c.in_ok-cells.ensures.len,
      c.cells_of.ensures.cells,
      ap (λ e. e.width * e.height) c.env-env.ensures.env,
    );
    turns = omega (
      arith,
      c.in_ok-turns.ensures.len,
      c.headings_of-headings.ensures.value,
      ap (λ e. e.headings) c.env-env.ensures.env,
    );
    prims = omega (
      arith,
      c.in_ok-hops.ensures.exact,
      c.len-room.ensures.count,
      ap (λ p. length p.items) c.prims.ensures.prims,
    );
  };
}

pub returns : goal.returns
returns c =
    let made = c.rebuild.ensures in
    record {
      best = made.best;
      guides = made.guides;
      goal = made.goal;
      fits = made.fits c.args.lattice.now (record {
        cells = omega (
          arith,
          c.in_ok-cells.ensures.len,
          c.cells_of.ensures.cells,
          ap (λ e. e.width * e.height) c.env-env.ensures.env,
        );
        turns = omega (
          arith,
          c.in_ok-turns.ensures.len,
          c.headings_of-headings.ensures.value,
          ap (λ e. e.headings) c.env-env.ensures.env,
        );
        prims = omega (
          arith,
          c.in_ok-hops.ensures.exact,
          c.len-room.ensures.count,
          ap (λ p. length p.items) c.prims.ensures.prims,
        );
      });
    }
