use Rattle.std.proofs.Common.{◌≡◌, replicate, set, arith, ap, sym, ◌∙◌, false, true, subst, vec_len}
use Rattle.sbpl_serial.specs.sbpl_graph.declared.TheConstants.{FAR}
use Rattle.sbpl_heur.specs.Boards.{Board, IsBoard, cell_count}
use Rattle.sbpl_heur.proofs.Sinking.{begun}
use Rattle.sbpl_heur.proofs.walks.Walks.begin.Goals as goal

pub returns-clause-sinking : goal.returns-clause-sinking
returns-clause-sinking c =
    let same = rw (← c.self.view_is) at c.requires.same_size in
    let board = c.renew.ensures.board in
    let count : cell_count c.renew.new.self ≡ cell_count c.self.inside.cells =
    ap (λ (b : Board). cell_count b) board ∙ same in
    let distances_size : vec_len c.self.inside.distances ≡ cell_count c.renew.new.self =
    omega (arith, c.self.inside.distances.ok.0, c.self.invariant.distances, count) in
    let waits_size : vec_len c.self.inside.waits ≡ cell_count c.renew.new.self =
    omega (arith, c.self.inside.waits.ok.0, c.self.invariant.waits, count) in
    let distances = c.fill.ensures.items (λ y h. h) in
    let waits = c.fill-2.ensures.items (λ y h. h) in
    begun _
    (ap (λ l. set l c.self.inside.goal 0) (distances ∙ ap (λ n. replicate n FAR) distances_size))
    (subst IsBoard (sym (board ∙ ap (λ n. record {
      env = c.args.env.now;
      costs = c.args.costs.now;
      hops = c.args.hops.now;
      room = n;
    }) (ap (λ z. z.board.room) c.self.view_is))) c.requires.board)
    (omega (arith, c.self.invariant.goal, count))
    (ap (λ l. set l c.self.inside.goal true) (waits ∙ ap (λ n. replicate n false) waits_size))
