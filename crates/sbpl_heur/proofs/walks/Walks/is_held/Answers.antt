use Rattle.std.proofs.Common.{arith, sym}
use Rattle.std.proofs.lemmas.List.{get_or_read}
use Rattle.sbpl_heur.specs.Boards.{cost_of}
use Rattle.sbpl_heur.proofs.Boarding.{end_arc, weighed}
use Rattle.sbpl_heur.proofs.walks.Walks.is_held.Goals as goal

pub returns-then-saturating_add-index : goal.returns-then-saturating_add-index
returns-then-saturating_add-index c = record {
  supported = λ _.
      let inside = c.self.inside in
      let here = rw (← c.self.view_is) at c.requires.cell in
      let near = rw (← c.self.view_is) at c.requires.near in
      let end_is =
      get_or_read inside.distances.items _ _ (omega (arith, c.in-Some.ensures.inside, c.self.invariant.distances))
      c.index.ensures 0 in
      let cell_is =
      get_or_read inside.distances.items _ _ (omega (arith, here, c.self.invariant.distances)) c.index-2.ensures 0 in
      rw (← c.self.view_is) (record {
        next = c.in-Some.end;
        hop = c.args.k;
        weight = c.weight-weight.result;
        arc = end_arc inside.cells c.self.invariant.board c.args.cell c.in-Some.end c.args.k c.weight-weight.result here
            (sym c.in-Some.ensures.value)
            (weighed (cost_of inside.cells c.args.cell c.in-Some.end c.args.k) c.weight-weight.result
            c.weight-weight.ensures.weight
            (omega (arith, c.saturating_add.ensures, c.if-saturating_add-index.true, cell_is, near)));
        enough = omega (arith, c.saturating_add.ensures, c.if-saturating_add-index.true, cell_is, end_is, near);
      });
}
