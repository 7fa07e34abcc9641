use Rattle.std.proofs.Common.{pos}
use Rattle.std.proofs.lemmas.Option.{slice_get-get_or}
use Rattle.sbpl_cost.proofs.GreatestCosts.{greatest_more}
use Rattle.sbpl_cost.proofs.judging.greatest_below.Goals as goal

pub cost_near-requires : goal.cost_near-requires
cost_near-requires c =
    record {
      cell =
          c.requires.cells c.loop-cell.cell-index _
          (slice_get-get_or c.args.cells.now c.loop-cell.cell-index _ c.loop-cell-test.true);
    }

pub returns-in_default-clause-blocked : goal.returns-in_default-clause-blocked
returns-in_default-clause-blocked c = record {
  number = c.loop-cell.cell-index;
  cell = _;
  at = slice_get-get_or c.args.cells.now c.loop-cell.cell-index _ c.loop-cell-test.true;
  blocked = c.in_default.ensures.blocked;
}

pub loop-cell-preserved : goal.loop-cell-preserved
loop-cell-preserved c =
    rw c.max-greatest.ensures
    (greatest_more c.args.map.now c.args.cells.now (pos c.args.x) (pos c.args.y) c.args.limit c.args.least
    c.loop-cell.greatest c.loop-cell.cell-index c.in-Some.cost _
    (slice_get-get_or c.args.cells.now c.loop-cell.cell-index _ c.loop-cell-test.true) c.in-Some.ensures.cost
    c.in-Some.ensures.below c.loop-cell.invariant)
