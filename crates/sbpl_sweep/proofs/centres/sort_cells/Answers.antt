use Rattle.std.proofs.lemmas.List.Filters.{dedup_is}
use Rattle.sbpl_sweep.specs.contracts.cell.CellEq.TheImpl.Laws.{laws-law}
use Rattle.sbpl_sweep.specs.contracts.cell.CellOrd.TheImpl.Laws.{total-law, matches_eq-law}
use Rattle.sbpl_sweep.proofs.CellOrders.{ordered_cells}
use Rattle.sbpl_sweep.proofs.centres.sort_cells.Goals as goal

pub returns : goal.returns
returns c =
    let is = dedup_is _ _ _ c.dedup.ensures.filtered in
    record {
      sorted =
          ordered_cells _ c.sort.new.self.items _ total-law laws-law matches_eq-law c.in_ok-sort.ensures.permutation
          c.in_ok-sort.ensures.sorted is;
    }
