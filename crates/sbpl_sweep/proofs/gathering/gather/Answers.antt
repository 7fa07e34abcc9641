use Rattle.std.proofs.Common.{subst}
use Rattle.std.proofs.lemmas.Result.{MatchResult-weaker}
use Rattle.sbpl_sweep.specs.Bands.{IsCovered}
use Rattle.sbpl_sweep.specs.Gathered.{CoverTheSame}
use Rattle.sbpl_sweep.proofs.Listings.{same_listed, same_stop}
use Rattle.sbpl_sweep.proofs.gathering.gather.Goals as goal

pub list_cells-requires-clause-in_order : goal.list_cells-requires-clause-in_order
list_cells-requires-clause-in_order c = rw c.as_slice.ensures.value c.in_ok-sort_bands.ensures.sorted

pub list_cells-requires-clause-bounded : goal.list_cells-requires-clause-bounded
list_cells-requires-clause-bounded c = λ x y covered. c.requires.bounded x y
    (c.in_ok-sort_bands.ensures.same.each x y (subst (λ l. IsCovered l x y) c.as_slice.ensures.value covered))

pub returns : goal.returns
returns c =
    let new = c.as_slice.result.now in
    let same : CoverTheSame c.args.bands.now.items c.as_slice.result.now =
    rw c.as_slice.ensures.value c.in_ok-sort_bands.ensures.same in
    record {
      cells =
          MatchResult-weaker c.list_cells.result c.list_cells.ensures.cells
          (λ v listed. same_listed c.args.bands.now.items c.as_slice.result.now v.items same listed) (λ e h. h);
      stop =
          MatchResult-weaker c.list_cells.result c.list_cells.ensures.stop (λ v h. h)
          (λ e stop. same_stop c.args.bands.now.items c.as_slice.result.now e same stop);
    }
