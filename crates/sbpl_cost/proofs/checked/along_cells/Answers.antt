use Rattle.std.proofs.Common.{◌∷◌, [], refl, rules}
use Rattle.sbpl_sweep.specs.declared.cell.Cell.{Cell}
use Rattle.sbpl_cost.specs.Checked.{AddsOthers}
use Rattle.sbpl_cost.proofs.Checks.{along_from}
use Rattle.sbpl_cost.proofs.checked.along_cells.Goals as goal

pub returns : goal.returns
returns c =
    let end : Cell = record { y = c.args.prim.now.dy; x = c.args.prim.now.dx } in
    let added : AddsOthers (end ∷ []) c.args.centres.now (end ∷ []) c.push_others.new.list.items = search rules in
    record {
      along =
          λ size headings good are. along_from size c.args.prim.now end c.args.centres.now c.push_others.new.list.items
          (c.ends_are_centres.ensures.law size headings c.args.prim.now good) are refl added;
    }
