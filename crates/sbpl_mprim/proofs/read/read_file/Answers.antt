use Rattle.std.proofs.lemmas.Int.{to_z-of_z}
use Rattle.std.specs.Prelude.{FitsSigned}
use Rattle.std.specs.Int.{w64}
use Rattle.sbpl_mprim.proofs.ReadLaws.{items_fit}
use Rattle.sbpl_mprim.proofs.read.read_file.Goals as goal

pub of-requires : goal.of-requires
of-requires c =
    let fits : FitsSigned w64 c.args.cell = c.ranges.cell in
    let exact = simp to_z-of_z at c.in_ok-items.ensures.exact in
    let sizes = simp to_z-of_z at c.in_ok-items.ensures.sizes in
    record {
      prims =
          simp to_z-of_z (items_fit c.args.cell c.args.headings c.args.text.now c.in_ok-items.items.items sizes.cell_is
          sizes.some sizes.few exact);
    }
