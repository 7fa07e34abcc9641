use Rattle.std.proofs.lemmas.Int.{to_z-of_z}
use Rattle.std.specs.Prelude.{FitsSigned}
use Rattle.std.specs.Int.{w64}
use Rattle.sbpl_mprim.proofs.ReadLaws.{faulty_in_text, found_in_text, only_faulty_in_text, only_in_text}
use Rattle.sbpl_mprim.proofs.read.read_prims.Goals as goal

pub returns-clause-found : goal.returns-clause-found
returns-clause-found c =
    let fits : FitsSigned w64 c.args.cell = c.ranges.cell in
    let exact = simp to_z-of_z at c.read_file.ensures.exact in
    let given = simp to_z-of_z at c.read_file.ensures.given in
    let sizes = simp to_z-of_z at c.read_file.ensures.sizes in
    found_in_text c.args.cell c.args.headings c.args.text.now c.read_file.result sizes given exact

pub returns-clause-only : goal.returns-clause-only
returns-clause-only c =
    let fits : FitsSigned w64 c.args.cell = c.ranges.cell in
    let exact = simp to_z-of_z at c.read_file.ensures.exact in
    let given = simp to_z-of_z at c.read_file.ensures.given in
    only_in_text c.args.cell c.args.headings c.args.text.now c.read_file.result given exact

pub returns-clause-faulty : goal.returns-clause-faulty
returns-clause-faulty c =
    let fits : FitsSigned w64 c.args.cell = c.ranges.cell in
    let exact = simp to_z-of_z at c.read_file.ensures.exact in
    faulty_in_text c.args.cell c.args.headings c.args.text.now c.read_file.result exact

pub returns-clause-only_faulty : goal.returns-clause-only_faulty
returns-clause-only_faulty c =
    let fits : FitsSigned w64 c.args.cell = c.ranges.cell in
    let exact = simp to_z-of_z at c.read_file.ensures.exact in
    only_faulty_in_text c.args.cell c.args.headings c.args.text.now c.read_file.result exact
