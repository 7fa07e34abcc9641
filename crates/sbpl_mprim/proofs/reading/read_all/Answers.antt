use Rattle.std.proofs.Common.{rules}
use Rattle.std.proofs.lemmas.Int.{to_z-of_z}
use Rattle.std.specs.Prelude.{FitsSigned}
use Rattle.std.specs.Int.{w64}
use Rattle.sbpl_fixed.specs.Parts.{reads_and_then}
use Rattle.sbpl_fixed.specs.Formats.{reads}
use Rattle.sbpl_mprim.specs.Reading.{prims_format}
use Rattle.sbpl_mprim.proofs.reading.read_all.Goals as goal

pub returns-in_err-total-clause-read : goal.returns-in_err-total-clause-read
unfolding reads prims_format
returns-in_err-total-clause-read c =
    let cell : FitsSigned w64 c.args.cell = c.ranges.cell in
    let h = simp to_z-of_z at c.in_err-total.ensures.read in
    search (rules, reads_and_then)
