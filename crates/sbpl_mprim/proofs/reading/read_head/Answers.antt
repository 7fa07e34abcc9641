use Rattle.std.proofs.Common.{rules}
use Rattle.std.proofs.lemmas.Int.{to_z-of_z}
use Rattle.std.specs.Prelude.{FitsSigned}
use Rattle.std.specs.Int.{w64}
use Rattle.sbpl_fixed.specs.Parts.{reads_and_then}
use Rattle.sbpl_fixed.specs.Formats.{reads}
use Rattle.sbpl_mprim.specs.Reading.{head_format}
use Rattle.sbpl_mprim.proofs.reading.read_head.Goals as goal

pub returns-in_err-read_resolution-clause-read : goal.returns-in_err-read_resolution-clause-read
unfolding reads head_format
returns-in_err-read_resolution-clause-read c =
    let cell : FitsSigned w64 c.args.cell = c.ranges.cell in
    let h = simp to_z-of_z at c.in_err-read_resolution.ensures.read in
    search (rules, reads_and_then)

pub returns-in_err-read_angles-clause-read : goal.returns-in_err-read_angles-clause-read
unfolding reads head_format
returns-in_err-read_angles-clause-read c =
    let cell : FitsSigned w64 c.args.cell = c.ranges.cell in
    let h = simp to_z-of_z at c.in_ok-read_resolution.ensures.read in
    search (rules, reads_and_then)
