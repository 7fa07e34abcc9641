use Rattle.std.proofs.Common.{rules}
use Rattle.std.proofs.lemmas.Int.{to_z-of_z}
use Rattle.std.specs.Prelude.{FitsSigned}
use Rattle.std.specs.Int.{w32}
use Rattle.sbpl_fixed.specs.Parts.{reads_and_then}
use Rattle.sbpl_fixed.specs.Formats.{reads}
use Rattle.sbpl_mprim.specs.Reading.{end_format}
use Rattle.sbpl_mprim.proofs.reading.read_end.Goals as goal

pub returns : goal.returns
unfolding reads end_format
returns c =
    let dx : FitsSigned w32 c.in_ok-dx.dx = search rules in
    let dy : FitsSigned w32 c.in_ok-dy.dy = search rules in
    let t : FitsSigned w32 c.in_ok-t.t = search rules in
    let h = simp to_z-of_z at c.heading_modulo-to.ensures.heading in
    simp to_z-of_z (search (rules, reads_and_then))
