use Rattle.std.proofs.Common.{rules, pos, ◌*ℤ◌, ◌+ℤ◌}
use Rattle.std.proofs.lemmas.Int.{ints, to_z-of_z}
use Rattle.std.specs.Prelude.{FitsSigned}
use Rattle.std.specs.Int.{w64}
use Rattle.sbpl_sweep.proofs.centres.offset_cell.Goals as goal

pub returns : goal.returns
returns c =
    let a : FitsSigned w64 (pos 2 *ℤ c.args.cell) = search (rules, ints) in
    let b : FitsSigned w64 (pos 2 *ℤ c.args.offset) = search (rules, ints) in
    let d : FitsSigned w64 (c.args.cell +ℤ (pos 2 *ℤ c.args.offset)) = search (rules, ints) in
    let m : FitsSigned w64 c.args.cell = c.ranges.cell in
    let n : FitsSigned w64 c.args.offset = c.ranges.offset in
    let r : FitsSigned w64 c.cell_at.result = search rules in
    let e = simp to_z-of_z at c.cell_at.ensures.cell in
    record { value = simp to_z-of_z e }
