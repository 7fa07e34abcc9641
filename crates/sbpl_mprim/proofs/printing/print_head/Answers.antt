use Rattle.std.proofs.Common.{rules, SFits, w64}
use Rattle.std.proofs.lemmas.Int.{to_z-of_z}
use Rattle.sbpl_mprim.proofs.printing.print_head.Goals as goal

pub returns : goal.returns
returns c =
    let cell : SFits w64 c.cell.result = search rules in
    let wrote = simp (to_z-of_z, c.from.ensures, c.from-2.ensures) at c.push_lines.ensures.appended in
    rw (← c.cell.ensures.cell, ← c.headings.ensures.headings, ← c.len.ensures.count) (record { ok = wrote })
